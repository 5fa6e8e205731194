-- In CSV and in DSV, what closes a cell takes something.
-- Assumes nothing.
use Rattle.std.specs.Prelude.{Bool, true, false, [], ◌∷◌}
use Rattle.std.proofs.Common.{arith}
use Rattle.std.proofs.lemmas.Bool.{cond_both}
use Rattle.sheet.specs.Left.{Left}
use Rattle.cut.specs.Blanks.{is_newline}
use Rattle.cut.specs.Csv.{quote_next, quote_role, csv_role}
use Rattle.cut.specs.Dsv.{split_role, dsv_role}
use Rattle.cut.specs.Field.{is_doubled, is_escaped, is_inside}
use Rattle.cut.specs.Moves.{Moves, AllMove}
use Rattle.cut.specs.Separators.{separates, splits, escapes, quotes}
use Rattle.cut.specs.declared.types.Separator.{Separator}

split_moves : (sep : Separator) (t : Left) → Moves (split_role sep t)
split_moves sep t = cond_both (splits sep t) _ _ Moves (λ e. omega arith) (λ e. tt)

pub dsv_moves : (sep : Separator) → AllMove (dsv_role sep)
dsv_moves sep s [] = tt
dsv_moves sep s (t ∷ ts) =
    cond_both (is_escaped s) _ _ Moves (λ e. tt)
    (λ e. cond_both (is_newline t) _ _ Moves (λ e. tt) (λ e. cond_both (separates sep t) _ _ Moves (λ e. tt) (λ e. cond_both (escapes t) _ _ Moves (λ e. tt) (λ e. split_moves sep t))))

quote_moves : (inside next : Bool) → Moves (quote_role inside next)
quote_moves true true = tt
quote_moves true false = tt
quote_moves false next = tt

pub csv_moves : (sep : Separator) → AllMove (csv_role sep)
csv_moves sep s [] = tt
csv_moves sep s (t ∷ ts) =
    cond_both (is_doubled s) _ _ Moves (λ e. tt)
    (λ e.
    cond_both (quotes t) _ _ Moves (λ e. quote_moves (is_inside s) (quote_next ts))
    (λ e. cond_both (is_inside s) _ _ Moves (λ e. tt) (λ e. cond_both (is_newline t) _ _ Moves (λ e. tt) (λ e. cond_both (separates sep t) _ _ Moves (λ e. tt) (λ e. split_moves sep t)))))
