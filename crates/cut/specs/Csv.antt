-- CSV: comma-separated values.
-- Assumes nothing.
use Rattle.std.specs.Prelude.{Bool, false, cond, List, [], ◌∷◌, Some, None}
use Rattle.sheet.specs.Left.{Left}
use Rattle.cut.specs.Blanks.{is_newline, skip}
use Rattle.cut.specs.Dsv.{split_role}
use Rattle.cut.specs.Field.{is_inside, is_doubled}
use Rattle.cut.specs.Fields.{Begin}
use Rattle.cut.specs.Separators.{separates, quotes}
use Rattle.cut.specs.declared.machine.Role.{Role}
use Rattle.cut.specs.declared.machine.Role.TheVariants.{EndsLine, Separates, Drops, Takes, Notes}
use Rattle.cut.specs.declared.machine.State.{State}
use Rattle.cut.specs.declared.machine.State.TheVariants.{Plain, Inside, Doubled}
use Rattle.cut.specs.declared.types.Separator.{Separator}

-- whether the next token is a DoubleQuote
abbrev pub quote_next : List Left → Bool
quote_next [] = false
quote_next (t ∷ ts) = quotes t

-- a DoubleQuote inside quotes that is followed by another gives one quote, the second; otherwise it closes the field;
-- outside it is dropped with a note
abbrev pub quote_role : Bool → Bool → Role
quote_role inside next = cond inside (cond next (Drops Doubled) (Drops Plain)) Notes

-- outside quotes a Newline or a separator closes the cell
abbrev pub csv_plain : Separator → Left → Role
csv_plain sep t = cond (is_newline t) EndsLine (cond (separates sep t) Separates (split_role sep t))

-- any other token: inside quotes nothing separates and no Word is split, and a Newline taken marks a line end
abbrev pub csv_at : Separator → Bool → Bool → Left → Role
csv_at sep inside next t = cond (quotes t) (quote_role inside next) (cond inside (Takes Inside (is_newline t)) (csv_plain sep t))

-- what a token does in a CSV cell
abbrev pub csv_role : Separator → State → List Left → Role
csv_role sep s [] = EndsLine
csv_role sep s (t ∷ ts) = cond (is_doubled s) (Takes Inside false) (csv_at sep (is_inside s) (quote_next ts) t)

-- a DoubleQuote at the front opens a quoted field, and Whitespace and Newline behind it are skipped
abbrev pub csv_begin : List Left → Begin
csv_begin [] = record { state = Plain; left = []; quote = None }
csv_begin (t ∷ ts) =
    cond (quotes t) (record { state = Inside; left = skip false ts; quote = Some t.number })
    (record { state = Plain; left = t ∷ ts; quote = None })
