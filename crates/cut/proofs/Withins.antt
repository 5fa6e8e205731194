-- What the formats say of a token splits it inside.
-- Assumes nothing.
use Rattle.std.proofs.Common.{◌≡◌, ℕ, Bool, true, false, length, nat_lt, sym, subst, arith}
use Rattle.std.proofs.lemmas.Bool.{and_parts, cond_both, false≢true, ltb-true}
use Rattle.sheet.specs.Kinds.{word}
use Rattle.sheet.specs.Left.{Left, plain}
use Rattle.cut.specs.Blanks.{is_newline}
use Rattle.cut.specs.Csv.{csv_at, quote_role}
use Rattle.cut.specs.Dsv.{dsv_plain, split_role}
use Rattle.cut.specs.Prefix.{prefix_takes}
use Rattle.cut.specs.Separators.{escapes, quotes, separates, separator_of, split_at, splits}
use Rattle.cut.specs.Within.{Within}
use Rattle.cut.specs.declared.machine.Role.{Role}
use Rattle.cut.specs.declared.types.Separator.{Separator}
use Rattle.cut.specs.declared.types.Separator.TheVariants.{Kind, Byte}

splits_inside : (sep : Separator) (t : Left) → splits sep t ≡ true → nat_lt (split_at sep t) (length t.bytes) ≡ true
splits_inside (Kind k) t e = absurd (false≢true e)
splits_inside (Byte b) t e = (and_parts (plain word t) _ e).1

split_within : (sep : Separator) (t : Left) → Within (split_role sep t) (length t.bytes)
split_within sep t =
    cond_both (splits sep t) _ _ (λ (r : Role). Within r (length t.bytes))
    (λ e. let l = ltb-true _ _ (splits_inside sep t e) in (omega arith, omega arith)) (λ e. tt)

quote_within : (inside next : Bool) (size : ℕ) → Within (quote_role inside next) size
quote_within true true size = tt
quote_within true false size = tt
quote_within false next size = tt

pub csv_within : (sep : Separator) (inside next : Bool) (t : Left) (r : Role) → r ≡ csv_at sep inside next t → Within r (length t.bytes)
csv_within sep inside next t r e =
    let P = λ (x : Role). Within x (length t.bytes) in
    subst P (sym e)
    (cond_both (quotes t) _ _ P (λ q. quote_within inside next (length t.bytes))
    (λ q. cond_both inside _ _ P (λ i. tt) (λ i. cond_both (is_newline t) _ _ P (λ n. tt) (λ n. cond_both (separates sep t) _ _ P (λ s. tt) (λ s. split_within sep t)))))

pub dsv_within : (sep : Separator) (t : Left) (r : Role) → r ≡ dsv_plain sep t → Within r (length t.bytes)
dsv_within sep t r e =
    let P = λ (x : Role). Within x (length t.bytes) in
    subst P (sym e)
    (cond_both (is_newline t) _ _ P (λ n. tt) (λ n. cond_both (separates sep t) _ _ P (λ s. tt) (λ s. cond_both (escapes t) _ _ P (λ b. tt) (λ b. split_within sep t))))

pub prefix_within : (sep : ℕ) (t : Left) (r : Role) → r ≡ prefix_takes sep t → Within r (length t.bytes)
prefix_within sep t r e =
    let P = λ (x : Role). Within x (length t.bytes) in
    subst P (sym e)
    (cond_both (splits (separator_of sep) t) _ _ P (λ s. let l = ltb-true _ _ (splits_inside (separator_of sep) t s) in (omega arith, omega arith)) (λ s. tt))
