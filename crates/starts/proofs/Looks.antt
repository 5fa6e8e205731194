-- What one look at the token in front tells: a start, or none.
-- Assumes nothing.
use Rattle.std.proofs.Common.{◌≡◌, ℕ, ◌<◌, Bool, true, false, cond, not, ◌&&◌, ◌||◌, eqb, ltb, List, [], ◌∷◌, length, get_or, is_some, Some, None, Option, sym, refl, ap, ◌∙◌, subst, ⊎_elim, arith}
use Rattle.std.proofs.lemmas.Bool.{cond-false, lt-ltb, eq-eqb, ne_eqb, and_cases, and_left, and_right, or_parts}
use Rattle.sheet.specs.Kinds.{callout_number, caret, digits, dots, greater_than, less_than, word}
use Rattle.styles.specs.Styles.{style_named}
use Rattle.styles.specs.declared.Style.{Style}
use Rattle.sheet.specs.Left.{Left, left_at, behind_bytes, plain}
use Rattle.sheet.specs.View.{SheetView}
use Rattle.starts.specs.Fronts.{begins, dot, callout, has_byte}
use Rattle.starts.specs.Parts.{Said, Found, taking, factor_form, factor_part, column_form, column_span, row_form, row_span, both_form, both_span, span_by, span_part, alignment_part, vertical_part, parts_of}
use Rattle.starts.specs.declared.parts.Alignment.{Alignment}
use Rattle.starts.specs.declared.parts.Span.{Span}
use Rattle.starts.specs.declared.specifier.Vertical.{Vertical}
use Rattle.starts.specs.Start.{Started, StartIs, start_of, start_behind, start_by, may_start, part_kind, nothing_written}
use Rattle.starts.specs.declared.specifier.Start.{Start}

-- a token that begins with the separator starts a cell
pub starts_here : (sep : ℕ) (t : Left) (ts : List Left) → t.replaced ≡ false → 0 < length t.bytes → get_or t.bytes 0 0 ≡ sep
    → start_of sep (t ∷ ts) ≡ Some (record { specifier = nothing_written; left = behind_bytes 1 (t ∷ ts) })
starts_here sep t ts r l e =
    let a = lt-ltb 0 (length t.bytes) l in
    let b = eq-eqb (get_or t.bytes 0 0) sep e in
    rw (r, a, b)

span_absent : (ts : List Left) (c r b : Option Span) → c ≡ None → r ≡ None → b ≡ None → span_by c r b ts ≡ record { said = None; left = ts }
span_absent ts c r b e f g = rw (e, f, g)

-- no part, before these tokens
abbrev absent_before : List Left → Said
absent_before ts = record { parts = record { factor = None; span = None; alignment = None; vertical = None }; left = ts }

-- parts that are all absent leave what was there
all_absent : (F : List Left → Found ℕ) (S : List Left → Found Span) (A : List Left → Found Alignment) (V : List Left → Found Vertical) (ts : List Left)
    → F ts ≡ record { said = None; left = ts } → S ts ≡ record { said = None; left = ts } → A ts ≡ record { said = None; left = ts } → V ts ≡ record { said = None; left = ts }
    → ◌≡◌ {A = Said} (let f : Found ℕ = F ts in
    let s : Found Span = S f.left in
    let a : Found Alignment = A s.left in
    let v : Found Vertical = V a.left in
    record { parts = record { factor = f.said; span = s.said; alignment = a.said; vertical = v.said }; left = v.left })
    (absent_before ts)
all_absent F S A V ts f s a v = rw (f, s, a, v)

-- a token of none of the parts' kinds begins no part
module _ (t : Left) (ts : List Left) (no_digits : plain digits t ≡ false) (no_dots : plain dots t ≡ false) (no_less : plain less_than t ≡ false)
    (no_greater : plain greater_than t ≡ false) (no_caret : plain caret t ≡ false) (no_callout : plain callout_number t ≡ false) where
  no_factor : factor_part (t ∷ ts) ≡ record { said = None; left = t ∷ ts }
  no_factor = ap (λ (x : Option ℕ). taking x 2 (t ∷ ts)) (cond-false (factor_form (t ∷ ts)) _ _ (and_left (plain digits t) _ no_digits))

  no_span : span_part (t ∷ ts) ≡ record { said = None; left = t ∷ ts }
  no_span =
      let a : column_span (t ∷ ts) ≡ None = cond-false (column_form (t ∷ ts)) _ _ (and_left (plain digits t) _ no_digits) in
      let b : row_span (t ∷ ts) ≡ None = cond-false (row_form (t ∷ ts)) _ _ (and_left (dot t) _ (and_left (plain dots t) _ no_dots)) in
      let d : both_span (t ∷ ts) ≡ None = cond-false (both_form (t ∷ ts)) _ _ (and_left (plain digits t) _ no_digits) in
      span_absent (t ∷ ts) _ _ _ a b d

  no_alignment : alignment_part (t ∷ ts) ≡ record { said = None; left = t ∷ ts }
  no_alignment =
      ap (λ (x : Option Alignment). taking x 1 (t ∷ ts))
      (cond-false (plain less_than t) _ _ no_less ∙ cond-false (plain greater_than t) _ _ no_greater ∙ cond-false (plain caret t) _ _ no_caret
      ∙ cond-false (callout t) _ _ (and_left (plain callout_number t) _ no_callout))

  no_vertical : vertical_part (t ∷ ts) ≡ record { said = None; left = t ∷ ts }
  no_vertical = ap (λ (x : Option Vertical). taking x 2 (t ∷ ts)) (cond-false (begins (dot ∷ []) (t ∷ ts)) _ _ (and_left (dot t) _ (and_left (plain dots t) _ no_dots)))

  no_parts : parts_of (t ∷ ts) ≡ absent_before (t ∷ ts)
  no_parts = all_absent factor_part span_part alignment_part vertical_part (t ∷ ts) no_factor no_span no_alignment no_vertical

-- an unreplaced token of a kind other than those of the parts
plain_not : (k : ℕ) (t : Left) → (not t.replaced && part_kind t.kind) ≡ false → ((x : ℕ) → part_kind x ≡ false → eqb x k ≡ false) → plain k t ≡ false
plain_not k t e other = ⊎_elim (λ r. and_left (not t.replaced) _ r) (λ q. and_right (not t.replaced) _ (other t.kind q)) (and_cases (not t.replaced) (part_kind t.kind) e)

no_part : (t : Left) (ts : List Left) → (not t.replaced && part_kind t.kind) ≡ false
    → parts_of (t ∷ ts) ≡ absent_before (t ∷ ts)
no_part t ts e =
    no_parts t ts (plain_not digits t e (λ x q. (kinds x q).0)) (plain_not dots t e (λ x q. (kinds x q).1)) (plain_not less_than t e (λ x q. (kinds x q).2))
    (plain_not greater_than t e (λ x q. (kinds x q).3)) (plain_not caret t e (λ x q. (kinds x q).4)) (plain_not callout_number t e (λ x q. (kinds x q).5))
  where
    kinds : (x : ℕ) → part_kind x ≡ false → (eqb x digits ≡ false) × (eqb x dots ≡ false) × (eqb x less_than ≡ false) × (eqb x greater_than ≡ false) × (eqb x caret ≡ false) × (eqb x callout_number ≡ false)
    kinds x q =
        let a = or_parts (eqb x digits) _ q in
        let b = or_parts (eqb x dots) _ a.1 in
        let c = or_parts (eqb x less_than) _ b.1 in
        let d = or_parts (eqb x greater_than) _ c.1 in
        let f = or_parts (eqb x caret) _ d.1 in
        (a.0, b.0, c.0, d.0, f.0, f.1)

-- Where the token in front does not begin with the separator and is none that a specifier begins with, no cell starts.
pub no_start : (sep : ℕ) (t : Left) (ts : List Left) → (get_or t.bytes 0 0 ≡ sep → ⊥)
    → (not t.replaced && may_start t.kind (get_or t.bytes 0 0)) ≡ false → start_of sep (t ∷ ts) ≡ None
no_start sep t ts s m =
    cond-false (begins (has_byte sep 0 ∷ []) (t ∷ ts)) _ _ (and_left (has_byte sep 0 t) _ (and_right (not t.replaced) _ (and_right (ltb 0 (length t.bytes)) _ (ne_eqb (get_or t.bytes 0 0) sep s))))
    ∙ ap (start_behind sep) (no_part t ts (part t.replaced (part_kind t.kind) _ m))
    ∙ ap (start_by sep (absent_before (t ∷ ts))) (style t.replaced (part_kind t.kind) (eqb t.kind word) (style_named (get_or t.bytes 0 0)) m)
  where
    part : (r p w : Bool) → (not r && (p || w)) ≡ false → (not r && p) ≡ false
    part true p w e = refl
    part false true w e = e
    part false false w e = refl

    style : (r p w : Bool) (o : Option Style) → (not r && (p || (w && is_some o))) ≡ false → cond (not r && w) o None ≡ None
    style true p w o e = refl
    style false true w o e = let z : ◌≡◌ {A = ℕ} 0 1 = cc in absurd (omega arith)
    style false false false o e = refl
    style false false true None e = refl
    style false false true (Some x) e = let z : ◌≡◌ {A = ℕ} 0 1 = cc in absurd (omega arith)

-- the code's answers, where what is left is known
pub start_is_none : (v : SheetView) (o : Option Started) → o ≡ None → StartIs v None o
start_is_none v o e = subst (λ (x : Option Started). StartIs v None x) (sym e) tt

pub start_is_some : (v : SheetView) (s : Start) (o : Option Started) (t : Started) → o ≡ Some t → s.specifier ≡ t.specifier → left_at v s.rest ≡ t.left → StartIs v (Some s) o
start_is_some v s o t e a b = subst (λ (x : Option Started). StartIs v (Some s) x) (sym e) (a, b)
