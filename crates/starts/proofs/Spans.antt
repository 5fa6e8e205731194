-- What the factor and the spans at a token are, by what the records of the tokens begin with.
-- Assumes nothing.
use Rattle.std.proofs.Common.{◌≡◌, ℕ, suc, ◌+◌, ◌-◌, ◌<◌, max, Bool, true, false, cond, List, length, drop, Some, None, Option, sym, refl, ap, ◌∙◌, arith}
use Rattle.std.proofs.lemmas.List.{length-drop}
use Rattle.std.proofs.lemmas.Bool.{cond-true, cond-false}
use Rattle.sheet.specs.Kinds.{plus, star}
use Rattle.sheet.specs.Left.{Left, left}
use Rattle.sheet.specs.Sound.{all_sound}
use Rattle.sheet.specs.View.{SheetView}
use Rattle.sheet.specs.declared.records.Token.{Token}
use Rattle.starts.specs.Forms.{digits_form, rows_form, spans_form}
use Rattle.starts.specs.Fronts.{begins, in_front}
use Rattle.starts.specs.Numbers.{small}
use Rattle.starts.specs.Parts.{found_at, taking, number_at, span_of, factor_form, factor_part, column_form, column_span, row_form, row_span, both_form, both_span}
use Rattle.starts.specs.declared.parts.Span.{Span}
use Rattle.starts.proofs.Wholes.{begins_length, left_further, row_here, both_here, two_found, row_found, both_found}

cond_none : {X : Type 0} (b : Bool) (x : Option X) → x ≡ None → cond b x None ≡ None
cond_none true x e = e
cond_none false x e = refl

span_none : (c : Option ℕ) → span_of c None ≡ None
span_none None = refl
span_none (Some n) = refl

-- tokens that begin with a form are few enough to count
pub room : (v : SheetView) (i n : ℕ) (ts : List Token) (ps : List (Token → Bool)) → ts ≡ drop i v.tokens → begins ps ts ≡ true → length ps ≡ suc n → i + n < length v.tokens
room v i n ts ps here t l =
    let a = begins_length ps ts t in
    let b = ap length here in
    let d = length-drop i v.tokens in
    omega arith

module _ (v : SheetView) (h : all_sound v.page v.replacement v.tokens ≡ true) (i : ℕ) where
  -- a number some tokens further
  pub number_further : (n : ℕ) (x : Option ℕ) → x ≡ number_at 0 (left v (i + n) 0) → x ≡ number_at n (left v i 0)
  number_further n x e = e ∙ ap (in_front (λ t. small t.bytes)) (left_further v h i n)

  module _ (ts : List Token) (here : ts ≡ drop i v.tokens) where
    pub row_not : begins rows_form ts ≡ false → row_span (left v i 0) ≡ None
    row_not t = cond-false (row_form (left v i 0)) _ _ (row_here v h i ∙ ap (begins rows_form) (sym here) ∙ t)

    pub both_not : begins spans_form ts ≡ false → both_span (left v i 0) ≡ None
    both_not t = cond-false (both_form (left v i 0)) _ _ (both_here v h i ∙ ap (begins spans_form) (sym here) ∙ t)

    module _ (rest : List Token) (next : ℕ) (q : next ≡ length v.tokens - length rest) where
      pub factor_is : (n : ℕ) → begins (digits_form star) ts ≡ true → rest ≡ drop 2 ts → Some n ≡ number_at 0 (left v i 0)
          → found_at v (Some n) next ≡ factor_part (left v i 0)
      factor_is n t e m =
          let f = two_found v h i ts rest next here q star t e in
          ap (λ (x : List Left). record { said = Some n; left = x }) f.1
          ∙ ap (λ (x : Option ℕ). taking x 2 (left v i 0)) (m ∙ sym (cond-true (factor_form (left v i 0)) _ _ f.0))

      pub column_is : (n : ℕ) (s : Span) → begins (digits_form plus) ts ≡ true → rest ≡ drop 2 ts → Some n ≡ number_at 0 (left v i 0)
          → s ≡ record { columns = max 1 n; rows = max 1 1 } → (column_span (left v i 0) ≡ Some s) × (left v next 0 ≡ drop 2 (left v i 0))
      column_is n s t e m z =
          let f = two_found v h i ts rest next here q plus t e in
          (cond-true (column_form (left v i 0)) _ _ f.0 ∙ ap (λ (x : Option ℕ). span_of x (Some 1)) (sym m) ∙ ap Some (sym z), f.1)

      pub row_is : (n : ℕ) (s : Span) → begins rows_form ts ≡ true → rest ≡ drop 3 ts → Some n ≡ number_at 0 (left v (i + 1) 0)
          → s ≡ record { columns = max 1 1; rows = max 1 n } → (row_span (left v i 0) ≡ Some s) × (left v next 0 ≡ drop 3 (left v i 0))
      row_is n s t e m z =
          let f = row_found v h i ts rest next here q t e in
          (cond-true (row_form (left v i 0)) _ _ f.0 ∙ ap (λ (x : Option ℕ). span_of (Some 1) x) (sym (number_further 1 (Some n) m)) ∙ ap Some (sym z), f.1)

      pub both_is : (n k : ℕ) (s : Span) → begins spans_form ts ≡ true → rest ≡ drop 4 ts
          → Some n ≡ number_at 0 (left v i 0) → Some k ≡ number_at 0 (left v (i + 2) 0)
          → s ≡ record { columns = max 1 n; rows = max 1 k } → (both_span (left v i 0) ≡ Some s) × (left v next 0 ≡ drop 4 (left v i 0))
      both_is n k s t e m m' z =
          let f = both_found v h i ts rest next here q t e in (
            cond-true (both_form (left v i 0)) _ _ f.0 ∙ ap (λ (x : Option ℕ). span_of x (number_at 2 (left v i 0))) (sym m)
                ∙ ap (λ (x : Option ℕ). span_of (Some n) x) (sym (number_further 2 (Some k) m')) ∙ ap Some (sym z),
            f.1,
          )

  -- a number above 255 leaves the part absent
  pub row_large : None ≡ number_at 0 (left v (i + 1) 0) → row_span (left v i 0) ≡ None
  row_large m = cond_none (row_form (left v i 0)) _ (ap (λ (x : Option ℕ). span_of (Some 1) x) (sym (number_further 1 None m)))

  pub both_large : None ≡ number_at 0 (left v (i + 2) 0) → both_span (left v i 0) ≡ None
  both_large m = cond_none (both_form (left v i 0)) _ (ap (λ (x : Option ℕ). span_of (number_at 0 (left v i 0)) x) (sym (number_further 2 None m)) ∙ span_none (number_at 0 (left v i 0)))
