-- From the records of tokens to the tokens that are left at the front of one.
-- Assumes nothing.
use Rattle.std.proofs.Common.{◌≡◌, ℕ, zero, suc, ◌+◌, ◌-◌, ◌≤◌, Bool, true, ◌&&◌, eqb, ltb, List, [], ◌∷◌, length, take, drop, sym, refl, ap, ◌∙◌, arith}
use Rattle.std.proofs.lemmas.List.{drop-drop, length-take, length-drop}
use Rattle.std.proofs.lemmas.Bool.{lt-ltb, and_parts, cond-true}
use Rattle.sheet.specs.Kinds.{digits, dots, plus}
use Rattle.sheet.specs.Left.{token_from, wholes, left_from, left, plain}
use Rattle.sheet.specs.Sound.{text_of, sound_token, all_sound}
use Rattle.sheet.specs.View.{SheetView}
use Rattle.sheet.specs.declared.records.Token.{Token}
use Rattle.sheet.proofs.Tokens.{ends_inside, token_has_byte, sound_drop}
use Rattle.starts.specs.Forms.{plain_token, dot_token, digits_form, rows_form, spans_form}
use Rattle.starts.specs.Fronts.{begins, dot}
use Rattle.starts.specs.Parts.{column_form, row_form, both_form}

-- behind n whole tokens are whole tokens
drop_wholes : (v : SheetView) (i n : ℕ) (ts : List Token) → drop n (wholes v i ts) ≡ wholes v (i + n) (drop n ts)
drop_wholes v i zero ts = ap (λ (k : ℕ). wholes v k ts) (omega arith)
drop_wholes v i (suc n) [] = refl
drop_wholes v i (suc n) (t ∷ ts) = drop_wholes v (i + 1) n ts ∙ ap (λ (k : ℕ). wholes v k (drop n ts)) (omega arith)

-- tests of kinds alone read the same from the records
two_tests : (v : SheetView) (i a b : ℕ) (ts : List Token) → begins (plain a ∷ plain b ∷ []) (wholes v i ts) ≡ begins (plain_token a ∷ plain_token b ∷ []) ts
two_tests v i a b [] = refl
two_tests v i a b (t ∷ []) = refl
two_tests v i a b (t ∷ (u ∷ ts)) = refl

-- a sound token has as many bytes as its record says
dot_test : (v : SheetView) (i : ℕ) (t : Token) → sound_token v.page v.replacement t ≡ true → dot (token_from v i 0 t) ≡ dot_token t
dot_test v i t s =
    let x = text_of v.page v.replacement t.replaced in
    let ends = ends_inside v.page v.replacement t s in
    let a = length-take (t.length - 0) (drop (t.start + 0) x) in
    let d = length-drop (t.start + 0) x in
    let e : length (take (t.length - 0) (drop (t.start + 0) x)) ≡ t.length = omega arith in
    ap (λ (n : ℕ). plain_token dots t && eqb n 1) e

row_tests : (v : SheetView) (i : ℕ) (ts : List Token) → all_sound v.page v.replacement ts ≡ true → row_form (wholes v i ts) ≡ begins rows_form ts
row_tests v i [] s = refl
row_tests v i (t ∷ ts) s =
    let d = dot_test v i t (and_parts (sound_token v.page v.replacement t) (all_sound v.page v.replacement ts) s).0 in
    let r = two_tests v (i + 1) digits plus ts in
    ap (λ (x : Bool). x && column_form (wholes v (i + 1) ts)) d ∙ ap (λ (x : Bool). dot_token t && x) r

both_tests : (v : SheetView) (i : ℕ) (ts : List Token) → all_sound v.page v.replacement ts ≡ true → both_form (wholes v i ts) ≡ begins spans_form ts
both_tests v i [] s = refl
both_tests v i (t ∷ ts) s =
    ap (λ (x : Bool). plain_token digits t && x) (row_tests v (i + 1) ts (and_parts (sound_token v.page v.replacement t) (all_sound v.page v.replacement ts) s).1)

pub begins_length : {X : Type 0} (ps : List (X → Bool)) (ts : List X) → begins ps ts ≡ true → length ps ≤ length ts
begins_length [] ts h = omega arith
begins_length (p ∷ ps) [] h = let z : ◌≡◌ {A = ℕ} 0 1 = cc in absurd (omega arith)
begins_length (p ∷ ps) (t ∷ ts) h = let l = begins_length ps ts (and_parts (p t) (begins ps ts) h).1 in omega arith

module _ (v : SheetView) (h : all_sound v.page v.replacement v.tokens ≡ true) where
  -- at the front of a token, what is left are whole tokens
  pub left_wholes : (i : ℕ) → left v i 0 ≡ wholes v i (drop i v.tokens)
  left_wholes i = go (drop i v.tokens) (sound_drop v.page v.replacement i v.tokens h)
    where
      go : (ts : List Token) → all_sound v.page v.replacement ts ≡ true → left_from v i 0 ts ≡ wholes v i ts
      go [] s = refl
      go (t ∷ ts) s = cond-true (ltb 0 t.length) _ _ (lt-ltb 0 t.length (token_has_byte v.page v.replacement t (and_parts (sound_token v.page v.replacement t) (all_sound v.page v.replacement ts) s).0))

  -- n tokens further
  pub left_further : (i n : ℕ) → left v (i + n) 0 ≡ drop n (left v i 0)
  left_further i n =
      left_wholes (i + n) ∙ sym (ap (drop n) (left_wholes i) ∙ drop_wholes v i n (drop i v.tokens) ∙ ap (wholes v (i + n)) (drop-drop n i v.tokens))

  -- the place of the tokens behind a form
  pub left_behind : (i n : ℕ) (rest : List Token) (next : ℕ) → rest ≡ drop (suc n) (drop i v.tokens) → next ≡ length v.tokens - length rest
      → suc n ≤ length (drop i v.tokens) → left v next 0 ≡ drop (suc n) (left v i 0)
  left_behind i n rest next e q l =
      let a = ap length e in
      let b = length-drop (suc n) (drop i v.tokens) in
      let c = length-drop i v.tokens in
      let s : next ≡ i + suc n = omega arith in
      ap (λ (k : ℕ). left v k 0) s ∙ left_further i (suc n)

  pub two_here : (i k : ℕ) → begins (plain digits ∷ plain k ∷ []) (left v i 0) ≡ begins (digits_form k) (drop i v.tokens)
  two_here i k = ap (begins (plain digits ∷ plain k ∷ [])) (left_wholes i) ∙ two_tests v i digits k (drop i v.tokens)

  pub row_here : (i : ℕ) → row_form (left v i 0) ≡ begins rows_form (drop i v.tokens)
  row_here i = ap row_form (left_wholes i) ∙ row_tests v i (drop i v.tokens) (sound_drop v.page v.replacement i v.tokens h)

  pub both_here : (i : ℕ) → both_form (left v i 0) ≡ begins spans_form (drop i v.tokens)
  both_here i = ap both_form (left_wholes i) ∙ both_tests v i (drop i v.tokens) (sound_drop v.page v.replacement i v.tokens h)

  -- a form that the records begin with is one that the tokens begin with, and the rest is what is left behind it
  module _ (i : ℕ) (ts rest : List Token) (next : ℕ) (here : ts ≡ drop i v.tokens) (q : next ≡ length v.tokens - length rest) where
    behind : (n : ℕ) → rest ≡ drop (suc n) ts → suc n ≤ length ts → left v next 0 ≡ drop (suc n) (left v i 0)
    behind n e l = left_behind i n rest next (e ∙ ap (drop (suc n)) here) q (let z = ap length here in omega arith)

    pub two_found : (k : ℕ) → begins (digits_form k) ts ≡ true → rest ≡ drop 2 ts
        → (begins (plain digits ∷ plain k ∷ []) (left v i 0) ≡ true) × (left v next 0 ≡ drop 2 (left v i 0))
    two_found k t e = (two_here i k ∙ ap (begins (digits_form k)) (sym here) ∙ t, behind 1 e (begins_length (digits_form k) ts t))

    pub row_found : begins rows_form ts ≡ true → rest ≡ drop 3 ts → (row_form (left v i 0) ≡ true) × (left v next 0 ≡ drop 3 (left v i 0))
    row_found t e = (row_here i ∙ ap (begins rows_form) (sym here) ∙ t, behind 2 e (begins_length rows_form ts t))

    pub both_found : begins spans_form ts ≡ true → rest ≡ drop 4 ts → (both_form (left v i 0) ≡ true) × (left v next 0 ≡ drop 4 (left v i 0))
    both_found t e = (both_here i ∙ ap (begins spans_form) (sym here) ∙ t, behind 3 e (begins_length spans_form ts t))
