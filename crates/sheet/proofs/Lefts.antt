-- What is left at a place, one token or some bytes further.
-- Assumes nothing.
use Rattle.std.proofs.Common.{◌≡◌, ℕ, zero, suc, ◌+◌, ◌-◌, ◌<◌, ◌≤◌, Bool, true, false, cond, eqb, ltb, List, [], ◌∷◌, length, take, drop, sym, refl, ap, ◌∙◌, arith}
use Rattle.std.proofs.lemmas.List.{drop-drop, drop-take, length-take, length-drop, drop_all}
use Rattle.std.proofs.lemmas.Bool.{lt-ltb, le-ltb, and_parts, cond-true, cond-false, ne_eqb}
use Rattle.sheet.specs.Limits.{max_text}
use Rattle.sheet.specs.Sound.{text_of, sound_token, all_sound}
use Rattle.sheet.specs.View.{SheetView, kind_from}
use Rattle.sheet.specs.Left.{Left, token_from, wholes, left_from, left, back_of, behind_bytes}
use Rattle.sheet.specs.declared.records.Token.{Token}
use Rattle.sheet.proofs.Tokens.{token_has_byte, sound_drop}

-- at the front of a token, what is left are whole tokens
left_wholes : (v : SheetView) (i : ℕ) → all_sound v.page v.replacement v.tokens ≡ true → left v i 0 ≡ wholes v i (drop i v.tokens)
left_wholes v i h = go (drop i v.tokens) (sound_drop v.page v.replacement i v.tokens h)
  where
    go : (ts : List Token) → all_sound v.page v.replacement ts ≡ true → left_from v i 0 ts ≡ wholes v i ts
    go [] s = refl
    go (t ∷ ts) s = cond-true (ltb 0 t.length) _ _ (lt-ltb 0 t.length (token_has_byte v.page v.replacement t (and_parts (sound_token v.page v.replacement t) (all_sound v.page v.replacement ts) s).0))

pub left_past : (v : SheetView) (i o : ℕ) (t : Token) (us : List Token) → drop i v.tokens ≡ t ∷ us → t.length ≤ o → left v i o ≡ []
left_past v i o t us e l = ap (left_from v i o) e ∙ cond-false (ltb o t.length) _ _ (le-ltb o t.length l)

pub left_end : (v : SheetView) (i o : ℕ) → length v.tokens ≤ i → left v i o ≡ []
left_end v i o l = ap (left_from v i o) (drop_all i v.tokens l)

-- texts are short, so what ends in one ends early
pub within_text : (page replacement : List ℕ) (b : Bool) (n : ℕ) → length page ≤ max_text → length replacement ≤ max_text → n ≤ length (text_of page replacement b) → n ≤ max_text
within_text page replacement true n h k l = omega arith
within_text page replacement false n h k l = omega arith

-- a part of a text, without its first bytes
part_drop : (x : List ℕ) (s l o n : ℕ) → o + n ≤ l → drop n (take (l - o) (drop (s + o) x)) ≡ take (l - (o + n)) (drop (s + (o + n)) x)
part_drop x s l o n h =
    let e : l - o ≡ n + (l - (o + n)) = omega arith in
    let a : s + o + n ≡ s + (o + n) = omega arith in
    ap (λ (k : ℕ). drop n (take k (drop (s + o) x))) e ∙ drop-take n (l - (o + n)) (drop (s + o) x) ∙ ap (take (l - (o + n))) (drop-drop n (s + o) x ∙ ap (λ (k : ℕ). drop k x) a)

-- once a byte is dropped, the kind is Word for good
kind_again : (o n k : ℕ) → kind_from (o + n) k ≡ kind_from (o + n) (kind_from o k)
kind_again zero n k = refl
kind_again (suc o) n k =
    let e : eqb (suc o + n) 0 ≡ false = ne_eqb (suc o + n) 0 (λ z. omega arith) in
    cond-false (eqb (suc o + n) 0) _ _ e ∙ sym (cond-false (eqb (suc o + n) 0) _ _ e)

back_token : (v : SheetView) (i o n : ℕ) (t : Token) → o + n ≤ t.length → token_from v i (o + n) t ≡ back_of n (token_from v i o t)
back_token v i o n t h =
    let k = kind_again o n t.kind in
    let b = part_drop (text_of v.page v.replacement t.replaced) t.start t.length o n h in
    cc

module _ (v : SheetView) (i o : ℕ) (t : Token) (h : all_sound v.page v.replacement v.tokens ≡ true) (e : drop i v.tokens ≡ t ∷ drop (i + 1) v.tokens) where
  -- the token in front, then those behind it
  pub left_more : o < t.length → left v i o ≡ token_from v i o t ∷ left v (i + 1) 0
  left_more l =
      ap (left_from v i o) e ∙ cond-true (ltb o t.length) _ _ (lt-ltb o t.length l) ∙ ap (λ (x : List Left). token_from v i o t ∷ x) (sym (left_wholes v (i + 1) h))

  -- how many bytes a token has from an offset on
  pub size_from : t.start + t.length ≤ length (text_of v.page v.replacement t.replaced) → o ≤ t.length → length (token_from v i o t).bytes ≡ t.length - o
  size_from s l =
      let a = length-take (t.length - o) (drop (t.start + o) (text_of v.page v.replacement t.replaced)) in
      let d = length-drop (t.start + o) (text_of v.page v.replacement t.replaced) in
      omega arith

module _ (v : SheetView) (i o n : ℕ) (t : Token) (h : all_sound v.page v.replacement v.tokens ≡ true) (e : drop i v.tokens ≡ t ∷ drop (i + 1) v.tokens)
    (s : t.start + t.length ≤ length (text_of v.page v.replacement t.replaced)) (l : o < t.length) where
  behind_by : (b : Bool) → ltb n (length (token_from v i o t).bytes) ≡ b → behind_bytes n (left v i o) ≡ cond b (back_of n (token_from v i o t) ∷ left v (i + 1) 0) (left v (i + 1) 0)
  behind_by b q = ap (behind_bytes n) (left_more v i o t h e l) ∙ ap (λ (x : Bool). cond x (back_of n (token_from v i o t) ∷ left v (i + 1) 0) (left v (i + 1) 0)) q

  pub behind_inner : o + n < t.length → left v i (o + n) ≡ behind_bytes n (left v i o)
  behind_inner m =
      let z = size_from v i o t h e s (omega arith) in
      left_more v i (o + n) t h e m ∙ ap (λ (x : Left). x ∷ left v (i + 1) 0) (back_token v i o n t (omega arith)) ∙ sym (behind_by true (lt-ltb n _ (omega arith)))

  pub behind_outer : t.length ≤ o + n → left v (i + 1) 0 ≡ behind_bytes n (left v i o)
  behind_outer m = let z = size_from v i o t h e s (omega arith) in sym (behind_by false (le-ltb n _ (omega arith)))
