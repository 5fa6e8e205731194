-- From a text cut token by token: the bytes joined are the text, and every token is sound.
-- Assumes nothing.
use Rattle.std.proofs.Common.{◌≡◌, ℕ, zero, suc, ◌+◌, ◌<◌, ◌≤◌, Bool, true, false, cond, not, ◌&&◌, ◌||◌, eqb, ltb, leb, List, [], ◌∷◌, length, take, drop, is_some, Some, None, Option, unwrap_or, sym, refl, ap, ◌∙◌, subst, ⊎_elim, arith, length-drop, take-append-drop}
use Rattle.std.specs.List.{flat_map}
use Rattle.std.specs.Iterator.{Yields, DrainsIf}
use Rattle.std.proofs.lemmas.List.{drop-drop, drop_all}
use Rattle.std.proofs.lemmas.Bool.Decides.{nat_tests}
use Rattle.std.proofs.lemmas.Grind.{common_steps}
use Rattle.std.proofs.lemmas.Bool.{lt-ltb, le-leb, eqb-true, and_from, and_parts, and_right, or_cases, cases_Bool, both_ways}
use Rattle.sheet.specs.Kinds.{callout_number, digits, newline, word}
use Rattle.sheet.specs.Sound.{is_kind, is_digit, all_digits, one_byte, bytes_fit, flag_fits, sound_token, all_sound, token_bytes}
use Rattle.sheet.specs.declared.records.Token.{Token}
use Rattle.lexer.specs.Kinds.{kind_of, joins}
use Rattle.lexer.specs.Front.{run, callout, plain_length, front_kind, front_length, front}
use Rattle.lexer.specs.Lexed.{Cut, Lexed}
use Rattle.lexer.specs.Tokens.{TakesToken}
use Rattle.lexer.specs.declared.lexing.Tokens.{Tokens}
use Rattle.lexer.proofs.Fronts.{front_bounds}

-- the bytes of the tokens, joined, are what is left of the text
whole_from : (text : List ℕ) (at : ℕ) (ts : List Token) → Cut text at ts → flat_map (token_bytes text []) ts ≡ drop at text
whole_from text at [] h = sym (drop_all at text h)
whole_from text at (t ∷ ts) (h, e, rest) =
    grind (arith, common_steps, whole_from text (at + t.length) ts rest, drop-drop t.length at text, take-append-drop t.length (drop at text))

-- what holds of each byte and its kind: it is a kind; the byte fits it; and a run of it holds digits or is free
abbrev fits_at : ℕ → ℕ → Bool
fits_at k b = is_kind k && (bytes_fit k (b ∷ []) && (not (joins k) || (eqb k digits || not (is_some (one_byte k)))))

abbrev below : ℕ → (ℕ → Bool) → Bool
below zero f = true
below (suc n) f = f n && below n f

from_below : (f : ℕ → Bool) (n : ℕ) → below n f ≡ true → (k : ℕ) → k < n → f k ≡ true
from_below f zero h k l = absurd (omega arith)
from_below f (suc n) h k l = grind (arith, nat_tests, from_below f n)

-- the bytes of ASCII, one by one
ascii : below 128 (λ b. fits_at (kind_of b) b) ≡ true
ascii = refl

-- a byte past ASCII is part of a Word
wide : (b : ℕ) → 128 ≤ b → kind_of b ≡ word
wide b h = grind (arith, nat_tests)

each_byte : (b : ℕ) → fits_at (kind_of b) b ≡ true
each_byte b = grind (arith, nat_tests, from_below (λ x. fits_at (kind_of x) x) 128 ascii b, wide b)

module _ (b : ℕ) where
  known_kind : is_kind (kind_of b) ≡ true
  known_kind = (and_parts (is_kind (kind_of b)) _ (each_byte b)).0

  byte_fits : bytes_fit (kind_of b) (b ∷ []) ≡ true
  byte_fits = (and_parts (bytes_fit (kind_of b) (b ∷ [])) _ (and_parts (is_kind (kind_of b)) _ (each_byte b)).1).0

  run_fits : joins (kind_of b) ≡ true → (eqb (kind_of b) digits || not (is_some (one_byte (kind_of b)))) ≡ true
  run_fits j =
      let r = (and_parts (bytes_fit (kind_of b) (b ∷ [])) _ (and_parts (is_kind (kind_of b)) _ (each_byte b)).1).1 in
      ap (λ (x : Bool). not x || (eqb (kind_of b) digits || not (is_some (one_byte (kind_of b))))) (sym j) ∙ r

  -- a byte whose kind is Digits is a digit
  digit_is : kind_of b ≡ digits → is_digit b ≡ true
  digit_is e = grind (arith, byte_fits)

-- a run of digits holds only digits
run_digits : (bs : List ℕ) → all_digits (take (run digits bs) bs) ≡ true
run_digits [] = refl
run_digits (b ∷ bs) = go (eqb (kind_of b) digits) refl (run_digits bs)
  where
    go : (t : Bool) → eqb (kind_of b) digits ≡ t → all_digits (take (run digits bs) bs) ≡ true → all_digits (take (cond t (1 + run digits bs) 0) (b ∷ bs)) ≡ true
    go true e h =
        let one : 1 + run digits bs ≡ suc (run digits bs) = omega arith in
        ap (λ (n : ℕ). all_digits (take n (b ∷ bs))) one ∙ and_from (is_digit b) _ (digit_is b (eqb-true (kind_of b) digits e)) h
    go false e h = refl

-- bytes of a kind that has no byte of its own are free, and so are none of another than Digits
free : (k : ℕ) (xs : List ℕ) → eqb k digits ≡ false → not (is_some (one_byte k)) ≡ true → bytes_fit k xs ≡ true
free k xs d n = grind (arith, nat_tests)

-- the whole run at the front fits its kind
run_bytes_fit : (b : ℕ) (bs : List ℕ) → joins (kind_of b) ≡ true → bytes_fit (kind_of b) (take (run (kind_of b) (b ∷ bs)) (b ∷ bs)) ≡ true
run_bytes_fit b bs j =
    ⊎_elim
    (λ d.
    let e = eqb-true (kind_of b) digits d in
    ap (λ (k : ℕ). bytes_fit k (take (run k (b ∷ bs)) (b ∷ bs))) e ∙ run_digits (b ∷ bs))
    (λ d.
    free (kind_of b) (take (run (kind_of b) (b ∷ bs)) (b ∷ bs)) d
    (⊎_elim (λ t. absurd (both_ways (eqb (kind_of b) digits) d t)) (λ t. t) (or_cases (eqb (kind_of b) digits) (not (is_some (one_byte (kind_of b)))) (run_fits b j))))
    (cases_Bool (eqb (kind_of b) digits))

-- the token at the front has a kind, and its bytes fit that
front_fits : (bs : List ℕ) → 0 < length bs → (is_kind (front_kind bs) ≡ true) × (bytes_fit (front_kind bs) (take (front_length bs) bs) ≡ true)
front_fits [] h = absurd (omega arith)
front_fits (b ∷ bs) h = go (callout (b ∷ bs))
  where
    plain : (j : Bool) → joins (kind_of b) ≡ j → bytes_fit (kind_of b) (take (cond j (run (kind_of b) (b ∷ bs)) 1) (b ∷ bs)) ≡ true
    plain true e = run_bytes_fit b bs e
    plain false e = byte_fits b

    go : (o : Option ℕ) → (is_kind (cond (is_some o) callout_number (kind_of b)) ≡ true)
        × (bytes_fit (cond (is_some o) callout_number (kind_of b)) (take (unwrap_or o (plain_length (kind_of b) (b ∷ bs))) (b ∷ bs)) ≡ true)
    go (Some m) = (refl, refl)
    go None = (known_kind b, plain (joins (kind_of b)) refl)

sound_front : (text replacement : List ℕ) (at : ℕ) → at < length text → sound_token text replacement (front at (drop at text)) ≡ true
sound_front text replacement at h =
    let bs = drop at text in
    let d = length-drop at text in
    let f = front_fits bs (omega arith) in
    let b = front_bounds bs (omega arith) in
    and_from (is_kind (front_kind bs)) _ f.0
    (and_from (ltb 0 (front_length bs)) _ (lt-ltb 0 (front_length bs) b.0)
    (and_from (leb (at + front_length bs) (length text)) _ (le-leb (at + front_length bs) (length text) (omega arith))
    (and_from (flag_fits (front_kind bs) false) _ (ap not (and_right (eqb (front_kind bs) newline) false refl)) f.1)))

sound_from : (text replacement : List ℕ) (at : ℕ) (ts : List Token) → Cut text at ts → all_sound text replacement ts ≡ true
sound_from text replacement at [] h = refl
sound_from text replacement at (t ∷ ts) (h, e, rest) = grind (arith, sound_front text replacement at h, sound_from text replacement (at + t.length) ts rest)

-- a text cut token by token is lexed
pub lexed : (text : List ℕ) (ts : List Token) → Cut text 0 ts → Lexed text ts
lexed text ts h = record { cut = h; whole = whole_from text 0 ts h; sound = λ replacement. sound_from text replacement 0 ts h }

-- the tokens that were taken one by one until none was left are a cut
cut_from_steps : (ts : List Token) (s t u : Tokens) → Yields TakesToken s ts t → TakesToken t None u → Cut s.text.now s.at ts
cut_from_steps [] s t u e last = grind arith
cut_from_steps (x ∷ ts) s t u (j, step, more) last = grind (arith, cut_from_steps ts j t u more last)

-- so a text whose tokens were taken one by one from its start on is lexed
pub lexed_from_steps : (ts : List Token) (s : Tokens) → s.at ≡ 0 → DrainsIf TakesToken (Unit {0}) s ts → Lexed s.text.now ts
lexed_from_steps ts s e (t, steps, last) =
    lexed s.text.now ts (subst (λ (n : ℕ). Cut s.text.now n ts) e (cut_from_steps ts s t (last tt).0 steps (last tt).1))
