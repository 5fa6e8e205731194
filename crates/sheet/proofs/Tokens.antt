-- What is known of a token of a sheet, and how the first unsound one is found.
-- Assumes nothing.
use Rattle.std.proofs.Common.{◌≡◌, ℕ, zero, suc, ◌+◌, ◌<◌, ◌≤◌, Bool, true, false, cond, not, ◌&&◌, ltb, leb, List, [], ◌∷◌, length, drop, Some, None, sym, refl, ap, ◌∙◌, arith}
use Rattle.std.specs.List.{slice_get, position_or_len}
use Rattle.std.proofs.lemmas.Bool.{leb-true, ltb-true, ltb-false, lt-ltb, le-leb, and_parts, and_from}
use Rattle.sheet.specs.Kinds.{word}
use Rattle.sheet.specs.Sound.{text_of, token_bytes, is_kind, bytes_fit, flag_fits, sound_token, all_sound, first_unsound}
use Rattle.sheet.specs.declared.records.Token.{Token}

-- each token of a sound list is sound
pub sound_at : (page replacement : List ℕ) (ts : List Token) (i : ℕ) (t : Token) → all_sound page replacement ts ≡ true → slice_get ts i ≡ Some t → sound_token page replacement t ≡ true
sound_at page replacement [] i t h e = let z : ◌≡◌ {A = ℕ} 0 1 = cc in absurd (omega arith)
sound_at page replacement (x ∷ ts) zero t h e =
    let same : x ≡ t = cc in
    ap (sound_token page replacement) (sym same) ∙ (and_parts (sound_token page replacement x) (all_sound page replacement ts) h).0
sound_at page replacement (x ∷ ts) (suc i) t h e =
    sound_at page replacement ts i t (and_parts (sound_token page replacement x) (all_sound page replacement ts) h).1 e

-- a sound token ends inside its text
pub ends_inside : (page replacement : List ℕ) (t : Token) → sound_token page replacement t ≡ true → t.start + t.length ≤ length (text_of page replacement t.replaced)
ends_inside page replacement t h =
    let a = (and_parts (is_kind t.kind) _ h).1 in
    let b = (and_parts (ltb 0 t.length) _ a).1 in
    leb-true (t.start + t.length) (length (text_of page replacement t.replaced)) (and_parts (leb (t.start + t.length) (length (text_of page replacement t.replaced))) _ b).0

-- the kind of a sound token is one
pub kind_within : (page replacement : List ℕ) (t : Token) → sound_token page replacement t ≡ true → t.kind ≤ word
kind_within page replacement t h = leb-true t.kind word (and_parts (leb t.kind word) _ (and_parts (is_kind t.kind) _ h).0).0

-- where no token is the first unsound one, all are sound
pub all_from_first : (page replacement : List ℕ) (ts : List Token) → first_unsound page replacement ts ≡ None → all_sound page replacement ts ≡ true
all_from_first page replacement ts h = first (ltb (position_or_len unsound ts) (length ts)) refl h
  where
    unsound : Token → Bool
    unsound t = not (sound_token page replacement t)

    past : (us : List Token) → length us ≤ position_or_len unsound us → all_sound page replacement us ≡ true
    past [] e = refl
    past (t ∷ us) e = go (sound_token page replacement t) refl e (past us)
      where
        go : (b : Bool) → sound_token page replacement t ≡ b → suc (length us) ≤ cond (not (not b)) (1 + position_or_len unsound us) 0
            → (length us ≤ position_or_len unsound us → all_sound page replacement us ≡ true)
            → (sound_token page replacement t && all_sound page replacement us) ≡ true
        go true q k rest = and_from (sound_token page replacement t) (all_sound page replacement us) q (rest (omega arith))
        go false q k rest = absurd (omega arith)

    first : (b : Bool) → ltb (position_or_len unsound ts) (length ts) ≡ b → cond b (Some (position_or_len unsound ts)) None ≡ None → all_sound page replacement ts ≡ true
    first true e k = let z : ◌≡◌ {A = ℕ} 0 1 = cc in absurd (omega arith)
    first false e k = past ts (ltb-false (position_or_len unsound ts) (length ts) e)

-- of a token that passes the other tests, the bytes decide
pub sound_by_bytes : (page replacement : List ℕ) (t : Token) → is_kind t.kind ≡ true → 0 < t.length
    → t.start + t.length ≤ length (text_of page replacement t.replaced) → flag_fits t.kind t.replaced ≡ true
    → bytes_fit t.kind (token_bytes page replacement t) ≡ sound_token page replacement t
sound_by_bytes page replacement t kind some ends flag =
    passed (is_kind t.kind) (ltb 0 t.length) (leb (t.start + t.length) (length (text_of page replacement t.replaced))) (flag_fits t.kind t.replaced) _
    kind (lt-ltb 0 t.length some) (le-leb _ _ ends) flag
  where
    passed : (a b c d e : Bool) → a ≡ true → b ≡ true → c ≡ true → d ≡ true → e ≡ (a && (b && (c && (d && e))))
    passed a b c d e p q r s = rw (p, q, r, s)

-- a sound token has a byte
pub token_has_byte : (page replacement : List ℕ) (t : Token) → sound_token page replacement t ≡ true → 0 < t.length
token_has_byte page replacement t h = ltb-true 0 t.length (and_parts (ltb 0 t.length) _ (and_parts (is_kind t.kind) _ h).1).0

-- what is left of sound tokens is sound
pub sound_drop : (page replacement : List ℕ) (n : ℕ) (ts : List Token) → all_sound page replacement ts ≡ true → all_sound page replacement (drop n ts) ≡ true
sound_drop page replacement zero ts h = h
sound_drop page replacement (suc n) [] h = h
sound_drop page replacement (suc n) (t ∷ ts) h = sound_drop page replacement n ts (and_parts (sound_token page replacement t) (all_sound page replacement ts) h).1

-- the token in front of what is left is sound
pub sound_front : (page replacement : List ℕ) (n : ℕ) (ts us : List Token) (t : Token) → all_sound page replacement ts ≡ true → drop n ts ≡ t ∷ us → sound_token page replacement t ≡ true
sound_front page replacement n ts us t h e =
    (and_parts (sound_token page replacement t) (all_sound page replacement us) (sym (ap (all_sound page replacement) e) ∙ sound_drop page replacement n ts h)).0
