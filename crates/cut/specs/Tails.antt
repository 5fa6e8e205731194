-- Trimming from the front: how many pieces are kept, and what stands behind the last kept.
-- Assumes nothing.
use Rattle.std.specs.Prelude.{◌≡◌, ℕ, ◌+◌, Bool, true, false, cond, List, [], ◌∷◌, length, drop, refl}
use Rattle.std.proofs.Common.{sym, ap, ◌∙◌, arith}
use Rattle.sheet.specs.Left.{Left}
use Rattle.cut.specs.Blanks.{is_newline, is_blank, keep, trim}
use Rattle.cut.specs.Field.{removed, begins_blank}
use Rattle.cut.specs.Scanned.{blank_tail, tail_with, is_two}
use Rattle.cut.specs.declared.machine.Tail.{Tail}
use Rattle.cut.specs.declared.machine.Tail.TheVariants.{Nothing, Newline, Blank, Other}

-- how many pieces are kept, from the front: last of the n that have passed are kept if none follows
abbrev pub kept : ℕ → ℕ → List Left → ℕ
kept last n [] = last
kept last n (t ∷ ts) = kept (cond (is_blank t) last (n + 1)) (n + 1) ts

abbrev ends : ℕ → ℕ → List Left → ℕ
ends last n [] = last
ends last n (u ∷ us) = n + length (u ∷ us)

ends_keep : (last n : ℕ) (t : Left) (us : List Left) → ends (cond (is_blank t) last (n + 1)) (n + 1) us ≡ ends last n (keep t us)
ends_keep last n t (u ∷ us) = omega arith
ends_keep last n t [] = go (is_blank t)
  where
    go : (b : Bool) → cond b last (n + 1) ≡ ends last n (cond b [] (t ∷ []))
    go true = refl
    go false = refl

kept_ends : (last n : ℕ) (ts : List Left) → kept last n ts ≡ ends last n (trim ts)
kept_ends last n [] = refl
kept_ends last n (t ∷ ts) = kept_ends (cond (is_blank t) last (n + 1)) (n + 1) ts ∙ ends_keep last n t (trim ts)

pub kept_trim : (ts : List Left) → kept 0 0 ts ≡ length (trim ts)
kept_trim ts = kept_ends 0 0 ts ∙ go (trim ts)
  where
    go : (us : List Left) → ends 0 0 us ≡ length us
    go [] = refl
    go (u ∷ us) = omega arith

-- the tail once these pieces have passed
abbrev pub tails : Tail → List Left → Tail
tails tail [] = tail
tails tail (t ∷ ts) = tails (tail_with tail t.kind) ts

-- what a tail says of the pieces behind it that are all removed: whether its own and theirs begin with two Newlines
abbrev goes_on : Tail → List Left → Bool
goes_on Nothing ts = begins_blank ts
goes_on Newline [] = false
goes_on Newline (t ∷ ts) = is_newline t
goes_on Blank ts = true
goes_on Other ts = false

-- where nothing more is kept, the tail goes on; else it begins anew behind the last kept
abbrev tail_of : Tail → List Left → List Left → Bool
tail_of tail ts [] = goes_on tail ts
tail_of tail ts (u ∷ us) = begins_blank (drop (length (u ∷ us)) ts)

goes_blank : (tail : Tail) (t : Left) (ts : List Left) → goes_on (blank_tail tail (is_newline t)) ts ≡ goes_on tail (t ∷ ts)
goes_blank tail t ts = go tail (is_newline t) refl ts
  where
    go : (tail : Tail) (b : Bool) → is_newline t ≡ b → (ts : List Left) → goes_on (blank_tail tail b) ts ≡ goes_on tail (t ∷ ts)
    go Nothing true e [] = refl
    go Nothing true e (u ∷ us) = sym (ap (λ (x : Bool). cond x (is_newline u) false) e)
    go Nothing false e [] = refl
    go Nothing false e (u ∷ us) = sym (ap (λ (x : Bool). cond x (is_newline u) false) e)
    go Newline true e ts = sym e
    go Newline false e ts = sym e
    go Blank b e ts = refl
    go Other b e ts = refl

tail_step : (tail : Tail) (t : Left) (ts us : List Left) → tail_of (tail_with tail t.kind) ts us ≡ tail_of tail (t ∷ ts) (keep t us)
tail_step tail t ts (u ∷ us) = refl
tail_step tail t ts [] = go (is_blank t)
  where
    go : (b : Bool) → goes_on (cond b (blank_tail tail (is_newline t)) Nothing) ts ≡ tail_of tail (t ∷ ts) (cond b [] (t ∷ []))
    go true = goes_blank tail t ts
    go false = refl

tails_are : (tail : Tail) (ts : List Left) → is_two (tails tail ts) ≡ tail_of tail ts (trim ts)
tails_are Nothing [] = refl
tails_are Newline [] = refl
tails_are Blank [] = refl
tails_are Other [] = refl
tails_are tail (t ∷ ts) = tails_are (tail_with tail t.kind) ts ∙ tail_step tail t ts (trim ts)

-- from the front, the tail tells whether the first two removed are Newlines
pub tails_removed : (ts : List Left) → is_two (tails Nothing ts) ≡ begins_blank (removed ts)
tails_removed ts = tails_are Nothing ts ∙ go (trim ts)
  where
    go : (us : List Left) → tail_of Nothing ts us ≡ begins_blank (drop (length us) ts)
    go [] = refl
    go (u ∷ us) = refl
