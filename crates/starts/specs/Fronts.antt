-- Tests of the tokens in front: what a form, which is a row of such tests, begins with.
-- A replaced token passes none of them.
-- Assumes nothing.
use Rattle.std.specs.Prelude.{ℕ, Bool, true, false, not, ◌&&◌, List, [], ◌∷◌, length, None, Option, ◌==◌, nat_lt, slice_index}
use Rattle.sheet.specs.Kinds.{callout_number, dots}
use Rattle.sheet.specs.Left.{Left, plain}

-- the tokens begin with one for each test, in order, that passes it
abbrev pub begins : {X : Type 0} → List (X → Bool) → List X → Bool
begins [] ts = true
begins (p ∷ ps) [] = false
begins (p ∷ ps) (t ∷ ts) = p t && begins ps ts

-- what the token in front says, if there is one
abbrev pub in_front : {X : Type 0} → (Left → Option X) → List Left → Option X
in_front f [] = None
in_front f (t ∷ ts) = f t

-- Dots of length 1
abbrev pub dot : Left → Bool
dot t = plain dots t && length t.bytes == 1

-- the bytes `<.>`
abbrev pub left_bottom : List ℕ → Bool
left_bottom bs = length bs == 3 && (slice_index bs 0 == 60 && (slice_index bs 1 == 46 && slice_index bs 2 == 62))

-- the CalloutNumber `<.>`
abbrev pub callout : Left → Bool
callout t = plain callout_number t && left_bottom t.bytes

-- an unreplaced token, of any kind, that has the byte b at an offset
abbrev pub has_byte : ℕ → ℕ → Left → Bool
has_byte b o t = not t.replaced && (nat_lt o (length t.bytes) && slice_index t.bytes o == b)

-- a token of one byte
abbrev pub single : Left → Bool
single t = length t.bytes == 1

-- an unreplaced token, of any kind, that is just the byte b
abbrev pub just : ℕ → Left → Bool
just b t = single t && has_byte b 0 t
