-- The forms of a factor and of the spans, as rows of tests of the records of tokens.
-- Assumes nothing.
use Rattle.std.specs.Prelude.{ℕ, Bool, not, ◌&&◌, List, [], ◌∷◌, ◌==◌}
use Rattle.sheet.specs.Kinds.{digits, dots, plus}
use Rattle.sheet.specs.declared.records.Token.{Token}

-- an unreplaced token of a kind
abbrev pub plain_token : ℕ → Token → Bool
plain_token k t = not t.replaced && t.kind == k

-- Dots of length 1
abbrev pub dot_token : Token → Bool
dot_token t = plain_token dots t && t.length == 1

-- Digits, then a sign of a kind
abbrev pub digits_form : ℕ → List (Token → Bool)
digits_form k = plain_token digits ∷ plain_token k ∷ []

-- Dots Digits Plus
abbrev pub rows_form : List (Token → Bool)
rows_form = dot_token ∷ plain_token digits ∷ plain_token plus ∷ []

-- Digits Dots Digits Plus
abbrev pub spans_form : List (Token → Bool)
spans_form = plain_token digits ∷ rows_form
