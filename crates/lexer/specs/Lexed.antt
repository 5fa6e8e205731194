-- What a text is cut into.
-- Assumes nothing.
use Rattle.std.specs.Prelude.{◌≡◌, ℕ, ◌+◌, ◌<◌, ◌≤◌, true, List, [], ◌∷◌, length, drop}
use Rattle.std.specs.List.{flat_map}
use Rattle.sheet.specs.Sound.{token_bytes, all_sound}
use Rattle.sheet.specs.declared.records.Token.{Token}
use Rattle.lexer.specs.Front.{front}

-- the tokens of a text from a place on: each is the token at the front of what those before it leave
abbrev pub Cut : List ℕ → ℕ → List Token → Type 0
Cut text at [] = length text ≤ at
Cut text at (t ∷ ts) = (at < length text) × (t ≡ front at (drop at text)) × Cut text (at + t.length) ts

pub record Lexed (text : List ℕ) (ts : List Token) : Type 0 where
  -- token by token, it is the one at the front
  pub cut : Cut text 0 ts
  -- the tokens' bytes, joined in order, are the text
  pub whole : flat_map (token_bytes text []) ts ≡ text
  -- every token is sound on a sheet of this page, whatever its replacement text
  pub sound : (replacement : List ℕ) → all_sound text replacement ts ≡ true
