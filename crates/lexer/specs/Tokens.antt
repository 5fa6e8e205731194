-- One token taken off the front of what is left of a text.
-- Assumes nothing.
use Rattle.std.specs.Prelude.{◌≡◌, ◌+◌, ◌<◌, ◌≤◌, length, drop, Option, MatchOption}
use Rattle.sheet.specs.declared.records.Token.{Token}
use Rattle.lexer.specs.Front.{front}
use Rattle.lexer.specs.declared.lexing.Tokens.{Tokens}

-- from a place in a text on: no token where nothing is left, and else the one at the front, and the place behind it
abbrev pub TakesToken : Tokens → Option Token → Tokens → Type 0
TakesToken old r new =
    (new.text.now ≡ old.text.now)
    × MatchOption r (length old.text.now ≤ old.at)
    (λ t. (old.at < length old.text.now) × (t ≡ front old.at (drop old.at old.text.now)) × (new.at ≡ old.at + t.length))
