-- When a sheet is refused, and what a refusal tells: a number, and values with it.
-- Assumes nothing.
use Rattle.std.specs.Prelude.{ℕ, cond, ◌||◌, List, [], ◌∷◌, length, Some, None, Option, nat_lt}
use Rattle.sheet.specs.Limits.{max_text, max_tokens}
use Rattle.sheet.specs.Sound.{first_unsound}
use Rattle.sheet.specs.declared.records.Token.{Token}
use Rattle.sheet.specs.declared.refusal.SheetRefusal.{SheetRefusal}
use Rattle.sheet.specs.declared.refusal.SheetRefusal.TheVariants.{TextTooLong, TooManyTokens, UnsoundToken}

-- what a refusal tells its caller
pub record Told : Type 0 where
  pub number : ℕ
  pub values : List ℕ

-- 10 and 11 tell nothing more; 12 tells the number of a token
abbrev pub told : SheetRefusal → Told
told TextTooLong = record { number = 10; values = [] }
told TooManyTokens = record { number = 11; values = [] }
told (UnsoundToken i) = record { number = 12; values = i ∷ [] }

-- 12 if there is an unsound token, with the first
abbrev pub unsound : Option ℕ → Option Told
unsound None = None
unsound (Some i) = Some (record { number = 12; values = i ∷ [] })

-- the refusal of a page, a replacement text and tokens, or none: too long a text, then too many tokens, then an unsound one
abbrev pub refusal_of : List ℕ → List ℕ → List Token → Option Told
refusal_of page replacement tokens =
    cond (nat_lt max_text (length page) || nat_lt max_text (length replacement)) (Some (record { number = 10; values = [] }))
    (cond (nat_lt max_tokens (length tokens)) (Some (record { number = 11; values = [] }))
    (unsound (first_unsound page replacement tokens)))
