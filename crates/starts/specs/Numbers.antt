-- The numbers of a specifier: at most 255.
-- Assumes nothing.
use Rattle.std.specs.Prelude.{ℕ, ◌+◌, ◌-◌, ◌*◌, cond, List, [], ◌∷◌, Some, None, Option, nat_le}

-- the number that digits write, behind digits that write n
abbrev pub value_from : ℕ → List ℕ → ℕ
value_from n [] = n
value_from n (b ∷ bs) = value_from (n * 10 + (b - 48)) bs

-- the number that digits write, if it is at most 255
abbrev pub small : List ℕ → Option ℕ
small bs = cond (nat_le (value_from 0 bs) 255) (Some (value_from 0 bs)) None
