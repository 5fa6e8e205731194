-- A place among the entries in use is one of the memory lent, and lies below the count.
-- Assumes nothing.
use Rattle.std.proofs.Common.{ℕ, ◌<◌, List, length, take, arith}
use Rattle.std.proofs.lemmas.List.{length-take}

pub within_both : {X : Type 0} (n i : ℕ) (xs : List X) → i < length (take n xs) → (i < n) × (i < length xs)
within_both n i xs h = let e = length-take n xs in (omega arith, omega arith)
