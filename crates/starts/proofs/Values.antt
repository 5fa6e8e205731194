-- What digits write, digit by digit, and when it is above 255.
-- Assumes nothing.
use Rattle.std.proofs.Common.{◌≡◌, ℕ, ◌+◌, ◌-◌, ◌*◌, ◌<◌, ◌≤◌, leb, List, [], ◌∷◌, length, get_or, drop, Some, None, sym, ap, ◌∙◌, arith}
use Rattle.std.proofs.lemmas.List.{drop_more}
use Rattle.std.proofs.lemmas.Bool.{le-leb, lt-leb, cond-true, cond-false}
use Rattle.starts.specs.Numbers.{value_from, small}

-- more digits write no smaller number
above : (n : ℕ) (bs : List ℕ) → n ≤ value_from n bs
above n [] = omega arith
above n (b ∷ bs) = let h = above (n * 10 + (b - 48)) bs in omega arith

-- one digit further
pub more : (n i : ℕ) (bs : List ℕ) → i < length bs → value_from n (drop i bs) ≡ value_from (n * 10 + (get_or bs i 0 - 48)) (drop (i + 1) bs)
more n i bs lt = ap (value_from n) (drop_more bs i 0 lt)

-- a number above 255 after the next digit stays above it
pub over : (n i : ℕ) (bs : List ℕ) (all : ℕ) → i < length bs → value_from n (drop i bs) ≡ all → (n * 10 + (get_or bs i 0 - 48) < 256 → ⊥) → 255 < all
over n i bs all lt inv neg =
    let m = more n i bs lt in
    let a = above (n * 10 + (get_or bs i 0 - 48)) (drop (i + 1) bs) in
    omega arith

pub is_small : (n : ℕ) (bs : List ℕ) → n ≡ value_from 0 bs → n ≤ 255 → Some n ≡ small bs
is_small n bs e l = ap Some e ∙ sym (cond-true (leb (value_from 0 bs) 255) _ _ (le-leb (value_from 0 bs) 255 (omega arith)))

pub is_large : (bs : List ℕ) → 255 < value_from 0 bs → None ≡ small bs
is_large bs l = sym (cond-false (leb (value_from 0 bs) 255) _ _ (lt-leb (value_from 0 bs) 255 l))
