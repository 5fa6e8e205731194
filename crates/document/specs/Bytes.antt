-- Tests of a few bytes, what stands before the first of a kind, and texts without the blanks around them.
-- A text is a list of bytes.
-- Assumes nothing.
use Rattle.std.specs.Prelude.{ℕ, ◌+◌, ◌-◌, ◌*◌, ◌^◌, min, Bool, not, ◌&&◌, ◌||◌, List, length, take, drop, fold, ◌==◌, nat_le}
use Rattle.std.specs.List.{list_all, prefix_len, suffix_len}

-- a space, a tab or a carriage return
abbrev pub is_blank : ℕ → Bool
is_blank b = b == 32 || (b == 9 || b == 13)

-- the bytes `0` to `9`
abbrev pub is_digit : ℕ → Bool
is_digit b = nat_le 48 b && nat_le b 57

abbrev pub all_of : ℕ → List ℕ → Bool
all_of b xs = list_all (λ x. x == b) xs

-- how many bytes stand before the first one that is b: all of them where there is none
abbrev pub before : ℕ → List ℕ → ℕ
before b xs = prefix_len (λ x. not (x == b)) xs

abbrev pub leading_digits : List ℕ → ℕ
leading_digits xs = prefix_len is_digit xs

abbrev pub all_digits : List ℕ → Bool
all_digits xs = list_all is_digit xs

-- the number that digits write
abbrev pub decimal : List ℕ → ℕ
decimal ds = fold (λ v d. v * 10 + (d - 48)) 0 ds

-- that number, or the largest of 64 bits where that is less
abbrev pub value_of : List ℕ → ℕ
value_of ds = min (decimal ds) (2 ^ 64 - 1)

-- a number with one more digit, or the largest of 64 bits where that is less
abbrev pub with_digit : ℕ → ℕ → ℕ
with_digit n d = min (n * 10 + (d - 48)) (2 ^ 64 - 1)

abbrev pub trim_start : List ℕ → List ℕ
trim_start xs = drop (prefix_len is_blank xs) xs

abbrev pub trim_end : List ℕ → List ℕ
trim_end xs = take (length xs - suffix_len is_blank xs) xs

abbrev pub trim : List ℕ → List ℕ
trim xs = trim_start (trim_end xs)
