-- The token at the front of a text.
-- Assumes nothing.
use Rattle.std.specs.Prelude.{ℕ, ◌+◌, Bool, false, cond, ◌&&◌, List, length, drop, Some, None, Option, is_some, unwrap_or, ◌==◌, nat_lt, slice_index}
use Rattle.std.specs.List.{prefix_len}
use Rattle.sheet.specs.Kinds.{callout_number, digits}
use Rattle.sheet.specs.declared.records.Token.{Token}
use Rattle.lexer.specs.Kinds.{kind_of, joins}

-- how many bytes at the front are of a kind
abbrev pub run : ℕ → List ℕ → ℕ
run k = prefix_len (λ b. kind_of b == k)

-- a byte stands at a place
abbrev pub is_at : List ℕ → ℕ → ℕ → Bool
is_at bs i b = nat_lt i (length bs) && slice_index bs i == b

-- how many bytes a callout has behind its opening bracket and before the closing one: one dot, or a run of digits
abbrev pub between : List ℕ → ℕ
between bs = cond (is_at bs 0 46) 1 (run digits bs)

-- a callout that has n bytes between its brackets
abbrev pub callout_of : ℕ → List ℕ → Option ℕ
callout_of n bs = cond (nat_lt 0 n && is_at bs (n + 1) 62) (Some (n + 2)) None

-- how many bytes a callout at the front has, `<.>` or `<` digits `>`, if there is one
abbrev pub callout : List ℕ → Option ℕ
callout bs = cond (is_at bs 0 60) (callout_of (between (drop 1 bs)) bs) None

-- how many bytes a token of a kind has at the front: its whole run, or one
abbrev pub plain_length : ℕ → List ℕ → ℕ
plain_length k bs = cond (joins k) (run k bs) 1

abbrev pub front_kind : List ℕ → ℕ
front_kind bs = cond (is_some (callout bs)) callout_number (kind_of (slice_index bs 0))

abbrev pub front_length : List ℕ → ℕ
front_length bs = unwrap_or (callout bs) (plain_length (kind_of (slice_index bs 0)) bs)

-- the token at the front of what is left of a text from a place on
abbrev pub front : ℕ → List ℕ → Token
front at bs = record { kind = front_kind bs; replaced = false; start = at; length = front_length bs }
