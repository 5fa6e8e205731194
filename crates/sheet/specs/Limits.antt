-- How large a sheet can be.
-- Assumes nothing.
use Rattle.std.specs.Prelude.{ℕ}

-- the most bytes of a page or of a replacement text
abbrev pub max_text : ℕ
max_text = 1048576

-- the most tokens of a sheet
abbrev pub max_tokens : ℕ
max_tokens = 262144
