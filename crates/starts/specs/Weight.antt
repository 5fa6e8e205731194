-- How much is left to read.
-- Assumes nothing.
use Rattle.std.specs.Prelude.{ℕ, ◌+◌, ◌*◌, List, [], ◌∷◌, length}
use Rattle.sheet.specs.Left.{Left}

-- two for each token and two for each byte
abbrev pub weight : List Left → ℕ
weight [] = 0
weight (t ∷ ts) = 2 + 2 * length t.bytes + weight ts
