-- A text cut into pieces by a mark.
-- Assumes nothing.
use Rattle.std.specs.Prelude.{ℕ, List, [], ◌∷◌, ◌==◌}
use Rattle.std.specs.List.{slice_split}

-- the pieces of a text between marks
abbrev pub pieces : ℕ → List ℕ → List (List ℕ)
pieces b xs = slice_split (λ x. x == b) xs

-- the pieces behind the first mark, of a text that begins with it
abbrev pub behind : ℕ → List ℕ → List (List ℕ)
behind b [] = []
behind b (x ∷ xs) = pieces b xs
