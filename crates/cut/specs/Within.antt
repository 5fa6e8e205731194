-- A split lies inside its token.
-- Assumes nothing.
use Rattle.std.specs.Prelude.{ℕ, ◌+◌, ◌≤◌}
use Rattle.cut.specs.declared.machine.Role.{Role}
use Rattle.cut.specs.declared.machine.Role.TheVariants.{EndsLine, Separates, Starts, Splits, Drops, Takes, Notes}

abbrev pub Within : Role → ℕ → Type 0
Within EndsLine size = Unit {0}
Within Separates size = Unit {0}
Within Starts size = Unit {0}
Within (Splits n m) size = (n ≤ size) × (m ≤ n + 1)
Within (Drops s) size = Unit {0}
Within (Takes s line) size = Unit {0}
Within Notes size = Unit {0}
