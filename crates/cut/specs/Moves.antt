-- Roles that take something when they close a cell, so that a page has finitely many cells.
-- Assumes nothing.
use Rattle.std.specs.Prelude.{◌<◌, List}
use Rattle.sheet.specs.Left.{Left}
use Rattle.cut.specs.declared.machine.Role.{Role}
use Rattle.cut.specs.declared.machine.Role.TheVariants.{EndsLine, Separates, Starts, Splits, Drops, Takes, Notes}
use Rattle.cut.specs.declared.machine.State.{State}

abbrev pub Moves : Role → Type 0
Moves EndsLine = Unit {0}
Moves Separates = Unit {0}
Moves Starts = ⊥
Moves (Splits n m) = 0 < m
Moves (Drops s) = Unit {0}
Moves (Takes s line) = Unit {0}
Moves Notes = Unit {0}

-- every role of a format does
abbrev pub AllMove : (State → List Left → Role) → Type 0
AllMove role = (s : State) (ts : List Left) → Moves (role s ts)
