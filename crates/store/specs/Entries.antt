-- What a list over lent memory holds, and how much it can hold.
-- entries: the records in use, in order. room: how many can be in use.
-- Assumes nothing.
use Rattle.std.specs.Prelude.{ℕ, List, length, take}
use Rattle.store.specs.declared.list.Store.{Store}

-- the first `used` records of the memory lent, or all of it where `used` is larger
abbrev pub entries : {A : Type 0} → Store A → List A
entries s = take s.used s.items.now

-- the memory lent is the room
abbrev pub room : {A : Type 0} → Store A → ℕ
room s = length s.items.now
