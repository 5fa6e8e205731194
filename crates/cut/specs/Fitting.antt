-- What is added to a list as far as it fits.
-- Assumes nothing.
use Rattle.std.specs.Prelude.{◌-◌, List, length, take}
use Rattle.store.specs.Changes.{Added}
use Rattle.store.specs.Entries.{entries, room}
use Rattle.store.specs.declared.list.Store.{Store}

-- t is s with xs behind its entries in use, as far as they fit
abbrev pub AddedAsFit : {A : Type 0} → Store A → Store A → List A → Type 0
AddedAsFit s t xs = Added s t (take (room s - length (entries s)) xs)
