-- What a call does to a list over lent memory.
-- Assumes nothing.
use Rattle.std.specs.Prelude.{◌≡◌, List, ◌++◌}
use Rattle.store.specs.Entries.{entries, room}
use Rattle.store.specs.declared.list.Store.{Store}

-- t is s as it was: the same entries in use, and the same room
pub record Same {A : Type 0} (s t : Store A) : Type 0 where
  pub entries : entries t ≡ entries s
  pub room : room t ≡ room s

-- t is s with xs behind its entries in use
pub record Added {A : Type 0} (s t : Store A) (xs : List A) : Type 0 where
  pub entries : entries t ≡ entries s ++ xs
  pub room : room t ≡ room s
