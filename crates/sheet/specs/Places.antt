-- Places and positions, one from the other.
-- Assumes nothing.
use Rattle.std.specs.Prelude.{ℕ, Bool}
use Rattle.sheet.specs.declared.records.Place.{Place}
use Rattle.sheet.specs.declared.records.Position.{Position}

-- the front of a token
abbrev pub front_of : ℕ → Place
front_of i = record { token = i; offset = 0 }

-- where a position stands
abbrev pub place_in : Position → Place
place_in p = record { token = p.token; offset = p.offset }

-- the position at a place, behind a separator or not
abbrev pub position_at : Place → Bool → Position
position_at p separated = record { token = p.token; offset = p.offset; separated = separated }
