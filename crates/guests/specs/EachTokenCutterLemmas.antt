use Rattle.std.specs.Prelude.{◌≡◌, List, [], ◌∷◌, map, length}
use Rattle.std.proofs.Common.{sym, ap, arith}
use Rattle.std.specs.List.{AllByRecursion}
use Rattle.sheet.specs.Left.{Left, left, front_number}
use Rattle.sheet.specs.View.{SheetView}
use Rattle.sheet.specs.declared.records.Position.{Position}
use Rattle.cut.specs.Answer.{FirstIs, Fits}
use Rattle.cut.specs.Insides.{InsideLeft}
use Rattle.guests.specs.Each.{each_cell}

pub each_fits : (v : SheetView) (ts : List Left) → AllByRecursion (InsideLeft v) ts → AllByRecursion (Fits v) (map each_cell ts)
each_fits v [] h = tt
each_fits v (t ∷ ts) h = (record { inside = (h.0, tt); columns = omega arith; rows = omega arith }, each_fits v ts h.1)

pub each_first : (v : SheetView) (p : Position) (ts : List Left) → left v p.token p.offset ≡ ts → FirstIs v p (map each_cell ts)
each_first v p [] e = tt
each_first v p (t ∷ ts) e = sym (ap (front_number (length v.tokens)) e)
