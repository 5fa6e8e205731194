use Rattle.std.proofs.Common.{◌-◌, length, vec_items}
use Rattle.document.proofs.Searches.{Searched}
use Rattle.document.proofs.blocks.find_tables.Given as goal

abbrev pub invariant-loop-line : goal.invariant-loop-line
invariant-loop-line l = Searched l.text l.lines l.attributes (vec_items l.tables)

abbrev pub decreases-loop-line : goal.decreases-loop-line
decreases-loop-line l = length l.text - l.lines.at
