use Rattle.std.proofs.Common.{◌≡◌, ◌+◌, drop}
use Rattle.document.specs.Attributes.{item_size}
use Rattle.document.specs.declared.attributes.Spot.TheVariants.{Front}
use Rattle.document.proofs.attributes.item_size.Given as goal

abbrev pub invariant-loop-i : goal.invariant-loop-i
invariant-loop-i l = l.i + item_size l.spot (drop l.i l.list) ≡ item_size Front l.list
