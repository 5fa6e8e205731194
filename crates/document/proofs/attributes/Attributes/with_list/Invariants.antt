use Rattle.std.proofs.Common.{◌≡◌}
use Rattle.document.specs.Attributes.{said, items_left, with_items, with_list}
use Rattle.document.proofs.attributes.Attributes.with_list.Given as goal

abbrev pub invariant-loop-item : goal.invariant-loop-item
invariant-loop-item l = record {
  can : goal.iterator-loop-item.can_next l.item-iterator;
  finite : goal.iterator-loop-item.is_finite l.item-iterator;
  kept : with_items l.first (said l.attributes) (items_left l.item-iterator) ≡ with_list (said l.initial.attributes) l.list;
}
