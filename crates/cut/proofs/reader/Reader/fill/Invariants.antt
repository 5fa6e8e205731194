use Rattle.std.proofs.Common.{◌<◌}
use Rattle.store.specs.Entries.{entries, room}
use Rattle.cut.specs.Readers.{reading}
use Rattle.cut.proofs.Fills.{Fills}
use Rattle.cut.proofs.reader.Reader.fill.Given as goal

abbrev pub invariant-pieces : goal.invariant-pieces
invariant-pieces g l = record {
  can : (goal.iterator-pieces g).can_next l.step-iterator;
  finite : (goal.iterator-pieces g).is_finite l.step-iterator;
  some : 0 < l.wanted;
  fills : Fills (entries l.pieces) (entries l.initial.pieces) (room l.pieces) (room l.initial.pieces) l.wanted l.initial.wanted
      (reading g.F.Format.role l.step-iterator) (reading g.F.Format.role l.initial.step-iterator);
}
