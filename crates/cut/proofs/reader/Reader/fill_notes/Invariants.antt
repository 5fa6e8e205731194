use Rattle.store.specs.Entries.{entries, room}
use Rattle.cut.specs.Notes.{number_of}
use Rattle.cut.specs.Readers.{reading}
use Rattle.cut.proofs.NoteLists.{Noting}
use Rattle.cut.proofs.reader.Reader.fill_notes.Given as goal

abbrev pub invariant-notes : goal.invariant-notes
invariant-notes g l = record {
  can : (goal.iterator-notes g).can_next l.step-iterator;
  finite : (goal.iterator-notes g).is_finite l.step-iterator;
  noting : Noting (number_of l.kind) (entries l.notes) (entries l.initial.notes) (room l.notes) (room l.initial.notes)
      (reading g.F.Format.role l.step-iterator) (reading g.F.Format.role l.initial.step-iterator);
}
