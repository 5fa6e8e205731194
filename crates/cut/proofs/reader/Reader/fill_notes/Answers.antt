use Rattle.std.proofs.Common.{◌≡◌, [], ◌∷◌, ◌++◌, Some, ap, ◌∙◌, arith}
use Rattle.store.specs.Entries.{entries}
use Rattle.cut.specs.Notes.{number_of}
use Rattle.cut.specs.Readers.{gives_at}
use Rattle.cut.specs.Scanned.{note_at}
use Rattle.cut.specs.declared.types.Note.{Note}
use Rattle.cut.proofs.NoteLists.{notes_at, notes_more}
use Rattle.cut.proofs.reader.Reader.fill_notes.Goals as goal

pub notes-preserved-in-Ok-1 : goal.notes-preserved-in-Ok-1
notes-preserved-in-Ok-1 g c =
    let n = gives_at _ _ _ _ (ap Some c.in-Notes.is) c.in-Some.ensures.steps.gives in
    let p = c.in-Ok.ensures in
    let number = number_of c.args.kind in
    let same : (entries c.notes.notes ++ c.at.result ∷ []) ≡ (entries c.notes.notes ++ note_at number n.0.number ∷ []) =
    ap (λ (x : Note). entries c.notes.notes ++ x ∷ []) (c.at.ensures ∙ ap (note_at number) (omega (arith, n.2))) in
    record {
      can = tt;
      finite = tt;
      noting = notes_more _ _ _ _ _ _ n.0 _ _ _ p.fits (p.added ∙ same) p.room (notes_at _ _ _ _ _ _ _ _ n.1 c.notes.invariant.noting);
    }
