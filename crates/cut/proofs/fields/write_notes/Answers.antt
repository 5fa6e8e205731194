use Rattle.std.proofs.Common.{Option, ap, ◌∙◌, subst}
use Rattle.std.specs.Option.{option_to_list}
use Rattle.cut.specs.Fields.{open_note}
use Rattle.cut.specs.Fitting.{AddedAsFit}
use Rattle.cut.specs.declared.types.Note.{Note}
use Rattle.cut.proofs.Adds.{added_two}
use Rattle.cut.proofs.fields.write_notes.Goals as goal

pub returns : goal.returns
returns g c =
    let t = c.write_strays.new.notes in
    let o = c.open_note.ensures ∙ ap (open_note c.args.quote) c.requires.unclosed in
    added_two c.args.notes.now t c.add_note.new.notes _ _ c.write_strays.ensures
    (subst (λ (x : Option Note). AddedAsFit t c.add_note.new.notes (option_to_list x)) o c.add_note.ensures)
