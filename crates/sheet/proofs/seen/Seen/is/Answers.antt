use Rattle.std.proofs.Common.{◌∙◌, rules}
use Rattle.sheet.proofs.SameKinds.{same_by_number}
use Rattle.sheet.proofs.seen.Seen.is.Goals as goal

pub returns-then-not-self : goal.returns-then-not-self
returns-then-not-self c =
    let e = c.eq.ensures ∙ same_by_number c.args.self.now.kind c.args.kind in
    let r = c.if-not-self in
    search rules
