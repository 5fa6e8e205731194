use Rattle.std.proofs.Common.{ℕ, eqb, ap, ◌∙◌}
use Rattle.sheet.specs.Kinds.{number_of}
use Rattle.sheet.proofs.SameKinds.{same_by_number}
use Rattle.lexer.proofs.front.is_of.Goals as goal

pub returns : goal.returns
returns c =
    c.eq.ensures
    ∙ same_by_number c.kind_of.result c.args.kind
    ∙ ap (λ (n : ℕ). eqb n (number_of c.args.kind)) c.kind_of.ensures
