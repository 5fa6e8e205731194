use Rattle.sheet.specs.Left.{seen_at}
use Rattle.cut.proofs.Withins.{dsv_within}
use Rattle.cut.proofs.dsv.DsvFormat.role.Goals as goal

pub returns-clause-within : goal.returns-clause-within
returns-clause-within c = dsv_within c.args.self.now.separator (seen_at c.args.seen) _ c.plain_role.ensures
