use Rattle.sheet.specs.Left.{seen_at}
use Rattle.cut.proofs.Withins.{prefix_within}
use Rattle.cut.proofs.prefix.PrefixFormat.role.Goals as goal

pub returns-clause-within : goal.returns-clause-within
returns-clause-within c = prefix_within c.args.self.now.byte (seen_at c.args.seen) _ c.takes_role.ensures
