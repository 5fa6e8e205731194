use Rattle.sheet.specs.Left.{seen_at}
use Rattle.cut.proofs.Withins.{csv_within}
use Rattle.cut.proofs.csv.CsvFormat.role.Goals as goal

pub returns-clause-within : goal.returns-clause-within
returns-clause-within c = csv_within c.args.self.now.separator c.is_inside-inside.result c.is_pair-next.result (seen_at c.args.seen) _ c.role_at.ensures
