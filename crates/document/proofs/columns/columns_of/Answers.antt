use Rattle.std.proofs.Common.{rules}
use Rattle.document.proofs.columns.columns_of.Goals as goal

pub returns : goal.returns
returns c = record { count = search rules; kept = search rules }
