use Rattle.std.proofs.Common.{rules}
use Rattle.std.proofs.Math.Seq.{take-set-lt}
use Rattle.store.proofs.Bounds.{within_both}
use Rattle.store.proofs.list.Store.replace.Goals as goal

pub returns-clause-replaced : goal.returns-clause-replaced
returns-clause-replaced g c = search (rules, take-set-lt, within_both)
