use Rattle.std.proofs.Common.{◌∙◌}
use Rattle.sheet.specs.Left.{left_at}
use Rattle.sheet.specs.View.{view}
use Rattle.starts.specs.Start.{start_of}
use Rattle.cut.specs.Prefix.{starts}
use Rattle.cut.specs.Prefixes.{start_told}
use Rattle.cut.proofs.prefix.Prefix.is_start.Goals as goal

pub returns : goal.returns
unfolding starts
returns c = c.is_some.ensures ∙ start_told (view c.args.sheet.now) c.read_start.result (start_of c.args.self.now.byte (left_at (view c.args.sheet.now) c.args.place)) c.read_start.ensures
