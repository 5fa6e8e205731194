use Rattle.std.proofs.Common.{Some, ap, arith}
use Rattle.cut.specs.Readers.{gives_at}
use Rattle.cut.proofs.Fills.{fills_at, fills_more}
use Rattle.cut.proofs.reader.Reader.fill.Goals as goal

pub pieces-preserved-else-wanted-eq0 : goal.pieces-preserved-else-wanted-eq0
pieces-preserved-else-wanted-eq0 g c =
    let n = gives_at _ _ _ _ (ap Some c.in-Takes.is) c.in-Some.ensures.steps.gives in
    let p = c.in-Ok.ensures in
    record {
      can = tt;
      finite = tt;
      some = omega arith;
      fills = fills_more _ _ _ _ _ _ _ _ n.0 _ _ _ _ c.pieces.invariant.some n.2 p.added p.room (fills_at _ _ _ _ _ _ _ _ _ n.1 c.pieces.invariant.fills);
    }
