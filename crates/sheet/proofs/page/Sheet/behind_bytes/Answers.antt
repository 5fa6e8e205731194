use Rattle.std.proofs.Common.{ap, ◌∙◌, arith}
use Rattle.sheet.specs.Left.{left_at}
use Rattle.sheet.specs.View.{view}
use Rattle.sheet.proofs.Lefts.{behind_inner, behind_outer}
use Rattle.sheet.proofs.page.Sheet.behind_bytes.Goals as goal

pub returns-then-count-length : goal.returns-then-count-length
returns-then-count-length c =
    let t = c.in-Some.ensures in
    behind_inner (view c.args.self.now) c.args.place.token c.args.place.offset c.args.count c.in-Some.token c.args.self.now.sound t.found t.within c.if-place-length.false (omega arith)

pub returns-else-count-length : goal.returns-else-count-length
returns-else-count-length c =
    let t = c.in-Some.ensures in
    ap (left_at (view c.args.self.now)) c.front.ensures
    ∙ behind_outer (view c.args.self.now) c.args.place.token c.args.place.offset c.args.count c.in-Some.token c.args.self.now.sound t.found t.within c.if-place-length.false (omega arith)
