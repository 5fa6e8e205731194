use Rattle.std.proofs.Common.{Some, sym, subst}
use Rattle.sheet.specs.Left.{left_at}
use Rattle.sheet.specs.View.{view}
use Rattle.starts.specs.Start.{nothing_written}
use Rattle.cut.specs.Prefix.{HeadIs, head_of_cell}
use Rattle.cut.specs.declared.types.Note.{Note}
use Rattle.cut.specs.Prefixes.{head_some, head_none}
use Rattle.cut.proofs.prefix.Prefix.read_head.Goals as goal

pub returns-in-Some : goal.returns-in-Some
returns-in-Some c = head_some (view c.args.sheet.now) c.args.self.now.byte c.args.seen.place.token (left_at (view c.args.sheet.now) c.args.seen.place) c.in-Some.start c.in-Some.ensures

pub returns-in-None : goal.returns-in-None
returns-in-None c =
    let v = view c.args.sheet.now in
    subst (λ (n : Note). HeadIs v (record { specifier = nothing_written; place = c.args.seen.place; note = Some n }) (head_of_cell c.args.self.now.byte c.args.seen.place.token (left_at (view c.args.sheet.now) c.args.seen.place))) (sym c.at.ensures)
    (head_none (view c.args.sheet.now) c.args.self.now.byte c.args.seen.place c.in-None.ensures)
