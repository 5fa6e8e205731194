use Rattle.std.proofs.Common.{not, sym, refl, ap, ◌∙◌}
use Rattle.std.proofs.lemmas.Bool.{and_right}
use Rattle.sheet.specs.Left.{behind_bytes, seen_at}
use Rattle.sheet.specs.View.{view}
use Rattle.starts.specs.Start.{start_of}
use Rattle.starts.proofs.Looks.{starts_here, no_start, start_is_none, start_is_some}
use Rattle.starts.proofs.start.read_start.Goals as goal

pub returns-then-first-separator : goal.returns-then-first-separator
returns-then-first-separator c =
    let s = c.in_ok-seen.ensures in
    let t = seen_at c.in_ok-seen.seen in
    start_is_some (view c.args.sheet.now) _ _ _ (ap (start_of c.args.separator) s.seen ∙ starts_here c.args.separator t _ c.if-seen.false c.in_ok-seen.seen.some c.if-first-separator.true)
    refl (c.behind_bytes.ensures ∙ ap (behind_bytes 1) s.seen)

pub returns-then-not-may_start : goal.returns-then-not-may_start
returns-then-not-may_start c =
    let s = c.in_ok-seen.ensures in
    let t = seen_at c.in_ok-seen.seen in
    start_is_none (view c.args.sheet.now) _
    (ap (start_of c.args.separator) s.seen ∙ no_start c.args.separator t _ c.if-first-separator.false (and_right (not t.replaced) _ (sym c.if-not-may_start.ensures)))
