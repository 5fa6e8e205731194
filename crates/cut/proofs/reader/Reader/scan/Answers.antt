use Rattle.std.proofs.Common.{◌≡◌, Bor, Some, rules, sym, refl, ap, ◌∙◌}
use Rattle.sheet.specs.Left.{left_at}
use Rattle.sheet.specs.View.{view}
use Rattle.sheet.specs.declared.page.Sheet.{Sheet}
use Rattle.cut.specs.Readers.{gives_at, shut_is}
use Rattle.cut.specs.Scanned.{is_two}
use Rattle.cut.specs.Scans.{goes_at, goes_done}
use Rattle.cut.proofs.reader.Reader.scan.Goals as goal

pub returns : goal.returns
returns g c =
    let t = c.next.new.self in
    let inv = c.steps.invariant in
    let how : c.next.new.self.closed ≡ Some c.unwrap.result = search rules in
    let shut = shut_is (g.F.Format.role t.format.now) t.closed c.unwrap.result t.state (left_at (view t.sheet.now) t.place) how in
    let done = gives_at _ _ _ _ c.in_default.is c.next.ensures.steps.gives in
    let rest = ap (λ (x : Bor Sheet). left_at (view x.now) c.next.new.self.place) (sym (c.next.ensures.steps.sheet ∙ inv.sheet)) in
    let two : c.eq.result ≡ is_two c.steps.tail = search rules in
    goes_done _ _ _ _ _ _ _ _ _ _ (goes_at _ _ _ _ _ _ _ _ _ (done ∙ shut) inv.goes) refl refl refl refl refl rest refl two refl refl c.is_inside.ensures inv.few inv.many
