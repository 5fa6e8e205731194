use Rattle.std.proofs.Common.{◌≡◌, ℕ, ◌-◌, length, take, drop, replicate, ap, ◌∙◌, arith, rules}
use Rattle.std.proofs.lemmas.List.{length-replicate, length-take, length-drop}
use Rattle.styles.specs.Styles.{number_of}
use Rattle.document.proofs.Spread.{filled}
use Rattle.document.proofs.columns.Columns.with.Goals as goal

pub returns : goal.returns
returns c =
    let part = c.min.result - c.min-from.result in
    let size : length (take part (drop c.min-from.result c.args.self.styles)) ≡ part = simp (length-take, length-drop) (omega arith) in
    let same = c.fill.ensures.after (search rules) ∙ ap (λ (n : ℕ). replicate n c.number.result) size ∙ ap (λ (s : ℕ). replicate part s) c.number.ensures in
    record {
      count = search (rules, length-replicate c.args.times (number_of c.args.style));
      kept = filled c.args.self.count c.args.times c.saturating_add-count.result c.min-from.result c.min.result (number_of c.args.style) c.args.self.styles c.fill.new.self
          (omega arith) c.min-from.ensures c.saturating_add-count.ensures c.min.ensures same;
    }
