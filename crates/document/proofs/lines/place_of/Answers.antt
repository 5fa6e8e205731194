use Rattle.std.proofs.Common.{◌≡◌, ◌==◌, ℕ, not, take, reverse, ap, ◌∙◌, arith, rules}
use Rattle.std.specs.Slice.Iter.{iter_rest}
use Rattle.std.proofs.lemmas.List.{take_min}
use Rattle.std.proofs.lemmas.Iterator.Adapters.{YieldsList-from_rev_slice}
use Rattle.document.specs.Lines.{behind_feed}
use Rattle.document.proofs.Chains.{count_while}
use Rattle.document.proofs.lines.place_of.Goals as goal

pub returns-clause-column : goal.returns-clause-column
returns-clause-column c =
    let text = c.args.text.now in
    let head = take c.min.result text in
    let w = c.take_while.ensures in
    let front : head ≡ take c.args.offset text = ap (λ (n : ℕ). take n text) c.min.ensures ∙ take_min c.args.offset text in
    let behind : c.count-behind.result ≡ behind_feed (take c.args.offset text) =
    count_while (λ x. not (x == 10)) (reverse head) c.count-behind.ensures.ran w.source w.closure w.done
    (YieldsList-from_rev_slice head (ap iter_rest c.rev.ensures.source ∙ c.iter-2.ensures.rest)) (λ x b q k. search rules)
    ∙ ap behind_feed front in
    omega (arith, behind)
