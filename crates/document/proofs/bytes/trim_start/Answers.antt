use Rattle.std.proofs.Common.{ℕ, ◌-◌, length, drop, ap, ◌∙◌, arith, rules}
use Rattle.std.proofs.lemmas.Iterator.{YieldsList-from_slice}
use Rattle.std.proofs.lemmas.List.{take_all, length-drop}
use Rattle.document.specs.Bytes.{is_blank}
use Rattle.document.proofs.Chains.{count_while}
use Rattle.document.proofs.bytes.trim_start.Goals as goal

pub returns : goal.returns
returns c =
    let bytes = c.args.bytes.now in
    let w = c.take_while.ensures in
    take_all (length bytes - c.count-blanks.result) (drop c.count-blanks.result bytes) (simp length-drop (omega arith))
    ∙ ap (λ (n : ℕ). drop n bytes)
    (count_while is_blank bytes c.count-blanks.ensures.ran w.source w.closure w.done (YieldsList-from_slice bytes cc) (λ x b q k. search rules))
