use Rattle.std.proofs.Common.{ℕ, not, take, ap, ◌∙◌, rules}
use Rattle.std.proofs.lemmas.Iterator.{YieldsList-from_slice}
use Rattle.document.specs.Bytes.{trim}
use Rattle.document.specs.Attributes.{is_option_end}
use Rattle.document.proofs.Chains.{count_while}
use Rattle.document.proofs.attributes.option_in.Goals as goal

pub returns : goal.returns
returns c =
    c.trim.ensures
    ∙ ap (λ (n : ℕ). trim (take n c.args.part.now))
    (count_while (λ x. not (is_option_end x)) c.args.part.now c.count-size.ensures.ran c.take_while.ensures.source c.take_while.ensures.closure
    c.take_while.ensures.done (YieldsList-from_slice c.args.part.now cc) (λ x b q k. search rules))
