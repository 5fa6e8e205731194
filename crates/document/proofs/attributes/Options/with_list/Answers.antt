use Rattle.std.proofs.Common.{◌==◌, rules}
use Rattle.std.proofs.lemmas.Iterator.Consumers.{fold_from_yields_List}
use Rattle.std.proofs.lemmas.Iterator.Splits.{YieldsList-from_slice_split}
use Rattle.document.specs.Bytes.{trim}
use Rattle.document.specs.Attributes.{with_option}
use Rattle.document.proofs.attributes.Options.with_list.Goals as goal

pub returns : goal.returns
returns c =
    fold_from_yields_List _ (λ p piece. with_option p (trim piece)) c.args.self c.fold.result c.fold.ensures.ran
    (YieldsList-from_slice_split _ (λ x. x == 44) c.args.list.now c.split.ensures.rest c.split.ensures.done c.split.ensures.closure (λ x b q k. search rules))
    (λ a x b q k. search rules)
