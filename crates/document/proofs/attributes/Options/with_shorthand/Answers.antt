use Rattle.std.proofs.Common.{◌==◌, ℕ, List, drop, fold, ap, ◌∙◌, rules}
use Rattle.std.proofs.lemmas.Iterator.Consumers.{YieldsList-at, fold_from_yields_List}
use Rattle.std.proofs.lemmas.Iterator.Adapters.{YieldsList-from_skip}
use Rattle.std.proofs.lemmas.Iterator.Splits.{YieldsList-from_slice_split}
use Rattle.document.specs.Attributes.{with_option, option_in}
use Rattle.document.proofs.Cuts.{pieces_cut}
use Rattle.document.proofs.attributes.Options.with_shorthand.Goals as goal

pub returns : goal.returns
returns c =
    fold_from_yields_List _ (λ p part. with_option p (option_in part)) c.args.self c.fold.result c.fold.ensures.ran
    (YieldsList-from_skip 1
    (YieldsList-at c.skip.ensures.source
    (YieldsList-from_slice_split _ (λ x. x == 37) c.args.item.now c.split.ensures.rest c.split.ensures.done c.split.ensures.closure (λ x b q k. search rules)))
    c.skip.ensures.count)
    (λ a x b q k. search rules)
    ∙ ap (λ (ps : List (List ℕ)). fold (λ p part. with_option p (option_in part)) c.args.self (drop 1 ps)) (pieces_cut 37 c.args.item.now)
