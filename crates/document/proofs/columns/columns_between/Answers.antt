use Rattle.std.proofs.Common.{◌==◌, refl, rules}
use Rattle.std.specs.List.{flat_map}
use Rattle.std.proofs.lemmas.Iterator.Splits.{YieldsList-from_slice_split}
use Rattle.document.proofs.Chains.{fold_keeps}
use Rattle.document.specs.Columns.{HasStyles, entry_styles}
use Rattle.document.proofs.Spread.{holds_more}
use Rattle.document.proofs.columns.columns_between.Goals as goal

pub returns : goal.returns
returns c =
    fold_keeps (λ entries d. HasStyles d (flat_map entry_styles entries)) c.fold.ensures.ran
    (YieldsList-from_slice_split _ (λ x. x == c.args.mark) c.args.value.now c.split.ensures.rest c.split.ensures.done c.split.ensures.closure (λ x b q k. search rules))
    (record { count = refl; kept = refl }) (λ ys a x b f' h k. (holds_more ys x.now a b h (search rules), search rules))
