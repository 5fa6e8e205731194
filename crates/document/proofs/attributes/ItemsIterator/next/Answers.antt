use Rattle.std.proofs.Common.{◌≡◌, suc, length, ap, ◌∙◌, rules}
use Rattle.document.specs.Attributes.{items_of, items_left}
use Rattle.document.proofs.Cuts.{items_next}
use Rattle.document.proofs.attributes.ItemsIterator.next.Goals as goal

pub returns : goal.returns
returns c =
    let e = ap items_of c.in_ok-list.was
    ∙ items_next c.in_ok-list.list.now c.split_at.result.0.now c.split_at.result.1.now c.item_size.result c.get-self.result
    c.item_size.ensures.value c.split_at.ensures.front c.split_at.ensures.back c.get-self.ensures.lookup in
    let less : length (items_left c.args.self.now) ≡ suc (length (items_left (record { 0 = c.get-self.result }))) = ap length e in
    record { steps = e; goes = search rules }
