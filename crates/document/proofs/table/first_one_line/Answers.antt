use Rattle.std.proofs.Common.{◌==◌, sym, ◌∙◌, rules}
use Rattle.std.proofs.lemmas.Iterator.{YieldsList-from_map}
use Rattle.std.proofs.lemmas.Iterator.Consumers.{YieldsList-at}
use Rattle.std.proofs.lemmas.Iterator.Splits.{YieldsList-from_slice_split}
use Rattle.document.specs.Pieces.{pieces}
use Rattle.document.specs.Tables.{is_blank_line}
use Rattle.document.proofs.Paragraphs.{none_there, second_there}
use Rattle.document.proofs.table.first_one_line.Goals as goal

pub returns-then-is_some : goal.returns-then-is_some
returns-then-is_some c =
    let s = c.split.ensures in
    let m = c.map.ensures in
    let w = c.skip_while-blanks.ensures in
    c.unwrap_or.ensures ∙ second_there (pieces 10 c.args.text.now) c.next.result _ c.next.ensures.steps w.source w.closure w.done_skipping (λ x b q k. search rules)
    (YieldsList-from_map _ is_blank_line
    (YieldsList-at m.source
    (YieldsList-from_slice_split _ (λ x. x == 10) c.args.text.now s.rest s.done s.closure (λ x b q k. search rules)))
    m.closure (λ x r q k. search rules))
    (sym c.is_some.ensures ∙ c.if-is_some.true) c.next-then-is_some.result _ c.next-then-is_some.ensures.steps

pub returns-else-is_some : goal.returns-else-is_some
returns-else-is_some c =
    let s = c.split.ensures in
    let m = c.map.ensures in
    let w = c.skip_while-blanks.ensures in
    c.if-is_some.false ∙ none_there (pieces 10 c.args.text.now) c.next.result _ c.next.ensures.steps w.source w.closure w.done_skipping (λ x b q k. search rules)
    (YieldsList-from_map _ is_blank_line
    (YieldsList-at m.source
    (YieldsList-from_slice_split _ (λ x. x == 10) c.args.text.now s.rest s.done s.closure (λ x b q k. search rules)))
    m.closure (λ x r q k. search rules))
    (sym c.is_some.ensures ∙ c.if-is_some.false)
