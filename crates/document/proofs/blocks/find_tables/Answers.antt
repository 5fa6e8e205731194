use Rattle.std.proofs.Common.{[], ◌∷◌, vec_items, refl}
use Rattle.std.proofs.lemmas.Slice.{pushed}
use Rattle.document.proofs.Searches.{searched_front, searched_attributes, searched_aside, searched_text, searched_verbatim, searched_table}
use Rattle.document.proofs.blocks.find_tables.Goals as goal

pub loop-line-init : goal.loop-line-init
loop-line-init c =
    let s = c.new-lines.ensures in
    searched_front c.args.text.now c.new-lines.result _ (vec_items c.new-tables.result) s.text s.at s.before refl c.new-tables.ensures.items

pub loop-line-preserved-in-Table : goal.loop-line-preserved-in-Table
loop-line-preserved-in-Table c =
    searched_table c.args.text.now c.loop-line.lines c.in-Some.line c.next.new.self c.loop-line.attributes
    (vec_items c.loop-line.tables) c.loop-line.invariant c.in-Some.ensures.steps
    c.in-Some-find_closing.closing c.find_closing.new.lines _ c.table_of.result (vec_items c.push.new.self)
    c.in-Table.ensures c.in-Some-find_closing.ensures refl
    c.table_of.ensures (pushed (c.table_of.result ∷ []) refl c.in_ok-push-in-Table.was c.push.ensures.items)

pub loop-line-preserved-in-Verbatim : goal.loop-line-preserved-in-Verbatim
loop-line-preserved-in-Verbatim c =
    searched_verbatim c.args.text.now c.loop-line.lines c.in-Some.line c.next.new.self c.loop-line.attributes
    (vec_items c.loop-line.tables) c.loop-line.invariant c.in-Some.ensures.steps
    c.find_closing-in-Verbatim.result c.find_closing-in-Verbatim.new.lines _ c.in-Verbatim.ensures c.find_closing-in-Verbatim.ensures refl

pub loop-line-preserved-in-Attributes : goal.loop-line-preserved-in-Attributes
loop-line-preserved-in-Attributes c =
    searched_attributes c.args.text.now c.loop-line.lines c.in-Some.line c.next.new.self c.loop-line.attributes
    (vec_items c.loop-line.tables) c.loop-line.invariant c.in-Some.ensures.steps
    c.with_line-attributes.result c.in-Attributes.ensures c.with_line-attributes.ensures

pub loop-line-preserved-in-Aside : goal.loop-line-preserved-in-Aside
loop-line-preserved-in-Aside c =
    searched_aside c.args.text.now c.loop-line.lines c.in-Some.line c.next.new.self c.loop-line.attributes
    (vec_items c.loop-line.tables) c.loop-line.invariant c.in-Some.ensures.steps c.in-Aside.ensures

pub loop-line-preserved : goal.loop-line-preserved
loop-line-preserved c =
    searched_text c.args.text.now c.loop-line.lines c.in-Some.line c.next.new.self c.loop-line.attributes
    (vec_items c.loop-line.tables) c.loop-line.invariant c.in-Some.ensures.steps _ c.in-Text.ensures refl
