use Rattle.std.proofs.Common.{rules}
use Rattle.document.proofs.Walks.{finds}
use Rattle.document.proofs.blocks.find_closing.Goals as goal

pub returns : goal.returns
returns c = finds c.args.opening.now _ _ (λ x b q k. search rules) c.args.lines.now c.find-found.new.self c.find-found.result c.find-found.ensures.ran
