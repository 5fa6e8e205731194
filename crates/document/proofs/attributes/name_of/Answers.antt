use Rattle.std.proofs.Common.{codes, sym, ap, arith, rules}
use Rattle.std.proofs.lemmas.Slice.Eq.{text_from_reads}
use Rattle.document.specs.Attributes.{name_of}
use Rattle.document.proofs.attributes.name_of.Goals as goal

pub returns-in-format : goal.returns-in-format
returns-in-format c = sym (ap name_of (text_from_reads c.args.name.now (codes "format") (omega arith) (search rules)))

pub returns-in-separator : goal.returns-in-separator
returns-in-separator c = sym (ap name_of (text_from_reads c.args.name.now (codes "separator") (omega arith) (search rules)))

pub returns-in-options-2 : goal.returns-in-options-2
returns-in-options-2 c = sym (ap name_of (text_from_reads c.args.name.now (codes "options") (omega arith) (search rules)))
