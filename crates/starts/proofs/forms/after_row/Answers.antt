use Rattle.std.proofs.Common.{sym, rules}
use Rattle.std.proofs.lemmas.List.{take_rest}
use Rattle.starts.proofs.Begins.{begins_three}
use Rattle.starts.proofs.forms.after_row.Goals as goal

pub returns-in-len3-up : goal.returns-in-len3-up
returns-in-len3-up c =
    record {
      form = begins_three _ _ _ c.args.tokens.now _ (search rules) (sym c.if-is_dot.ensures) (sym c.if-is_plain.ensures) (sym c.if-is_plain-2.ensures);
      rest = take_rest c.args.tokens.now 3;
    }
