use Rattle.std.proofs.Common.{sym, rules}
use Rattle.std.proofs.lemmas.List.{take_rest}
use Rattle.starts.proofs.Begins.{begins_two}
use Rattle.starts.proofs.forms.after_digits.Goals as goal

pub returns-in-len2-up : goal.returns-in-len2-up
returns-in-len2-up c =
    record {
      form = begins_two _ _ c.args.tokens.now _ (search rules) (sym c.if-is_plain.ensures) (sym c.if-is_plain-2.ensures);
      rest = take_rest c.args.tokens.now 2;
    }
