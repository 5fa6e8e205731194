use Rattle.std.proofs.Common.{sym, arith}
use Rattle.sheet.proofs.Tokens.{all_from_first}
use Rattle.sheet.proofs.page.Sheet.new.Goals as goal

pub invariant_of-result : goal.invariant_of-result
invariant_of-result c =
    let h = c.in_default.ensures in
    record {
      short_page = omega arith;
      short_replacement = omega arith;
      few_tokens = omega arith;
      sound = all_from_first c.args.page.now c.args.replacement.now c.args.tokens.now (sym h);
    }
