use Rattle.std.proofs.Common.{◌∙◌, arith, rules}
use Rattle.std.proofs.lemmas.List.{drop_all}
use Rattle.starts.proofs.Values.{more, over, is_small, is_large}
use Rattle.starts.proofs.number.small_number.Goals as goal

pub returns-in_err-checked_mul : goal.returns-in_err-checked_mul
returns-in_err-checked_mul c = c.from_residual.ensures ∙ is_large c.args.digits.now (over c.loop-byte.n c.loop-byte.byte-index c.args.digits.now _ (omega arith) c.loop-byte.invariant.0 (λ lt. c.in_err-checked_mul.ensures (omega arith)))

pub returns-in_err-n : goal.returns-in_err-n
returns-in_err-n c =
    let t = c.in_ok-checked_mul.ensures in
    c.from_residual-in_err-n.ensures ∙ is_large c.args.digits.now (over c.loop-byte.n c.loop-byte.byte-index c.args.digits.now _ (omega arith) c.loop-byte.invariant.0 (λ lt. c.in_err-n.ensures (omega arith)))

pub loop-byte-preserved : goal.loop-byte-preserved
loop-byte-preserved c =
    let m = more c.loop-byte.n c.loop-byte.byte-index c.args.digits.now (omega arith) in
    let t = c.in_ok-checked_mul.ensures in
    let a = c.in_ok-n.ensures in
    let inv = c.loop-byte.invariant.0 in
    (cc, search rules)

pub returns : goal.returns
returns c = is_small _ c.args.digits.now (search (rules, drop_all)) c.loop-byte.invariant.1
