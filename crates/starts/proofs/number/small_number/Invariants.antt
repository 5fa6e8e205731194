use Rattle.std.proofs.Common.{◌≡◌, ◌≤◌, drop}
use Rattle.starts.specs.Numbers.{value_from}
use Rattle.starts.proofs.number.small_number.Given as goal

abbrev pub invariant-loop-byte : goal.invariant-loop-byte
invariant-loop-byte l = (value_from l.n (drop l.byte-index l.digits) ≡ value_from 0 l.digits) × (l.n ≤ 255)
