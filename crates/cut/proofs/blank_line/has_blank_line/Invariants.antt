use Rattle.std.proofs.Common.{◌≡◌, ℕ, ◌+◌, ◌<◌, true, get_or, drop}
use Rattle.sheet.specs.View.{view, is_newline_piece}
use Rattle.cut.specs.BlankLine.{two_newlines}
use Rattle.cut.proofs.blank_line.has_blank_line.Given as goal

abbrev pub invariant-pairs : goal.invariant-pairs
invariant-pairs l = two_newlines (view l.sheet) (drop l.i l.pieces) ≡ two_newlines (view l.sheet) l.pieces

abbrev pub invariant-loop-k : goal.invariant-loop-k
invariant-loop-k l = (m : ℕ) → m < l.k → is_newline_piece (view l.sheet) (get_or l.pieces (l.i + m) (record { token = 0; offset = 0; length = 0 })) ≡ true
