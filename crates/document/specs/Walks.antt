-- How lines are taken off the front of those that are left, up to one that closes a block.
-- Assumes nothing.
use Rattle.std.specs.Prelude.{◌≡◌, ℕ, ◌+◌, ◌-◌, ◌<◌, ◌≤◌, List, length, Some, None, Option}
use Rattle.std.specs.Iterator.{Count, at_most}
use Rattle.document.specs.Lines.{line_at, next_at}
use Rattle.document.specs.Blocks.{Position, Closing, Missing, Closes}
use Rattle.document.specs.declared.attributes.Attributes as attributes
use Rattle.document.specs.declared.lines.Line.{Line}
use Rattle.document.specs.declared.lines.Lines.{Lines}

-- at a line, under attributes
abbrev pub at_line : Line → attributes.Attributes → Position
at_line l a = record { at = l.start; before = l.before; attributes = a }

-- in front of the lines that are left, under attributes
abbrev pub at_lines : Lines → attributes.Attributes → Position
at_lines s a = record { at = s.at; before = s.before; attributes = a }

abbrev pub closing_at : Line → Closing
closing_at l = record { start = l.start; before = l.before }

-- no more lines are left than bytes
abbrev pub bytes_left : Lines → Count
bytes_left s = at_most (length s.text.now - s.at)

-- the first of the lines that are left, and those behind it
pub record Reads (s : Lines) (l : Line) (t : Lines) : Type 0 where
  pub inside : s.at < length s.text.now
  pub bytes : l.bytes.now ≡ line_at s.text.now s.at
  pub start : l.start ≡ s.at
  pub next : l.next ≡ next_at s.text.now s.at
  pub before : l.before ≡ s.before
  pub text : t.text.now ≡ s.text.now
  pub at : t.at ≡ next_at s.text.now s.at
  pub behind : t.before ≡ s.before + 1

abbrev pub Advances : Lines → Option Line → Lines → Type 0
Advances s None t = (length s.text.now ≤ s.at) × (t ≡ s)
Advances s (Some l) t = Reads s l t

-- the first of the lines that are left that is the same as an opening line, and those behind it
pub record FindsLine (s : Lines) (opening : List ℕ) (l : Line) (t : Lines) : Type 0 where
  pub closes : Closes s.text.now opening s.at s.before (closing_at l)
  pub text : t.text.now ≡ s.text.now
  pub at : t.at ≡ next_at s.text.now l.start
  pub behind : t.before ≡ l.before + 1

-- none of them is, and none is left
pub record FindsNone (s : Lines) (opening : List ℕ) (t : Lines) : Type 0 where
  pub missing : Missing s.text.now opening s.at (length s.text.now)
  pub text : t.text.now ≡ s.text.now
  pub at : t.at ≡ length s.text.now

abbrev pub Finds : Lines → List ℕ → Option Line → Lines → Type 0
Finds s opening None t = FindsNone s opening t
Finds s opening (Some l) t = FindsLine s opening l t
