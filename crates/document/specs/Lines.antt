-- The lines of a text: where one ends, where the next begins, and what is read of one.
-- A text is a list of bytes. A line ends at a line feed, 10, or at the text's end.
-- Assumes nothing.
use Rattle.std.specs.Prelude.{ℕ, ◌+◌, ◌-◌, min, Bool, not, ◌||◌, List, length, take, drop, count_by, ◌==◌, slice_index}
use Rattle.std.specs.List.{suffix_len}
use Rattle.document.specs.Bytes.{before, trim_end}

-- how long the line is that begins at an offset, without its line feed
abbrev pub size_at : List ℕ → ℕ → ℕ
size_at text start = before 10 (drop start text)

-- the line that begins at an offset, without its line feed and without the blanks at its end
abbrev pub line_at : List ℕ → ℕ → List ℕ
line_at text start = trim_end (take (size_at text start) (drop start text))

-- where the line behind it begins, or the text's end
abbrev pub next_at : List ℕ → ℕ → ℕ
next_at text start = min (start + size_at text start + 1) (length text)

-- a line begins at an offset
abbrev pub is_line_start : List ℕ → ℕ → Bool
is_line_start text i = i == 0 || slice_index text (i - 1) == 10

-- how many line feeds there are
abbrev pub feeds : List ℕ → ℕ
feeds xs = count_by (λ x. x == 10) xs

-- how many bytes stand behind the last line feed
abbrev pub behind_feed : List ℕ → ℕ
behind_feed xs = suffix_len (λ x. not (x == 10)) xs
