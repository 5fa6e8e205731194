-- How a table's format and separator are chosen, and what its first paragraph is.
-- Assumes nothing.
use Rattle.std.specs.Prelude.{ℕ, Bool, true, false, cond, List, [], ◌∷◌, length, take, Some, None, Option, ◌==◌}
use Rattle.document.specs.Bytes.{before, trim_end}
use Rattle.document.specs.Pieces.{pieces}
use Rattle.document.specs.declared.attributes.FormatName.{FormatName}
use Rattle.document.specs.declared.attributes.FormatName.TheVariants.{Psv, Csv, Tsv, Dsv}
use Rattle.document.specs.declared.table.Format as format
use Rattle.document.specs.declared.table.Format.TheVariants as formats

-- by the attribute; else `,` is Csv, `:` is Dsv, and `|` and `!` are Prefix
abbrev pub format_of : Option FormatName → ℕ → format.Format
format_of None mark = cond (mark == 44) formats.Csv (cond (mark == 58) formats.Dsv formats.Prefix)
format_of (Some Psv) mark = formats.Prefix
format_of (Some Csv) mark = formats.Csv
format_of (Some Tsv) mark = formats.Csv
format_of (Some Dsv) mark = formats.Dsv

-- of an attribute of the format: `|` for psv, `,` for csv, a tab for tsv, `:` for dsv; without one the mark
abbrev pub format_separator : Option FormatName → ℕ → ℕ
format_separator None mark = mark
format_separator (Some Psv) mark = 124
format_separator (Some Csv) mark = 44
format_separator (Some Tsv) mark = 9
format_separator (Some Dsv) mark = 58

-- by the attribute, else by the format's
abbrev pub separator_for : Option ℕ → Option FormatName → ℕ → ℕ
separator_for None name mark = format_separator name mark
separator_for (Some b) name mark = b

-- a line of nothing but blanks
abbrev pub is_blank_line : List ℕ → Bool
is_blank_line xs = length (trim_end xs) == 0

-- the first line is blank
abbrev pub begins_blank : List ℕ → Bool
begins_blank xs = is_blank_line (take (before 10 xs) xs)

-- the first of some lines is blank, or there is none
abbrev pub blank_next : List (List ℕ) → Bool
blank_next [] = true
blank_next (l ∷ ls) = is_blank_line l

-- of some lines, those before the first blank one, blank ones in front left out, are exactly one
abbrev pub one_first : List (List ℕ) → Bool
one_first [] = false
one_first (l ∷ ls) = cond (is_blank_line l) (one_first ls) (blank_next ls)

-- the first paragraph of a text is one line
abbrev pub first_one_line : List ℕ → Bool
first_one_line xs = one_first (pieces 10 xs)
