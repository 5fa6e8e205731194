-- What a line is to the search for tables.
-- A line is the list of its bytes, without its line feed and without the blanks at its end.
-- Assumes nothing.
use Rattle.std.specs.Prelude.{ℕ, ◌-◌, Bool, false, cond, not, ◌&&◌, ◌||◌, List, [], ◌∷◌, length, drop, ◌==◌, nat_le, slice_index}
use Rattle.document.specs.Bytes.{all_of}
use Rattle.document.specs.declared.marks.LineKind.{LineKind}
use Rattle.document.specs.declared.marks.LineKind.TheVariants.{Table, Verbatim, Attributes, Aside, Text}

-- `|` `,` `:` `!`
abbrev pub is_table_mark : ℕ → Bool
is_table_mark b = b == 124 || (b == 44 || (b == 58 || b == 33))

-- `-` `.` `/` `+`
abbrev pub is_verbatim_mark : ℕ → Bool
is_verbatim_mark b = b == 45 || (b == 46 || (b == 47 || b == 43))

-- a mark of tables and three or more `=`
abbrev pub is_table_line : List ℕ → Bool
is_table_line xs = nat_le 4 (length xs) && (is_table_mark (slice_index xs 0) && all_of 61 (drop 1 xs))

-- four or more of one mark of verbatim blocks
abbrev pub is_verbatim_line : List ℕ → Bool
is_verbatim_line xs = nat_le 4 (length xs) && (is_verbatim_mark (slice_index xs 0) && all_of (slice_index xs 0) xs)

-- a `.` and then a byte that is neither a space, a tab nor a `.`
abbrev pub is_title : List ℕ → Bool
is_title [] = false
is_title (a ∷ []) = false
is_title (a ∷ b ∷ bs) = a == 46 && (not (b == 32) && (not (b == 9) && not (b == 46)))

-- begins with `//` and not with `///`
abbrev pub is_comment : List ℕ → Bool
is_comment [] = false
is_comment (a ∷ []) = false
is_comment (a ∷ b ∷ []) = a == 47 && b == 47
is_comment (a ∷ b ∷ c ∷ cs) = a == 47 && (b == 47 && not (c == 47))

-- begins with `[[`
abbrev pub begins_anchor : List ℕ → Bool
begins_anchor [] = false
begins_anchor (a ∷ []) = false
begins_anchor (a ∷ b ∷ bs) = a == 91 && b == 91

-- ends with `]]`
abbrev pub ends_anchor : List ℕ → Bool
ends_anchor xs = nat_le 2 (length xs) && (slice_index xs (length xs - 1) == 93 && slice_index xs (length xs - 2) == 93)

-- begins with `[` and ends with `]`
abbrev pub is_bracketed : List ℕ → Bool
is_bracketed xs = nat_le 2 (length xs) && (slice_index xs 0 == 91 && slice_index xs (length xs - 1) == 93)

-- in brackets, and no anchor
abbrev pub is_attribute_line : List ℕ → Bool
is_attribute_line xs = is_bracketed xs && not (begins_anchor xs)

-- leaves the attributes above it in force: blank, a title, a comment or an anchor
abbrev pub is_aside : List ℕ → Bool
is_aside xs = length xs == 0 || (is_title xs || (is_comment xs || (begins_anchor xs && ends_anchor xs)))

-- what a line is
abbrev pub kind_of : List ℕ → LineKind
kind_of xs =
    cond (is_table_line xs) Table
    (cond (is_verbatim_line xs) Verbatim
    (cond (is_attribute_line xs) Attributes
    (cond (is_aside xs) Aside Text)))
