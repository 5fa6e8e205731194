-- The columns that the value of `cols` gives, by the list of their styles.
-- A mark parts a value into entries; an entry is one column, or as many as its multiplier says.
-- Assumes nothing.
use Rattle.std.specs.Prelude.{◌≡◌, ℕ, ◌+◌, ◌-◌, ◌^◌, min, max, Bool, cond, not, ◌&&◌, List, ◌++◌, length, take, replicate, unwrap_or, ◌==◌, nat_lt, slice_index}
use Rattle.std.specs.List.{flat_map, list_any}
use Rattle.document.specs.Bytes.{leading_digits, all_digits, value_of, trim}
use Rattle.document.specs.Pieces.{pieces}
use Rattle.document.specs.declared.columns.Columns.{Columns}
use Rattle.styles.specs.Styles.{number_of, style_named}
use Rattle.styles.specs.declared.Style.{Style}
use Rattle.styles.specs.declared.Style.TheVariants.{Default}

-- the styles that are kept of columns, by their numbers
abbrev pub kept_of : Columns → List ℕ
kept_of c = take c.count c.styles

-- columns of these styles: so many, or the largest of 64 bits where that is less, with the first 64 styles kept
pub record HasStyles (c : Columns) (styles : List ℕ) : Type 0 where
  pub count : c.count ≡ min (length styles) (2 ^ 64 - 1)
  pub kept : kept_of c ≡ take 64 styles

-- the new columns have one more of each of these styles behind the old ones
pub record AddsStyles (old new : Columns) (styles : List ℕ) : Type 0 where
  pub count : new.count ≡ min (old.count + length styles) (2 ^ 64 - 1)
  pub kept : kept_of new ≡ take 64 (kept_of old ++ styles)

-- a letter's style: `a` AsciiDoc, `e` emphasis, `h` header, `l` literal, `m` monospace, `s` strong, else the default
abbrev pub letter_style : ℕ → Style
letter_style b = unwrap_or (style_named b) Default

-- the style of an entry, by its last byte
abbrev pub style_of : List ℕ → Style
style_of entry = letter_style (slice_index entry (length entry - 1))

-- an entry begins with digits and a `*`
abbrev pub is_multiplied : List ℕ → Bool
is_multiplied entry =
    nat_lt 0 (leading_digits entry) && (nat_lt (leading_digits entry) (length entry) && slice_index entry (leading_digits entry) == 42)

-- how many columns an entry stands for: what the digits before a `*` at its front say, but at least 1
abbrev pub times_of : List ℕ → ℕ
times_of entry = cond (is_multiplied entry) (max (value_of (take (leading_digits entry) entry)) 1) 1

-- a byte stands in a text
abbrev pub holds : ℕ → List ℕ → Bool
holds b xs = list_any (λ x. x == b) xs

-- entries are parted by `;` where there is one and no `,`, else by `,`
abbrev pub entry_mark : List ℕ → ℕ
entry_mark xs = cond (holds 59 xs && not (holds 44 xs)) 59 44

-- the styles of the columns that an entry stands for
abbrev pub entry_styles : List ℕ → List ℕ
entry_styles entry = replicate (times_of (trim entry)) (number_of (style_of (trim entry)))

-- the styles of entries between marks, one for each column
abbrev pub styles_between : ℕ → List ℕ → List ℕ
styles_between b xs = flat_map entry_styles (pieces b xs)

-- the styles that the value of `cols` gives: digits alone are so many of the default, and a blank value is none
abbrev pub styles_in : List ℕ → List ℕ
styles_in xs = cond (all_digits xs) (replicate (value_of xs) (number_of Default)) (styles_between (entry_mark xs) xs)

abbrev pub all_styles : List ℕ → List ℕ
all_styles xs = styles_in (trim xs)
