-- Attributes in brackets: how a list is cut into items, and what names and values mean.
-- A spot is where reading stands in an item: quotes open in front of the item or of its value.
-- Assumes nothing.
use Rattle.std.specs.Prelude.{ℕ, ◌+◌, ◌-◌, ◌^◌, min, Bool, true, false, cond, not, ◌&&◌, ◌||◌, List, [], ◌∷◌, length, take, drop, Some, None, codes, fold, Option, ◌==◌, nat_le, nat_lt, slice_index}
use Rattle.std.specs.Borrow.{Bor}
use Rattle.std.specs.List.{prefix_len, onto_first}
use Rattle.std.specs.Str.{bytes_eq}
use Rattle.document.specs.Bytes.{before, trim, trim_end}
use Rattle.document.specs.Marks.{is_attribute_line}
use Rattle.document.specs.Pieces.{pieces, behind}
use Rattle.document.specs.Columns.{kept_of, all_styles}
use Rattle.document.specs.declared.attributes.Attributes as attributes
use Rattle.document.specs.declared.attributes.Options as options
use Rattle.document.specs.declared.attributes.FormatName.{FormatName}
use Rattle.document.specs.declared.attributes.FormatName.TheVariants.{Psv, Csv, Tsv, Dsv}
use Rattle.document.specs.declared.attributes.Name.{Name}
use Rattle.document.specs.declared.attributes.Name.TheVariants.{Cols, Options, Format, Separator}
use Rattle.document.specs.declared.attributes.Items.{Items}
use Rattle.document.specs.declared.attributes.Spot.{Spot}
use Rattle.document.specs.declared.attributes.Spot.TheVariants.{Front, Quoted, Inside}

-- where reading stands behind a byte: `"` or `'` in front opens quotes, which the same byte closes; a `=` outside of
-- quotes begins a value; spaces and tabs in front leave it there
abbrev pub after : Spot → ℕ → Spot
after Front b =
    cond (b == 34 || b == 39) (Quoted b)
    (cond (b == 32 || (b == 9 || b == 61)) Front Inside)
after (Quoted q) b = cond (b == q) Inside (Quoted q)
after Inside b = cond (b == 61) Front Inside

-- a comma ends an item, but not in quotes
abbrev pub ends_item : Spot → ℕ → Bool
ends_item Front b = b == 44
ends_item (Quoted q) b = false
ends_item Inside b = b == 44

-- how many bytes the first item of a list has
abbrev pub item_size : Spot → List ℕ → ℕ
item_size s [] = 0
item_size s (x ∷ xs) = cond (ends_item s x) 0 (1 + item_size (after s x) xs)

-- the items of a list between commas
abbrev pub items : Spot → List ℕ → List (List ℕ)
items s [] = [] ∷ []
items s (x ∷ xs) = cond (ends_item s x) ([] ∷ items Front xs) (onto_first x (items (after s x) xs))

-- the items behind the first comma, of a list that begins with it
abbrev pub items_behind : List ℕ → List (List ℕ)
items_behind [] = []
items_behind (x ∷ xs) = items Front xs

-- the items of what is left of a list, of which nothing is left behind the last item
abbrev pub items_of : Option (Bor (List ℕ)) → List (List ℕ)
items_of None = []
items_of (Some list) = items Front list.now

abbrev pub items_left : Items → List (List ℕ)
items_left i = items_of i.0

-- `#` and `.` end an option of the shorthand
abbrev pub is_option_end : ℕ → Bool
is_option_end b = b == 35 || b == 46

abbrev pub option_size : List ℕ → ℕ
option_size xs = prefix_len (λ x. not (is_option_end x)) xs

abbrev pub name_of : List ℕ → Option Name
name_of xs =
    cond (bytes_eq xs (codes "cols")) (Some Cols)
    (cond (bytes_eq xs (codes "options") || bytes_eq xs (codes "opts")) (Some Options)
    (cond (bytes_eq xs (codes "format")) (Some Format)
    (cond (bytes_eq xs (codes "separator")) (Some Separator) None)))

abbrev pub format_named : List ℕ → Option FormatName
format_named xs =
    cond (bytes_eq xs (codes "psv")) (Some Psv)
    (cond (bytes_eq xs (codes "csv")) (Some Csv)
    (cond (bytes_eq xs (codes "tsv")) (Some Tsv)
    (cond (bytes_eq xs (codes "dsv")) (Some Dsv) None)))

-- one byte is itself, a backslash and `t` are a tab, and no other value is a separator
abbrev pub separator_of : List ℕ → Option ℕ
separator_of [] = None
separator_of (a ∷ []) = Some a
separator_of (a ∷ b ∷ []) = cond (a == 92 && b == 116) (Some 9) None
separator_of (a ∷ b ∷ c ∷ cs) = None

-- in quotes of one kind
abbrev pub is_quoted : List ℕ → Bool
is_quoted xs =
    nat_le 2 (length xs) && (slice_index xs 0 == slice_index xs (length xs - 1) && (slice_index xs 0 == 34 || slice_index xs 0 == 39))

-- without the quotes around it
abbrev pub unquoted : List ℕ → List ℕ
unquoted xs = cond (is_quoted xs) (drop 1 (take (length xs - 1) xs)) xs

-- an option is added where it is one of the three
abbrev pub with_option : options.Options → List ℕ → options.Options
with_option o xs =
    record {
      header = o.header || bytes_eq xs (codes "header");
      noheader = o.noheader || bytes_eq xs (codes "noheader");
      footer = o.footer || bytes_eq xs (codes "footer");
    }

-- the options of a list between commas
abbrev pub with_options : options.Options → List ℕ → options.Options
with_options o xs = fold (λ p piece. with_option p (trim piece)) o (pieces 44 xs)

-- the option that a part behind a `%` is: what stands before a `#` or a `.`
abbrev pub option_in : List ℕ → List ℕ
option_in part = trim (take (option_size part) part)

-- the options of a shorthand: one behind each `%`
abbrev pub with_shorthand : options.Options → List ℕ → options.Options
with_shorthand o xs = fold (λ p part. with_option p (option_in part)) o (behind 37 (drop (before 37 xs) xs))

-- what attributes say of a table: how many columns and which styles of them, the options, the format, the separator
pub record Said : Type 0 where
  pub count : ℕ
  pub styles : List ℕ
  pub options : options.Options
  pub format : Option FormatName
  pub separator : Option ℕ

abbrev pub said : attributes.Attributes → Said
said a = record { count = a.columns.count; styles = kept_of a.columns; options = a.options; format = a.format; separator = a.separator }

-- no attributes
abbrev pub nothing : Said
nothing = record { count = 0; styles = []; options = record { header = false; noheader = false; footer = false }; format = None; separator = None }

-- a later value, if there is one, else the earlier
abbrev pub latest : {A : Type 0} → Option A → Option A → Option A
latest None old = old
latest (Some x) old = Some x

-- with a named value
abbrev pub with_value : Said → Name → List ℕ → Said
with_value s Cols v = record { count = min (length (all_styles v)) (2 ^ 64 - 1); styles = take 64 (all_styles v); options = s.options; format = s.format; separator = s.separator }
with_value s Options v = record { count = s.count; styles = s.styles; options = with_options s.options v; format = s.format; separator = s.separator }
with_value s Format v = record { count = s.count; styles = s.styles; options = s.options; format = latest (format_named v) s.format; separator = s.separator }
with_value s Separator v = record { count = s.count; styles = s.styles; options = s.options; format = s.format; separator = latest (separator_of v) s.separator }

-- with a value by a name that may have no meaning here
abbrev pub with_named : Said → Option Name → List ℕ → Said
with_named s None v = s
with_named s (Some name) v = with_value s name v

-- with a shorthand
abbrev pub with_short : Said → List ℕ → Said
with_short s xs = record { count = s.count; styles = s.styles; options = with_shorthand s.options xs; format = s.format; separator = s.separator }

-- with an item: a name and a value where it holds a `=`, else a shorthand where it is the first, else nothing
abbrev pub with_item : Said → List ℕ → Bool → Said
with_item s xs first =
    cond (nat_lt 0 (length (drop (before 61 xs) xs)))
    (with_named s (name_of (trim (take (before 61 xs) xs))) (unquoted (trim (drop 1 (drop (before 61 xs) xs)))))
    (cond first (with_short s xs) s)

-- with items one after the other, of which only the first may be a shorthand
abbrev pub with_items : Bool → Said → List (List ℕ) → Said
with_items first s [] = s
with_items first s (x ∷ xs) = with_items false (with_item s (trim x) first) xs

-- with the items of a list
abbrev pub with_list : Said → List ℕ → Said
with_list s xs = with_items true s (items Front xs)

-- with what stands in the brackets of an attribute line
abbrev pub with_brackets : Said → List ℕ → Said
with_brackets s xs = cond (is_attribute_line xs) (with_list s (drop 1 (take (length xs - 1) xs))) s

-- the same of a line with blanks at its end
abbrev pub with_line : Said → List ℕ → Said
with_line s xs = with_brackets s (trim_end xs)
