-- Where a cell starts, for a separator byte.
-- Assumes nothing.
use Rattle.std.specs.Prelude.{◌≡◌, ℕ, ◌≤◌, Bool, cond, ◌&&◌, ◌||◌, List, [], ◌∷◌, is_some, Some, None, Option, ◌==◌, slice_index}
use Rattle.std.specs.Option.{option_map}
use Rattle.styles.specs.Styles.{number_of, style_named}
use Rattle.styles.specs.declared.Style.{Style}
use Rattle.sheet.specs.Kinds.{callout_number, caret, digits, dots, greater_than, less_than, word}
use Rattle.sheet.specs.Left.{Left, left_at, behind_bytes, behind_token, plain}
use Rattle.sheet.specs.View.{SheetView}
use Rattle.starts.specs.Fronts.{begins, in_front, has_byte, single, just}
use Rattle.starts.specs.Parts.{Said, parts_of, written}
use Rattle.starts.specs.declared.parts.Parts.{Parts}
use Rattle.starts.specs.declared.parts.Alignment.{Alignment}
use Rattle.starts.specs.declared.parts.Span.{Span}
use Rattle.starts.specs.declared.specifier.Horizontal.{Horizontal}
use Rattle.starts.specs.declared.specifier.Specifier.{Specifier}
use Rattle.starts.specs.declared.specifier.Start.{Start}
use Rattle.starts.specs.declared.specifier.Vertical.{Vertical}

-- a style, where one is written, is one of the seven
abbrev pub KnownStyle : Option ℕ → Type 0
KnownStyle None = Unit {0}
KnownStyle (Some n) = n ≤ 6

-- A Word names the style of its first letter.
abbrev pub style_in : Left → Option Style
style_in t = cond (plain word t) (style_named (slice_index t.bytes 0)) None

-- a factor that is not written is 1
abbrev pub factor_of : Option ℕ → ℕ
factor_of None = 1
factor_of (Some n) = n

-- a span that is not written is of one column and one row
abbrev pub columns_of : Option Span → ℕ
columns_of None = 1
columns_of (Some s) = s.columns

abbrev pub rows_of : Option Span → ℕ
rows_of None = 1
rows_of (Some s) = s.rows

abbrev pub horizontal_of : Option Alignment → Option Horizontal
horizontal_of None = None
horizontal_of (Some a) = Some a.horizontal

-- a vertical alignment goes over what `<.>` set
abbrev pub vertical_over : Option Vertical → Option Alignment → Option Vertical
vertical_over (Some v) a = Some v
vertical_over None None = None
vertical_over None (Some a) = a.vertical

-- the specifier that the parts and a style make
abbrev pub specified : Parts → Option Style → Specifier
specified p s = record {
  factor = factor_of p.factor;
  columns = columns_of p.span;
  rows = rows_of p.span;
  horizontal = horizontal_of p.alignment;
  vertical = vertical_over p.vertical p.alignment;
  style = option_map number_of s;
}

-- the specifier where nothing is written
abbrev pub nothing_written : Specifier
nothing_written = record { factor = 1; columns = 1; rows = 1; horizontal = None; vertical = None; style = None }

-- a start: its specifier, and the tokens that are left behind its separator
pub record Started : Type 0 where
  pub specifier : Specifier
  pub left : List Left

-- Behind the parts, with no style: a part has to be there, and then comes a token that is just the separator.
abbrev pub plain_start : ℕ → Said → Option Started
plain_start sep p =
    cond (written p.parts && begins (just sep ∷ []) p.left)
    (Some (record { specifier = specified p.parts None; left = behind_token p.left }))
    None

-- Behind the parts, with a style Word of one letter: then comes a token that is just the separator.
abbrev pub short_start : ℕ → Said → Style → Option Started
short_start sep p s =
    cond (begins (just sep ∷ []) (behind_token p.left))
    (Some (record { specifier = specified p.parts (Some s); left = behind_token (behind_token p.left) }))
    None

-- Behind the parts, with a longer style Word: the separator is its second byte, and a part has to be there.
abbrev pub long_start : ℕ → Said → Style → Option Started
long_start sep p s =
    cond (written p.parts && begins (has_byte sep 1 ∷ []) p.left)
    (Some (record { specifier = specified p.parts (Some s); left = behind_bytes 2 p.left }))
    None

abbrev pub start_by : ℕ → Said → Option Style → Option Started
start_by sep p None = plain_start sep p
start_by sep p (Some s) = cond (begins (single ∷ []) p.left) (short_start sep p s) (long_start sep p s)

abbrev pub start_behind : ℕ → Said → Option Started
start_behind sep p = start_by sep p (in_front style_in p.left)

-- A cell starts at a token that begins with the separator byte, with nothing written; otherwise at a specifier.
abbrev pub start_of : ℕ → List Left → Option Started
start_of sep ts =
    cond (begins (has_byte sep 0 ∷ []) ts)
    (Some (record { specifier = nothing_written; left = behind_bytes 1 ts }))
    (start_behind sep (parts_of ts))

-- the kinds that parts 1 to 4 begin with
abbrev pub part_kind : ℕ → Bool
part_kind k = k == digits || (k == dots || (k == less_than || (k == greater_than || (k == caret || k == callout_number))))

-- A specifier begins with one of those kinds, or with a Word that names a style.
abbrev pub may_start : ℕ → ℕ → Bool
may_start k b = part_kind k || (k == word && is_some (style_named b))

-- the code's start is that of the definition
abbrev pub StartIs : SheetView → Option Start → Option Started → Type 0
StartIs v None None = Unit {0}
StartIs v None (Some t) = ⊥
StartIs v (Some s) None = ⊥
StartIs v (Some s) (Some t) = (s.specifier ≡ t.specifier) × (left_at v s.rest ≡ t.left)
