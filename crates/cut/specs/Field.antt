-- One cell read token by token, whatever the format: a format says what each token does, by its role.
-- A role depends on how the cell is read on (its state), on the token in front and on what follows it.
-- Assumes nothing.
use Rattle.std.specs.Prelude.{ℕ, Bool, true, false, cond, ◌||◌, List, [], ◌∷◌, length, take, drop}
use Rattle.sheet.specs.Left.{Left, behind_bytes}
use Rattle.sheet.specs.Kinds.{word}
use Rattle.cut.specs.Blanks.{is_newline, trim}
use Rattle.cut.specs.declared.machine.Close.{Close}
use Rattle.cut.specs.declared.machine.Close.TheVariants.{End, Line, Mark}
use Rattle.cut.specs.declared.machine.Role.{Role}
use Rattle.cut.specs.declared.machine.Role.TheVariants.{EndsLine, Separates, Starts, Splits, Drops, Takes, Notes}
use Rattle.cut.specs.declared.machine.State.{State}
use Rattle.cut.specs.declared.machine.State.TheVariants.{Plain, Escaped, Inside, Doubled}

-- quotes are open
abbrev pub is_inside : State → Bool
is_inside Plain = false
is_inside Escaped = false
is_inside Inside = true
is_inside Doubled = true

-- the next token is taken whole
abbrev pub is_escaped : State → Bool
is_escaped Plain = false
is_escaped Escaped = true
is_escaped Inside = false
is_escaped Doubled = false

-- the next token is a quote that is taken
abbrev pub is_doubled : State → Bool
is_doubled Plain = false
is_doubled Escaped = false
is_doubled Inside = false
is_doubled Doubled = true

-- the front of a split Word
abbrev pub front_of : ℕ → Left → Left
front_of n t = record { number = t.number; offset = t.offset; kind = word; replaced = t.replaced; bytes = take n t.bytes }

-- what a cell takes: its pieces before trimming, what closed it, what is left behind it, whether a Newline taken marks a
-- line end, the numbers of the tokens dropped with a note, and whether its quotes stay open
pub record Field : Type 0 where
  pub texts : List Left
  pub close : Close
  pub left : List Left
  pub line : Bool
  pub notes : List ℕ
  pub unclosed : Bool

abbrev pub closed : Close → List Left → Field
closed how ts = record { texts = []; close = how; left = ts; line = false; notes = []; unclosed = false }

abbrev pub ended : State → Field
ended s = record { texts = []; close = End; left = []; line = false; notes = []; unclosed = is_inside s }

abbrev pub more : Bool → Left → Field → Field
more line t f = record { texts = t ∷ f.texts; close = f.close; left = f.left; line = line || f.line; notes = f.notes; unclosed = f.unclosed }

abbrev pub noted : Left → Field → Field
noted t f = record { texts = f.texts; close = f.close; left = f.left; line = f.line; notes = t.number ∷ f.notes; unclosed = f.unclosed }

-- tokens become pieces until one closes the cell, or the end does
abbrev pub field : (State → List Left → Role) → State → List Left → Field
field role s [] = ended s
field role s (t ∷ ts) = elim (role s (t ∷ ts)) [
  | EndsLine ↦ closed Line ts
  | Separates ↦ closed Mark (behind_bytes 1 (t ∷ ts))
  | Starts ↦ closed Mark (t ∷ ts)
  | Splits n m ↦ more false (front_of n t) (closed Mark (behind_bytes m (t ∷ ts)))
  | Drops s' ↦ field role s' ts
  | Takes s' line ↦ more line t (field role s' ts)
  | Notes ↦ noted t (field role Plain ts)
]

-- the pieces that trimming removes, in page order
abbrev pub removed : List Left → List Left
removed ts = drop (length (trim ts)) ts

-- the first two are both Newlines
abbrev pub begins_blank : List Left → Bool
begins_blank [] = false
begins_blank (t ∷ []) = false
begins_blank (t ∷ u ∷ us) = cond (is_newline t) (is_newline u) false
