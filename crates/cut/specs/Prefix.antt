-- Prefix cells: a separator stands in front of each.
-- Assumes nothing.
use Rattle.std.specs.Prelude.{◌≡◌, ℕ, Bool, true, false, cond, not, ◌&&◌, List, [], ◌∷◌, map, length, is_some, Some, None, Option}
use Rattle.std.specs.Option.{option_to_list}
use Rattle.sheet.specs.Left.{Left, left, left_at, piece_of, front_number}
use Rattle.sheet.specs.Places.{position_at}
use Rattle.sheet.specs.View.{SheetView}
use Rattle.sheet.specs.declared.records.Position.{Position}
use Rattle.starts.specs.Start.{Started, nothing_written, start_of}
use Rattle.starts.specs.declared.specifier.Specifier.{Specifier}
use Rattle.cut.specs.BlankLine.{two_newlines}
use Rattle.cut.specs.Blanks.{is_newline, skip, none, trim}
use Rattle.cut.specs.Field.{Field, field, is_escaped, removed, begins_blank}
use Rattle.cut.specs.Raw.{RawCell, Next, cells_of}
use Rattle.cut.specs.Scanned.{note_at}
use Rattle.cut.specs.Separators.{escapes, separator_of, splits, split_at}
use Rattle.cut.specs.declared.machine.Role.{Role}
use Rattle.cut.specs.declared.machine.Role.TheVariants.{EndsLine, Starts, Splits, Drops, Takes}
use Rattle.cut.specs.declared.machine.State.{State}
use Rattle.cut.specs.declared.machine.State.TheVariants.{Plain, Escaped}
use Rattle.cut.specs.declared.prefix.Reading.{Reading}
use Rattle.cut.specs.declared.scan.Found.{Found}
use Rattle.cut.specs.declared.types.Cut.{Cut}
use Rattle.cut.specs.declared.types.Note.{Note}

-- whether a cell starts here
unfoldable pub starts : ℕ → List Left → Bool
starts sep ts = is_some (start_of sep ts)

-- with a separator other than `:` `;` `|` `,` an unreplaced Word is split before it; any other token is taken, and a Newline
-- taken marks a line end
abbrev pub prefix_takes : ℕ → Left → Role
prefix_takes sep t = cond (splits (separator_of sep) t) (Splits (split_at (separator_of sep) t) (split_at (separator_of sep) t)) (Takes Plain (is_newline t))

-- a start closes the cell; a Backslash before a start is dropped and the next token is taken whole
abbrev pub prefix_plain : ℕ → Left → List Left → Role
prefix_plain sep t ts =
    cond (starts sep (t ∷ ts)) Starts
    (cond (escapes t && starts sep ts) (Drops Escaped) (prefix_takes sep t))

abbrev pub prefix_role : ℕ → State → List Left → Role
prefix_role sep s [] = EndsLine
prefix_role sep s (t ∷ ts) = cond (is_escaped s) (Takes Plain (is_newline t)) (prefix_plain sep t ts)

-- what stands in front of a cell: its specifier, what is left behind it, and note 1 where no cell starts there
pub record Head : Type 0 where
  pub specifier : Specifier
  pub left : List Left
  pub notes : List Note

abbrev pub head_by : ℕ → List Left → Option Started → Head
head_by first ts None = record { specifier = nothing_written; left = ts; notes = note_at 1 first ∷ [] }
head_by first ts (Some s) = record { specifier = s.specifier; left = s.left; notes = [] }

abbrev pub head_of_cell : ℕ → ℕ → List Left → Head
head_of_cell sep first ts = head_by first ts (start_of sep ts)

-- the cell of a head and a field; "blank after" if the first two pieces removed are Newlines, otherwise "blank inside" if
-- two adjacent pieces of what is left are
abbrev pub finish_prefix : SheetView → ℕ → Head → Field → Next
finish_prefix v first h f = record {
  cell = record {
    first = first;
    specifier = h.specifier;
    pieces = map piece_of (trim f.texts);
    line_end = f.line;
    blank_after = begins_blank (removed f.texts);
    blank_inside = not (begins_blank (removed f.texts)) && two_newlines v (map piece_of (trim f.texts));
    notes = h.notes;
  };
  left = f.left;
  separated = false;
}

-- the cell in front: its head, Whitespace skipped, then tokens until a start or the end
abbrev pub front_cell : ℕ → SheetView → List Left → Next
front_cell sep v ts =
    let first : ℕ = front_number (length v.tokens) ts in
    let h : Head = head_of_cell sep first ts in
    finish_prefix v first h (field (prefix_role sep) Plain (skip true h.left))

-- with no token left there is no cell
abbrev pub next_prefix : ℕ → SheetView → Bool → List Left → Option Next
next_prefix sep v separated ts = cond (none ts) None (Some (front_cell sep v ts))

-- the Prefix cells of a page from a position on
abbrev pub prefix_cells : ℕ → SheetView → Position → List RawCell
prefix_cells sep v p = cells_of (next_prefix sep v) false (left v p.token p.offset)

-- what the code reads in front of a cell is its head
pub record HeadIs (v : SheetView) (r : Reading) (h : Head) : Type 0 where
  pub specifier : r.specifier ≡ h.specifier
  pub left : left_at v r.place ≡ h.left
  pub notes : option_to_list r.note ≡ h.notes

-- what is told of the cell in front that was found
pub record ToldCell (first : ℕ) (head : Reading) (found : Found) (inside : Bool) (cut : Cut) : Type 0 where
  pub start : cut.first ≡ first
  pub specifier : cut.specifier ≡ head.specifier
  pub line_end : cut.line_end ≡ found.line
  pub blank_after : cut.blank_after ≡ found.blank
  pub blank_inside : cut.blank_inside ≡ inside
  pub notes : cut.notes ≡ length (option_to_list head.note)
  pub head_note : cut.first_note ≡ head.note
  pub rest : cut.rest ≡ position_at found.rest false
