-- CSV and DSV: how a field begins, what it makes, and the fields of a page.
-- Assumes nothing.
use Rattle.std.specs.Prelude.{◌≡◌, ℕ, ◌+◌, Bool, true, false, cond, not, ◌&&◌, ◌||◌, List, ◌++◌, map, length, Some, None, Option}
use Rattle.std.specs.Option.{option_to_list}
use Rattle.sheet.specs.Left.{Left, left, left_at, piece_of, front_number}
use Rattle.sheet.specs.Places.{position_at}
use Rattle.sheet.specs.View.{SheetView}
use Rattle.sheet.specs.declared.records.Position.{Position}
use Rattle.starts.specs.Start.{nothing_written}
use Rattle.cut.specs.Blanks.{skip, skips_newline, newline_next, none, trim}
use Rattle.cut.specs.Field.{Field, field}
use Rattle.cut.specs.Raw.{RawCell, Next, cells_of}
use Rattle.cut.specs.Scanned.{Few, note_at}
use Rattle.cut.specs.declared.machine.Close.{Close}
use Rattle.cut.specs.declared.machine.Close.TheVariants.{End, Line, Mark}
use Rattle.cut.specs.declared.machine.Opening.{Opening}
use Rattle.cut.specs.declared.machine.Role.{Role}
use Rattle.cut.specs.declared.machine.State.{State}
use Rattle.cut.specs.declared.scan.Found.{Found}
use Rattle.cut.specs.declared.types.Cut.{Cut}
use Rattle.cut.specs.declared.types.Note.{Note}

abbrev pub at_line : Close → Bool
at_line End = false
at_line Line = true
at_line Mark = false

abbrev pub at_mark : Close → Bool
at_mark End = false
at_mark Line = false
at_mark Mark = true

-- how a field begins: its state, what is left, and the number of its opening quote
pub record Begin : Type 0 where
  pub state : State
  pub left : List Left
  pub quote : Option ℕ

-- what the code answers is how the field begins
pub record OpeningIs (v : SheetView) (r : Opening) (b : Begin) : Type 0 where
  pub state : r.state ≡ b.state
  pub left : left_at v r.place ≡ b.left
  pub quote : r.quote ≡ b.quote
  pub few : Few r.quote

-- a field that is open at the end gets note 4 at its opening quote
abbrev pub open_note : Option ℕ → Bool → Option Note
open_note None unclosed = None
open_note (Some i) unclosed = cond unclosed (Some (note_at 4 i)) None

-- a quote that is dropped outside quotes gets note 3
abbrev pub notes_of : Option ℕ → Field → List Note
notes_of quote f = map (note_at 3) f.notes ++ option_to_list (open_note quote f.unclosed)

-- the cell that a field makes; skipped: a Newline was skipped before it
abbrev pub finish : ℕ → Bool → Option ℕ → Field → Next
finish first skipped quote f = record {
  cell = record {
    first = first;
    specifier = nothing_written;
    pieces = map piece_of (trim f.texts);
    line_end = skipped || (f.line || at_line f.close);
    blank_after = at_line f.close && newline_next f.left;
    blank_inside = false;
    notes = notes_of quote f;
  };
  left = f.left;
  separated = at_mark f.close;
}

-- the field in front, where begin says how it begins behind what is skipped
abbrev pub front_field : (State → List Left → Role) → (List Left → Begin) → ℕ → Bool → List Left → Next
front_field role begin count separated ts =
    let b : Begin = begin (skip separated ts) in
    finish (front_number count ts) (skips_newline separated ts) b.quote (field role b.state b.left)

-- with no token left there is no field, unless the last one ended at a separator
abbrev pub no_field : Bool → List Left → Bool
no_field separated ts = none (skip separated ts) && not separated

abbrev pub next_field : (State → List Left → Role) → (List Left → Begin) → ℕ → Bool → List Left → Option Next
next_field role begin count separated ts = cond (no_field separated ts) None (Some (front_field role begin count separated ts))

-- the fields of a page from a position on
abbrev pub fields : (State → List Left → Role) → (List Left → Begin) → SheetView → Position → List RawCell
fields role begin v p = cells_of (next_field role begin (length v.tokens)) p.separated (left v p.token p.offset)

-- the first note of a field: that of the first quote dropped outside, else that of its opening quote
abbrev pub first_note : Option ℕ → Option Note → Option Note
first_note (Some i) o = Some (note_at 3 i)
first_note None o = o

-- what is told of a field that a scan found
pub record ToldField (v : SheetView) (first : ℕ) (skipped : Bool) (quote : Option ℕ) (found : Found) (cut : Cut) : Type 0 where
  pub start : cut.first ≡ first
  pub specifier : cut.specifier ≡ nothing_written
  pub line_end : cut.line_end ≡ (skipped || (found.line || at_line found.close))
  pub blank_after : cut.blank_after ≡ (at_line found.close && newline_next (left_at v found.rest))
  pub blank_inside : cut.blank_inside ≡ false
  pub notes : cut.notes ≡ found.notes + length (option_to_list (open_note quote found.unclosed))
  pub head_note : cut.first_note ≡ first_note found.noted (open_note quote found.unclosed)
  pub rest : cut.rest ≡ position_at found.rest (at_mark found.close)
