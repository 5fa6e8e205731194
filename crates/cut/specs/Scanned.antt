-- What a scan of a cell tells, and how it comes to know it piece by piece.
-- Assumes nothing.
use Rattle.std.specs.Prelude.{◌≡◌, ℕ, ◌<◌, ◌≤◌, Bool, true, false, cond, ◌||◌, List, [], ◌∷◌, length, Some, None, Option, ◌==◌}
use Rattle.sheet.specs.Kinds.{newline, whitespace}
use Rattle.sheet.specs.Left.{left_at}
use Rattle.sheet.specs.Limits.{max_tokens}
use Rattle.sheet.specs.View.{SheetView}
use Rattle.cut.specs.Blanks.{trim}
use Rattle.cut.specs.Field.{Field, removed, begins_blank}
use Rattle.cut.specs.declared.machine.Tail.{Tail}
use Rattle.cut.specs.declared.machine.Tail.TheVariants.{Nothing, Newline, Blank, Other}
use Rattle.cut.specs.declared.scan.Found.{Found}
use Rattle.cut.specs.declared.types.Note.{Note}

-- the first of a list
abbrev pub head_of : {A : Type 0} → List A → Option A
head_of [] = None
head_of (x ∷ xs) = Some x

-- the first of those so far, or the next
abbrev pub first_with : {A : Type 0} → Option A → A → Option A
first_with (Some x) y = Some x
first_with None y = Some y

-- a token number that a note can hold
abbrev pub Few : Option ℕ → Type 0
Few None = Unit {0}
Few (Some i) = i < max_tokens

pub record Scanned (v : SheetView) (r : Found) (f : Field) : Type 0 where
  pub finished : r.finished ≡ length (trim f.texts)
  pub close : r.close ≡ f.close
  pub rest : left_at v r.rest ≡ f.left
  pub line : r.line ≡ f.line
  pub blank : r.blank ≡ begins_blank (removed f.texts)
  pub notes : r.notes ≡ length f.notes
  pub noted : r.noted ≡ head_of f.notes
  pub unclosed : r.unclosed ≡ f.unclosed
  pub few : Few r.noted
  pub many : r.notes ≤ max_tokens

-- a blank piece more: only the first two count
abbrev pub blank_tail : Tail → Bool → Tail
blank_tail Nothing b = cond b Newline Other
blank_tail Newline b = cond b Blank Other
blank_tail Blank b = Blank
blank_tail Other b = Other

-- the tail once a piece of a kind has passed
abbrev pub tail_with : Tail → ℕ → Tail
tail_with tail k = cond (k == whitespace || k == newline) (blank_tail tail (k == newline)) Nothing

abbrev pub is_two : Tail → Bool
is_two Nothing = false
is_two Newline = false
is_two Blank = true
is_two Other = false

abbrev pub note_at : ℕ → ℕ → Note
note_at number token = record { number = number; token = token }
