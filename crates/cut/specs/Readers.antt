-- A reader of a cell: what is still read of it, and what a step takes of that.
-- Assumes nothing.
use Rattle.std.specs.Prelude.{◌≡◌, ℕ, ◌+◌, ◌<◌, ◌≤◌, false, List, [], Some, None, Option, IsSome, IfSome}
use Rattle.std.proofs.Common.{ap, subst}
use Rattle.sheet.specs.Left.{Left, left_at, piece_of}
use Rattle.sheet.specs.Kinds.{number_of}
use Rattle.sheet.specs.Limits.{max_tokens}
use Rattle.sheet.specs.View.{view}
use Rattle.cut.specs.Field.{Field, field, is_inside, more, noted}
use Rattle.cut.specs.declared.machine.Close.{Close}
use Rattle.cut.specs.declared.machine.Role.{Role}
use Rattle.cut.specs.declared.machine.State.{State}
use Rattle.cut.specs.declared.reader.Reader.{Reader}
use Rattle.cut.specs.declared.reader.Step.{Step}
use Rattle.cut.specs.declared.reader.Step.TheVariants.{Takes, Drops, Notes}

-- what is still read of a cell in a state: nothing once it is closed
abbrev pub read_on : (State → List Left → Role) → Option Close → State → List Left → Field
read_on role None s ts = field role s ts
read_on role (Some how) s ts = record { texts = []; close = how; left = ts; line = false; notes = []; unclosed = is_inside s }

-- the token that a reader has come to; past the last that a sheet can have, once the cell is closed
abbrev pub reach_of : Option Close → ℕ → ℕ
reach_of None token = token
reach_of (Some how) token = max_tokens

-- what a step takes of the field f, so that g is still read
abbrev pub Gives : Field → Option Step → Field → Type 0
Gives f None g = f ≡ g
Gives f (Some (Takes piece kind line)) g = (t : Left) × (f ≡ more line t g) × (piece ≡ piece_of t) × (number_of kind ≡ t.kind)
Gives f (Some Drops) g = f ≡ g
Gives f (Some (Notes token)) g = (t : Left) × (f ≡ noted t g) × (token ≡ t.number) × (token < max_tokens)

module _ {F : Type 0} (role : F → State → List Left → Role) where
  -- what a reader still reads
  abbrev pub reading : Reader F → Field
  reading r = read_on (role r.format.now) r.closed r.state (left_at (view r.sheet.now) r.place)

  abbrev pub reach : Reader F → ℕ
  reach r = reach_of r.closed r.place.token

  -- a step of a reader on its sheet: where there is none the cell is closed, and there are no more than tokens
  pub record StepIs (r : Reader F) (step : Option Step) (s : Reader F) : Type 0 where
    pub sheet : s.sheet ≡ r.sheet
    pub gives : Gives (reading r) step (reading s)
    pub closed : step ≡ None → IsSome s.closed
    pub further : IfSome step (λ x. (reach r + 1 ≤ reach s) × (reach s ≤ max_tokens))

-- a cell that is closed is read no further
pub shut_is : (role : State → List Left → Role) (o : Option Close) (how : Close) (s : State) (ts : List Left) → o ≡ Some how
    → read_on role o s ts ≡ record { texts = []; close = how; left = ts; line = false; notes = []; unclosed = is_inside s }
shut_is role o how s ts e = ap (λ (x : Option Close). read_on role x s ts) e

-- what a step gives, told of the step as it was found
pub gives_at : (f g : Field) (x y : Option Step) → x ≡ y → Gives f x g → Gives f y g
gives_at f g x y e h = subst (λ (o : Option Step). Gives f o g) e h
