-- Parts 1 to 4 of a cell specifier: factor, span, alignment, vertical alignment.
-- They follow in this order, each taken if it fits, with no going back. A part that is absent takes no token.
-- Assumes nothing.
use Rattle.std.specs.Prelude.{ℕ, max, Bool, cond, ◌||◌, List, [], ◌∷◌, drop, is_some, Some, None, Option}
use Rattle.sheet.specs.Kinds.{caret, digits, greater_than, less_than, plus, star}
use Rattle.sheet.specs.Left.{Left, left, left_at, plain}
use Rattle.sheet.specs.View.{SheetView}
use Rattle.sheet.specs.declared.records.Place.{Place}
use Rattle.starts.specs.Fronts.{begins, in_front, dot, callout}
use Rattle.starts.specs.Numbers.{small}
use Rattle.starts.specs.declared.parts.Alignment.{Alignment}
use Rattle.starts.specs.declared.parts.Parts.{Parts}
use Rattle.starts.specs.declared.parts.Span.{Span}
use Rattle.starts.specs.declared.specifier.Horizontal.{Horizontal}
use Rattle.starts.specs.declared.specifier.Horizontal.TheVariants.{Left as ToLeft, Right, Center}
use Rattle.starts.specs.declared.specifier.Vertical.{Vertical}
use Rattle.starts.specs.declared.specifier.Vertical.TheVariants.{Top, Bottom, Middle}

-- what a part says, if it is there, and the tokens that are left behind it
pub record Found (X : Type 0) : Type 0 where
  pub said : Option X
  pub left : List Left

-- a part that says something takes n tokens
abbrev pub taking : {X : Type 0} → Option X → ℕ → List Left → Found X
taking (Some x) n ts = record { said = Some x; left = drop n ts }
taking None n ts = record { said = None; left = ts }

-- the number of the token that has n before it: absent above 255
abbrev pub number_at : ℕ → List Left → Option ℕ
number_at n ts = in_front (λ t. small t.bytes) (drop n ts)

-- Digits Star is a factor.
abbrev pub factor_form : List Left → Bool
factor_form ts = begins (plain digits ∷ plain star ∷ []) ts

abbrev pub factor_part : List Left → Found ℕ
factor_part ts = taking (cond (factor_form ts) (number_at 0 ts) None) 2 ts

-- A span of so many columns and rows, if both numbers are there; a written 0 counts as 1.
abbrev pub span_of : Option ℕ → Option ℕ → Option Span
span_of None rows = None
span_of (Some c) None = None
span_of (Some c) (Some r) = Some (record { columns = max 1 c; rows = max 1 r })

-- Digits Plus is a column span.
abbrev pub column_form : List Left → Bool
column_form ts = begins (plain digits ∷ plain plus ∷ []) ts

abbrev pub column_span : List Left → Option Span
column_span ts = cond (column_form ts) (span_of (number_at 0 ts) (Some 1)) None

-- Dots Digits Plus is a row span.
abbrev pub row_form : List Left → Bool
row_form ts = begins (dot ∷ plain digits ∷ plain plus ∷ []) ts

abbrev pub row_span : List Left → Option Span
row_span ts = cond (row_form ts) (span_of (Some 1) (number_at 1 ts)) None

-- Digits Dots Digits Plus is both.
abbrev pub both_form : List Left → Bool
both_form ts = begins (plain digits ∷ dot ∷ plain digits ∷ plain plus ∷ []) ts

abbrev pub both_span : List Left → Option Span
both_span ts = cond (both_form ts) (span_of (number_at 0 ts) (number_at 2 ts)) None

-- No two of the three forms fit the same tokens, so where a number of one is above 255 the part is absent.
abbrev pub span_by : Option Span → Option Span → Option Span → List Left → Found Span
span_by (Some s) rows both ts = record { said = Some s; left = drop 2 ts }
span_by None (Some s) both ts = record { said = Some s; left = drop 3 ts }
span_by None None both ts = taking both 4 ts

abbrev pub span_part : List Left → Found Span
span_part ts = span_by (column_span ts) (row_span ts) (both_span ts) ts

abbrev pub aligned : Horizontal → Option Vertical → Option Alignment
aligned h v = Some (record { horizontal = h; vertical = v })

-- LessThan is left, GreaterThan right, Caret centre, the CalloutNumber `<.>` left and bottom.
abbrev pub alignment_of : Left → Option Alignment
alignment_of t =
    cond (plain less_than t) (aligned ToLeft None)
    (cond (plain greater_than t) (aligned Right None)
    (cond (plain caret t) (aligned Center None)
    (cond (callout t) (aligned ToLeft (Some Bottom)) None)))

abbrev pub alignment_part : List Left → Found Alignment
alignment_part ts = taking (in_front alignment_of ts) 1 ts

-- Behind Dots of length 1, LessThan is top, GreaterThan bottom, Caret middle.
abbrev pub vertical_of : Left → Option Vertical
vertical_of t = cond (plain less_than t) (Some Top) (cond (plain greater_than t) (Some Bottom) (cond (plain caret t) (Some Middle) None))

abbrev pub vertical_part : List Left → Found Vertical
vertical_part ts = taking (cond (begins (dot ∷ []) ts) (in_front vertical_of (drop 1 ts)) None) 2 ts

-- what the parts say, and the tokens that are left behind them
pub record Said : Type 0 where
  pub parts : Parts
  pub left : List Left

abbrev pub parts_of : List Left → Said
parts_of ts =
    let f : Found ℕ = factor_part ts in
    let s : Found Span = span_part f.left in
    let a : Found Alignment = alignment_part s.left in
    let v : Found Vertical = vertical_part a.left in
    record { parts = record { factor = f.said; span = s.said; alignment = a.said; vertical = v.said }; left = v.left }

-- some part is there
abbrev pub written : Parts → Bool
written p = is_some p.factor || (is_some p.span || (is_some p.alignment || is_some p.vertical))

-- what the code found of a part, which ends before the token of a number
abbrev pub found_at : {X : Type 0} → SheetView → Option X → ℕ → Found X
found_at v x at = record { said = x; left = left v at 0 }

-- what the code found of all parts, which end before a place
abbrev pub said_at : SheetView → Parts → Place → Said
said_at v p rest = record { parts = p; left = left_at v rest }
