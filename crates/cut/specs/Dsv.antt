-- DSV: delimiter-separated values.
-- Assumes nothing.
use Rattle.std.specs.Prelude.{◌+◌, false, cond, List, [], ◌∷◌, None}
use Rattle.sheet.specs.Left.{Left}
use Rattle.cut.specs.Blanks.{is_newline}
use Rattle.cut.specs.Field.{is_escaped}
use Rattle.cut.specs.Fields.{Begin}
use Rattle.cut.specs.Separators.{separates, splits, split_at, escapes}
use Rattle.cut.specs.declared.machine.Role.{Role}
use Rattle.cut.specs.declared.machine.Role.TheVariants.{EndsLine, Separates, Splits, Drops, Takes}
use Rattle.cut.specs.declared.machine.State.{State}
use Rattle.cut.specs.declared.machine.State.TheVariants.{Plain, Escaped}
use Rattle.cut.specs.declared.types.Separator.{Separator}

-- an unreplaced Word is split before the separator byte, which is dropped; any other token is taken
abbrev pub split_role : Separator → Left → Role
split_role sep t = cond (splits sep t) (Splits (split_at sep t) (split_at sep t + 1)) (Takes Plain false)

-- a Newline or a separator closes the cell; a Backslash is dropped, and the next token is taken whole
abbrev pub dsv_plain : Separator → Left → Role
dsv_plain sep t = cond (is_newline t) EndsLine (cond (separates sep t) Separates (cond (escapes t) (Drops Escaped) (split_role sep t)))

-- what a token does in a DSV cell; DSV has no quotes
abbrev pub dsv_role : Separator → State → List Left → Role
dsv_role sep s [] = EndsLine
dsv_role sep s (t ∷ ts) = cond (is_escaped s) (Takes Plain false) (dsv_plain sep t)

-- a field begins as it stands
abbrev pub dsv_begin : List Left → Begin
dsv_begin ts = record { state = Plain; left = ts; quote = None }
