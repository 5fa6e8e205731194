-- Raw cells, and a page as the list of them.
-- Assumes nothing.
use Rattle.std.specs.Prelude.{ℕ, zero, suc, ◌+◌, Bool, cond, List, [], ◌∷◌, Some, None, Option}
use Rattle.sheet.specs.Left.{Left}
use Rattle.sheet.specs.declared.records.Piece.{Piece}
use Rattle.starts.specs.Weight.{weight}
use Rattle.starts.specs.declared.specifier.Specifier.{Specifier}
use Rattle.cut.specs.declared.types.Note.{Note}

-- a raw cell: the token where the position stood (the token count at the end), the specifier, the pieces, the three marks
-- and the notes
pub record RawCell : Type 0 where
  pub first : ℕ
  pub specifier : Specifier
  pub pieces : List Piece
  pub line_end : Bool
  pub blank_after : Bool
  pub blank_inside : Bool
  pub notes : List Note

-- a cell, what is left behind it, and whether it ended at a separator
pub record Next : Type 0 where
  pub cell : RawCell
  pub left : List Left
  pub separated : Bool

-- the cells of what is left, at most n of them, where next gives the one in front
abbrev pub cells_up_to : (Bool → List Left → Option Next) → ℕ → Bool → List Left → List RawCell
cells_up_to next zero separated ts = []
cells_up_to next (suc n) separated ts = elim (next separated ts) [ None ↦ [] | Some c ↦ c.cell ∷ cells_up_to next n c.separated c.left ]

-- a cell takes a token, a byte of one, or the memory of a separator: so many cells there are at most
abbrev pub bound : Bool → List Left → ℕ
bound separated ts = cond separated 1 0 + weight ts

-- all cells of what is left
abbrev pub cells_of : (Bool → List Left → Option Next) → Bool → List Left → List RawCell
cells_of next separated ts = cells_up_to next (bound separated ts) separated ts
