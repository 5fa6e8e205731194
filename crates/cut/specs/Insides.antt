-- Pieces that lie inside tokens.
-- Assumes nothing.
use Rattle.std.specs.Prelude.{◌≡◌, true, is_some}
use Rattle.sheet.specs.Left.{Left, piece_of}
use Rattle.sheet.specs.View.{SheetView, around}
use Rattle.sheet.specs.declared.records.Piece.{Piece}

-- a piece lies inside a token of the sheet
abbrev pub Inside : SheetView → Piece → Type 0
Inside v p = is_some (around v p) ≡ true

-- a token that is left lies inside a token of the sheet, as a piece
abbrev pub InsideLeft : SheetView → Left → Type 0
InsideLeft v t = Inside v (piece_of t)
