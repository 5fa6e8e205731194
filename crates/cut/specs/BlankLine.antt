-- Blank lines inside a cell.
-- Assumes nothing.
use Rattle.std.specs.Prelude.{Bool, true, false, cond, ◌&&◌, List, [], ◌∷◌}
use Rattle.sheet.specs.View.{SheetView, is_newline_piece}
use Rattle.sheet.specs.declared.records.Piece.{Piece}

-- two adjacent pieces are Newlines, anywhere
abbrev pub two_newlines : SheetView → List Piece → Bool
two_newlines v [] = false
two_newlines v (p ∷ []) = false
two_newlines v (p ∷ q ∷ ps) = cond (is_newline_piece v p && is_newline_piece v q) true (two_newlines v (q ∷ ps))
