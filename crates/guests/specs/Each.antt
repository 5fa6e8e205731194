-- Every token that is left is a cell.
-- Assumes nothing.
use Rattle.std.specs.Prelude.{false, List, [], ◌∷◌, map, ◌==◌}
use Rattle.sheet.specs.Kinds.{newline}
use Rattle.sheet.specs.Left.{Left, left, piece_of}
use Rattle.sheet.specs.View.{SheetView}
use Rattle.sheet.specs.declared.records.Position.{Position}
use Rattle.starts.specs.Start.{nothing_written}
use Rattle.cut.specs.Raw.{RawCell}

abbrev pub each_cell : Left → RawCell
each_cell t = record {
  first = t.number;
  specifier = nothing_written;
  pieces = piece_of t ∷ [];
  line_end = (t.kind == newline);
  blank_after = false;
  blank_inside = false;
  notes = [];
}

abbrev pub each_cells : SheetView → Position → List RawCell
each_cells v p = map each_cell (left v p.token p.offset)
