use Rattle.std.proofs.Common.{length}
use Rattle.sheet.specs.View.{view}
use Rattle.pace.proofs.count_cells.Given as goal

abbrev pub decreases-cells : goal.decreases-cells
decreases-cells g l = length (g.K.Cutter.cells l.cutter (view l.sheet) l.at)
