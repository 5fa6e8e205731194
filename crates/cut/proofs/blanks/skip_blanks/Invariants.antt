use Rattle.std.proofs.Common.{◌≡◌, ◌||◌, length}
use Rattle.sheet.specs.View.{view}
use Rattle.sheet.specs.Left.{left_at}
use Rattle.cut.specs.Blanks.{skip, skips_newline}
use Rattle.cut.proofs.blanks.skip_blanks.Given as goal

abbrev pub invariant-blanks : goal.invariant-blanks
invariant-blanks l =
    (skip l.separated (left_at (view l.sheet) l.place) ≡ skip l.separated (left_at (view l.sheet) l.initial.place))
    × ((l.line || skips_newline l.separated (left_at (view l.sheet) l.place)) ≡ skips_newline l.separated (left_at (view l.sheet) l.initial.place))

abbrev pub decreases-blanks : goal.decreases-blanks
decreases-blanks l = length (left_at (view l.sheet) l.place)
