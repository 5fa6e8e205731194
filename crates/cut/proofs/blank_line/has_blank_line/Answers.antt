use Rattle.std.proofs.Common.{drop, sym, ◌∙◌, arith, length-drop}
use Rattle.sheet.specs.View.{view}
use Rattle.sheet.specs.declared.records.Piece.{Piece}
use Rattle.cut.proofs.BlankLines.{few_pieces, pair_at}
use Rattle.cut.proofs.blank_line.has_blank_line.Goals as goal

abbrev no_piece : Piece
no_piece = record { token = 0; offset = 0; length = 0 }

pub returns-then-pieces-lt2 : goal.returns-then-pieces-lt2
returns-then-pieces-lt2 c = sym (few_pieces (view c.args.sheet.now) c.args.pieces.now c.if-pieces-lt2.true)

pub pairs-preserved : goal.pairs-preserved
pairs-preserved c =
    sym (pair_at (view c.args.sheet.now) c.args.pieces.now c.pairs.i no_piece (omega arith) c.loop-k.k c.loop-k-test.true (sym c.if-not-is_newline.ensures)) ∙ c.pairs.invariant

pub returns : goal.returns
returns c =
    let d = length-drop c.pairs.i c.args.pieces.now in
    sym (few_pieces (view c.args.sheet.now) (drop c.pairs.i c.args.pieces.now) (omega arith)) ∙ c.pairs.invariant
