use Rattle.std.proofs.Common.{◌<◌, map}
use Rattle.i_shape_core.specs.IntPoint.{contour_of}
use Rattle.i_shape_touching.specs.Steps.Pieces.{mark_of, piece_of}
use Rattle.i_shape_touching.proofs.NestPieces.{PiecesUpTo}
use Rattle.i_shape_touching.proofs.nesting.pieces_of.Given as goal

abbrev pub invariant-loop-at : goal.invariant-loop-at
invariant-loop-at g l =
    let value = g.P.Coordinate.IntNumber.value in
    record {
      past : 0 < l.at;
      pieces : PiecesUpTo l.offsets (contour_of value (g.P.ContourPoint.points l.points)) (map (mark_of value) l.marks.items) l.at (map (piece_of value) l.pieces.items);
    }
