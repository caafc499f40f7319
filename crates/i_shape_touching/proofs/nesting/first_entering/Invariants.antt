use Rattle.std.proofs.Common.{ℕ, ◌<◌, map}
use Rattle.i_shape_core.specs.IntPoint.{contour_of}
use Rattle.i_shape_touching.specs.Steps.Pieces.{piece_of, IsPieceWithinAny}
use Rattle.i_shape_touching.proofs.NestLaws.{piece_at}
use Rattle.i_shape_touching.proofs.nesting.first_entering.Given as goal

abbrev pub invariant-loop-piece : goal.invariant-loop-piece
invariant-loop-piece g l =
    let value = g.P.Coordinate.IntNumber.value in
    (i : ℕ) → i < l.piece-index → IsPieceWithinAny l.offsets (contour_of value (g.P.ContourPoint.points l.points)) (piece_at (map (piece_of value) l.pieces) i) → ⊥
