use Rattle.std.proofs.Common.{ℕ, ◌<◌}
use Rattle.i_shape_core.specs.IntPoint.{contour_of}
use Rattle.i_shape_touching.specs.Steps.Pieces.{piece_of, IsPieceWithin}
use Rattle.i_shape_touching.proofs.nesting.lies_within_any.Given as goal

abbrev pub invariant-loop-other : goal.invariant-loop-other
invariant-loop-other g l =
    let value = g.P.Coordinate.IntNumber.value in
    (j : ℕ) → j < l.other → IsPieceWithin l.offsets (contour_of value (g.P.ContourPoint.points l.points)) (piece_of value l.piece) j → ⊥
