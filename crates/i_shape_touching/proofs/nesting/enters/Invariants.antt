use Rattle.std.proofs.Common.{ℕ, ◌<◌, ◌≡◌, map}
use Rattle.i_shape_core.specs.IntPoint.{contour_of}
use Rattle.i_shape_touching.specs.Steps.Pieces.{piece_of, IsPieceWithin}
use Rattle.i_shape_touching.proofs.NestLaws.{piece_at}
use Rattle.i_shape_touching.proofs.nesting.enters.Given as goal

abbrev pub invariant-loop-piece : goal.invariant-loop-piece
invariant-loop-piece g l =
    let value = g.P.Coordinate.IntNumber.value in
    let ps = map (piece_of value) l.pieces in
    (i : ℕ) → i < l.piece-index → (piece_at ps i).ring ≡ l.hole → IsPieceWithin l.offsets (contour_of value (g.P.ContourPoint.points l.points)) (piece_at ps i) l.other → ⊥
