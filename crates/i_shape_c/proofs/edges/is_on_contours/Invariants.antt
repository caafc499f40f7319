use Rattle.std.proofs.Common.{ℕ, ◌+◌, ◌<◌, map}
use Rattle.i_shape.specs.IntPoint.{point_of}
use Rattle.i_shape.specs.Boundary.{IsOnEdge}
use Rattle.i_shape_c.specs.Batch.{nth_contour}
use Rattle.i_shape_c.proofs.edges.is_on_contours.Given as goal

abbrev pub invariant-loop-place : goal.invariant-loop-place
invariant-loop-place g l =
    let value = g.P.Coordinate.IntNumber.value in
    (k : ℕ) → k + 1 < l.place → IsOnEdge (map (λ p. point_of value (g.P.ContourPoint.point p)) (nth_contour l.points l.offsets k)) (point_of value l.point) → ⊥
