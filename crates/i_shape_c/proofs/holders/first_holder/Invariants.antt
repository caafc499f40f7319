use Rattle.std.proofs.Common.{ℕ, ◌+◌, ◌<◌}
use Rattle.i_shape.specs.IntPoint.{point_of}
use Rattle.i_shape_c.specs.Holders.{DoesHold}
use Rattle.i_shape_c.specs.Polygons.{polygon_arrays}
use Rattle.i_shape_c.proofs.holders.first_holder.Given as goal

abbrev pub invariant-loop-place : goal.invariant-loop-place
invariant-loop-place g l =
    let value = g.P.Coordinate.IntNumber.value in
    (k : ℕ) → k + 1 < l.place → DoesHold (λ p. point_of value (g.P.ContourPoint.point p)) l.rule (polygon_arrays l.points l.contours l.shapes) (point_of value l.point) k → ⊥
