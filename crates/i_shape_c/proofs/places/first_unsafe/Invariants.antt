use Rattle.std.proofs.Common.{take}
use Rattle.i_shape.specs.IntPoint.{point_of}
use Rattle.i_shape_c.specs.Cleaned.{AreSafe}
use Rattle.i_shape_c.proofs.places.first_unsafe.Given as goal

abbrev pub invariant-loop-place : goal.invariant-loop-place
invariant-loop-place g l = AreSafe g.P.Coordinate.IntNumber.width (λ p. point_of g.P.Coordinate.IntNumber.value (g.P.ContourPoint.point p)) (take l.place l.points)
