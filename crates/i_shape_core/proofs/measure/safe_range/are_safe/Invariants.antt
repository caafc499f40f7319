use Rattle.std.proofs.Common.{◌↔◌, IsTrue, take, All}
use Rattle.i_shape_core.specs.IntPoint.{point_of, IsSafe}
use Rattle.i_shape_core.proofs.measure.safe_range.are_safe.Given as goal

-- `are_safe` is true exactly if all points so far are safe
abbrev pub invariant-loop-given : goal.invariant-loop-given
invariant-loop-given g l =
    IsTrue l.are_safe ↔ All (λ p. IsSafe g.P.Coordinate.IntNumber.width (point_of g.P.Coordinate.IntNumber.value (g.P.ContourPoint.point p))) (take l.given-index l.points)
