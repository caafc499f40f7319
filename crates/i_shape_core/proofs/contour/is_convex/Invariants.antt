use Rattle.i_shape_core.specs.IntPoint.{point_of, IsSafe}
use Rattle.i_shape_core.proofs.Convex.BendWalk.{IsBending}
use Rattle.i_shape_core.proofs.contour.is_convex.Given as goal

abbrev pub invariant-loop-given : goal.invariant-loop-given
invariant-loop-given g l = record {
  here_safe : IsSafe g.P.Coordinate.IntNumber.width (point_of g.P.Coordinate.IntNumber.value l.here);
  bending : IsBending g.P.Coordinate.IntNumber.value (g.P.ContourPoint.points l.points) l.bend l.repeats l.given-index (point_of g.P.Coordinate.IntNumber.value l.edge) (point_of g.P.Coordinate.IntNumber.value l.here);
}
