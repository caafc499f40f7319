use Rattle.std.proofs.Common.{drop}
use Rattle.i_shape_core.specs.IntPoint.{point_of, contour_of, IsSafe}
use Rattle.i_shape_core.proofs.Sums.InsideWalk.{IsCounted}
use Rattle.i_shape_core.proofs.contour.contains_point.Given as goal

abbrev pub invariant-loop-given : goal.invariant-loop-given
invariant-loop-given g l =
    let value = g.P.Coordinate.IntNumber.value in
    let points = g.P.ContourPoint.points l.contour in
    record {
      start_safe : IsSafe g.P.Coordinate.IntNumber.width (point_of value l.start);
      counted : IsCounted (contour_of value points) (point_of value l.point) l.is_inside (point_of value l.start) (contour_of value (drop l.given-index points));
    }
