use Rattle.std.proofs.Common.{drop}
use Rattle.i_shape_core.specs.IntPoint.{point_of, contour_of, IsSafe}
use Rattle.i_shape_core.proofs.Walks.Spikes.{Walking}
use Rattle.i_shape_core.proofs.clean.despike.has_no_spikes.Given as goal

abbrev pub invariant-loop-given : goal.invariant-loop-given
invariant-loop-given g l =
    let value = g.P.Coordinate.IntNumber.value in
    let points = g.P.ContourPoint.points l.points in
    record {
      here_safe : IsSafe g.P.Coordinate.IntNumber.width (point_of value l.here);
      walking : Walking (contour_of value points) (point_of value l.edge) (point_of value l.here) (contour_of value (drop l.given-index points));
    }
