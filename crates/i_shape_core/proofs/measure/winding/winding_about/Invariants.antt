use Rattle.std.proofs.Common.{◌≡◌, ◌+ℤ◌, drop}
use Rattle.i_shape_core.proofs.Common.{point_of, contour_of, IsSafe, level}
use Rattle.i_shape_core.proofs.Sums.WindingWalk.{winding_over, IsNear}
use Rattle.i_shape_core.proofs.measure.winding.winding_about.Given as goal

abbrev pub invariant-loop-given : goal.invariant-loop-given
invariant-loop-given g l =
    let value = g.P.Coordinate.IntNumber.value in
    let p = point_of value l.point in
    record {
      before_safe : IsSafe g.P.Coordinate.IntNumber.width (point_of value l.before);
      near : IsNear l.given-index (level p (point_of value l.initial.before)) (level p (point_of value l.before)) l.total;
      told : l.total +ℤ winding_over p (point_of value l.before) (contour_of value (drop l.given-index (g.P.ContourPoint.points l.contour))) ≡ winding_over p (point_of value l.initial.before) (contour_of value (g.P.ContourPoint.points l.contour));
    }
