use Rattle.std.proofs.Common.{◌≡◌, ◌+ℤ◌, drop}
use Rattle.i_shape_core.proofs.Common.{point_of, contour_of, IsSafe, level}
use Rattle.i_shape_core.proofs.Sums.WindingWalk.{winding_over, IsNear}
use Rattle.i_shape_touching.specs.Steps.Middles.{doubled, twice_middle}
use Rattle.i_shape_touching.proofs.middle.winding_about_middle.Given as goal

abbrev pub invariant-loop-given : goal.invariant-loop-given
invariant-loop-given g l =
    let value = g.P.Coordinate.IntNumber.value in
    let twice = doubled value in
    let p = twice_middle value l.middle in
    record {
      before_safe : IsSafe g.P.Coordinate.IntNumber.width (point_of value l.before);
      near : IsNear l.given-index (level p (point_of twice l.initial.before)) (level p (point_of twice l.before)) l.total;
      told : l.total +ℤ winding_over p (point_of twice l.before) (contour_of twice (drop l.given-index (g.P.ContourPoint.points l.ring))) ≡ winding_over p (point_of twice l.initial.before) (contour_of twice (g.P.ContourPoint.points l.ring));
    }
