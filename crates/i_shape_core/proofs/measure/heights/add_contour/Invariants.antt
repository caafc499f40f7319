use Rattle.std.proofs.Common.{length, ◌≡◌, drop}
use Rattle.i_shape_core.specs.IntPoint.{point_of, contour_of, IsSafe}
use Rattle.i_shape_core.specs.Heights.{asked_points, IsPlaceOf, AllFit}
use Rattle.i_shape_core.proofs.Sums.Heights.{IsTold}
use Rattle.i_shape_core.proofs.measure.heights.add_contour.Given as goal

abbrev pub invariant-loop-given : goal.invariant-loop-given
invariant-loop-given g l =
    let value = g.P.Coordinate.IntNumber.value in
    let ps = asked_points value l.asked in
    let cs = g.P.ContourPoint.points l.contour in
    record {
      start_safe : IsSafe g.P.Coordinate.IntNumber.width (point_of value l.start);
      here : IsPlaceOf ps (point_of value l.start) l.place;
      room : length l.totals ≡ length l.asked;
      fit : AllFit l.totals;
      told : IsTold value ps l.fn.totals cs l.initial.start (point_of value l.start) (contour_of value (drop l.given-index cs)) l.totals;
    }
