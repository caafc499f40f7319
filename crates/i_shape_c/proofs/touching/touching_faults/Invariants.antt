use Rattle.std.proofs.Common.{◌≡◌, ◌-◌, length}
use Rattle.std.specs.List.{AllZip, range_with_len}
use Rattle.i_shape.specs.IntPoint.{point_of}
use Rattle.i_shape_c.specs.Polygons.{polygon_arrays}
use Rattle.i_shape_c.specs.Validity.{IsTouchingFaultOf, IsFaultAt}
use Rattle.i_shape_c.proofs.touching.touching_faults.Given as goal

abbrev pub invariant-loop-place : goal.invariant-loop-place
invariant-loop-place g l = record {
  each : AllZip (IsFaultAt IsTouchingFaultOf (λ p. point_of g.P.Coordinate.IntNumber.value (g.P.ContourPoint.point p)) (polygon_arrays l.points l.contours l.shapes)) (range_with_len 0 (l.place - 1)) l.faults.items;
  long : length l.own ≡ length l.fn.own;
}
