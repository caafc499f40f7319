use Rattle.std.proofs.Common.{◌≡◌, ◌-◌, length, take, drop}
use Rattle.std.specs.List.{AllZip, range_with_len}
use Rattle.i_shape.specs.IntPoint.{point_of}
use Rattle.i_shape_c.specs.Polygons.{polygon_arrays}
use Rattle.i_shape_c.specs.Validity.{IsFaultOf, IsFaultAt}
use Rattle.i_shape_c.proofs.validity.write_each.Given as goal

abbrev pub invariant-loop-place : goal.invariant-loop-place
invariant-loop-place g l = record {
  each : AllZip (IsFaultAt IsFaultOf (λ p. point_of g.P.Coordinate.IntNumber.value (g.P.ContourPoint.point p)) (polygon_arrays l.points l.contours l.shapes)) (range_with_len 0 (l.place - 1)) (take (l.place - 1) l.out);
  rest : drop (l.place - 1) l.out ≡ drop (l.place - 1) l.fn.out;
  long : length l.own ≡ length l.fn.own;
}
