use Rattle.std.proofs.Common.{◌≡◌, ◌-◌, map, take, drop}
use Rattle.std.specs.List.{AllZip, range_with_len}
use Rattle.i_shape.specs.IntPoint.{point_of}
use Rattle.i_shape_c.specs.Batch.{nth_contour}
use Rattle.i_shape_c.proofs.measures.measure_contours.Given as goal

abbrev pub invariant-loop-place : goal.invariant-loop-place
invariant-loop-place g l = record {
  each : AllZip (λ contour. g.M.ContourMeasure.gives l.measure (map (λ p. point_of g.P.Coordinate.IntNumber.value (g.P.ContourPoint.point p)) contour)) (map (nth_contour l.points l.offsets) (range_with_len 0 (l.place - 1))) (take (l.place - 1) l.out);
  rest : drop (l.place - 1) l.out ≡ drop (l.place - 1) l.fn.out;
}
