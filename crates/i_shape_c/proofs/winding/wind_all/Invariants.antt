use Rattle.std.proofs.Common.{◌≡◌, ◌-◌, map}
use Rattle.std.specs.List.{range_with_len}
use Rattle.i_shape_core.proofs.Common.{point_of, sum_of, winding, IsWithinHalf}
use Rattle.i_shape_c.specs.Batch.{offset, nth_contour}
use Rattle.i_shape_c.proofs.winding.wind_all.Given as goal

abbrev pub invariant-loop-place : goal.invariant-loop-place
invariant-loop-place g l =
    let value = g.P.Coordinate.IntNumber.value in
    record {
      told : l.sum ≡ sum_of (λ k. winding (map (λ p. point_of value (g.P.ContourPoint.point p)) (nth_contour l.points l.offsets k)) (point_of value l.point)) (range_with_len 0 (l.place - 1));
      half : IsWithinHalf (offset l.offsets (l.place - 1)) l.sum;
    }
