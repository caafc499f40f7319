use Rattle.std.proofs.Common.{arith, ap, length}
use Rattle.i_shape.proofs.Lists.EndToEnd.{points_step, ranges_step, length_step, length_within}
use Rattle.i_shape.proofs.flat.lists.append_contours.Goals as goal

pub append_contour-requires-clause-points_room : goal.append_contour-requires-clause-points_room
append_contour-requires-clause-points_room g c =
    omega (arith, length_within (λ v. v.items) c.args.contours.now c.loop-contour.contour-index c.contour-item.result c.loop-contour-test.true c.contour-item.is _ (ap length c.as_slice.ensures.value))

pub loop-contour-preserved : goal.loop-contour-preserved
loop-contour-preserved g c = record {
  points = points_step (λ v. v.items) c.args.contours.now c.loop-contour.contour-index c.contour-item.result c.loop-contour-test.true c.contour-item.is _ _ _ _ c.loop-contour.invariant.points c.as_slice.ensures.value c.append_contour.ensures.points;
  ranges = ranges_step (λ v. v.items) c.args.contours.now c.loop-contour.contour-index c.contour-item.result c.loop-contour-test.true c.contour-item.is _ _ _ _ _ _ c.loop-contour.invariant.ranges c.loop-contour.invariant.points_len (ap length c.as_slice.ensures.value) c.append_contour.ensures.ranges;
  points_len = length_step (λ v. v.items) c.args.contours.now c.loop-contour.contour-index c.contour-item.result c.loop-contour-test.true c.contour-item.is _ _ _ _ c.loop-contour.invariant.points_len (ap length c.as_slice.ensures.value) c.append_contour.ensures.points_len;
  ranges_len = omega arith;
  points_capacity = omega arith;
  ranges_capacity = omega arith;
}
