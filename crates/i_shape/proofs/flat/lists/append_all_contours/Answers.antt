use Rattle.std.proofs.Common.{arith, ap, length}
use Rattle.i_shape.proofs.Common.{paths_of_shape, concatenated}
use Rattle.i_shape.proofs.Lists.EndToEnd.{all_points_step, all_ranges_step, all_length_step, all_length_within, length_step, length_within, as_contours}
use Rattle.i_shape.proofs.flat.lists.append_all_contours.Goals as goal

pub append_contours-requires-clause-points_room : goal.append_contours-requires-clause-points_room
append_contours-requires-clause-points_room g c =
    omega (arith, all_length_within (λ s. paths_of_shape s.items) c.args.shapes.now c.loop-shape.shape-index c.shape-item.result c.loop-shape-test.true c.shape-item.is _ (ap (λ s. length (concatenated (paths_of_shape s))) c.as_slice.ensures.value))

pub append_contours-requires-clause-ranges_room : goal.append_contours-requires-clause-ranges_room
append_contours-requires-clause-ranges_room g c =
    omega (arith, length_within (λ s. paths_of_shape s.items) c.args.shapes.now c.loop-shape.shape-index c.shape-item.result c.loop-shape-test.true c.shape-item.is _ (as_contours c.shape-item.result.items c.as_slice.result.now c.as_slice.ensures.value))

pub loop-shape-preserved : goal.loop-shape-preserved
loop-shape-preserved g c = record {
  points = all_points_step (λ s. paths_of_shape s.items) c.args.shapes.now c.loop-shape.shape-index c.shape-item.result c.loop-shape-test.true c.shape-item.is _ _ _ _ c.loop-shape.invariant.points (ap paths_of_shape c.as_slice.ensures.value) c.append_contours.ensures.points;
  ranges = all_ranges_step (λ s. paths_of_shape s.items) c.args.shapes.now c.loop-shape.shape-index c.shape-item.result c.loop-shape-test.true c.shape-item.is _ _ _ _ _ _ c.loop-shape.invariant.ranges c.loop-shape.invariant.points_len (ap paths_of_shape c.as_slice.ensures.value) c.append_contours.ensures.ranges;
  points_len = all_length_step (λ s. paths_of_shape s.items) c.args.shapes.now c.loop-shape.shape-index c.shape-item.result c.loop-shape-test.true c.shape-item.is _ _ _ _ c.loop-shape.invariant.points_len (ap (λ s. length (concatenated (paths_of_shape s))) c.as_slice.ensures.value) c.append_contours.ensures.points_len;
  ranges_len = length_step (λ s. paths_of_shape s.items) c.args.shapes.now c.loop-shape.shape-index c.shape-item.result c.loop-shape-test.true c.shape-item.is _ _ _ _ c.loop-shape.invariant.ranges_len (as_contours c.shape-item.result.items c.as_slice.result.now c.as_slice.ensures.value) c.append_contours.ensures.ranges_len;
  points_capacity = omega arith;
  ranges_capacity = omega arith;
}
