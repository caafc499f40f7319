use Rattle.std.proofs.Common.{◌≡◌, ◌+◌, ◌≤◌, ◌++◌, length, take, vec_len, vec_capacity}
use Rattle.i_shape.proofs.Common.{concatenated, paths_of_shapes, end_to_end}
use Rattle.i_shape.proofs.flat.lists.append_all_contours.Given as goal

abbrev pub invariant-loop-shape : goal.invariant-loop-shape
invariant-loop-shape g l = record {
  points : l.points.items ≡ l.initial.points.items ++ concatenated (paths_of_shapes (take l.shape-index l.shapes));
  ranges : l.ranges.items ≡ l.initial.ranges.items ++ end_to_end (vec_len l.initial.points) (paths_of_shapes (take l.shape-index l.shapes));
  points_len : vec_len l.points ≡ vec_len l.initial.points + length (concatenated (paths_of_shapes (take l.shape-index l.shapes)));
  ranges_len : vec_len l.ranges ≡ vec_len l.initial.ranges + length (paths_of_shapes (take l.shape-index l.shapes));
  points_capacity : vec_capacity l.initial.points ≤ vec_capacity l.points;
  ranges_capacity : vec_capacity l.initial.ranges ≤ vec_capacity l.ranges;
}
