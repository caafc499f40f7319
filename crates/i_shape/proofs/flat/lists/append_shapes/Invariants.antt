use Rattle.std.proofs.Common.{◌≡◌, ◌+◌, ◌≤◌, ◌++◌, length, take, vec_len, vec_capacity}
use Rattle.i_shape.proofs.Common.{shape_lists, concatenated, paths_of_shapes, end_to_end}
use Rattle.i_shape.proofs.flat.lists.append_shapes.Given as goal

abbrev pub invariant-loop-shape : goal.invariant-loop-shape
invariant-loop-shape g l = record {
  points : l.points.items ≡ l.initial.points.items ++ concatenated (paths_of_shapes (take l.shape-index l.shapes));
  contour_ranges : l.contour_ranges.items ≡ l.initial.contour_ranges.items ++ end_to_end (vec_len l.initial.points) (paths_of_shapes (take l.shape-index l.shapes));
  shape_ranges : l.shape_ranges.items ≡ l.initial.shape_ranges.items ++ end_to_end (vec_len l.initial.contour_ranges) (shape_lists (take l.shape-index l.shapes));
  points_len : vec_len l.points ≡ vec_len l.initial.points + length (concatenated (paths_of_shapes (take l.shape-index l.shapes)));
  contours_len : vec_len l.contour_ranges ≡ vec_len l.initial.contour_ranges + length (paths_of_shapes (take l.shape-index l.shapes));
  shapes_len : vec_len l.shape_ranges ≡ vec_len l.initial.shape_ranges + l.shape-index;
  points_capacity : vec_capacity l.initial.points ≤ vec_capacity l.points;
  contours_capacity : vec_capacity l.initial.contour_ranges ≤ vec_capacity l.contour_ranges;
  shapes_capacity : vec_capacity l.initial.shape_ranges ≤ vec_capacity l.shape_ranges;
}
