use Rattle.std.proofs.Common.{◌≡◌, ◌+◌, ◌≤◌, ◌++◌, length, map, vec_len, vec_capacity}
use Rattle.i_shape.proofs.Common.{path_of, concatenated, end_to_end}
use Rattle.i_shape.proofs.flat.float.fill.append_paths.Given as goal

abbrev pub invariant-loop-path : goal.invariant-loop-path
invariant-loop-path g l = record {
  can_next : (goal.iterator-loop-path g).can_next l.path-iterator;
  is_finite : (goal.iterator-loop-path g).is_finite l.path-iterator;
  points : l.points.items ≡ l.initial.points.items ++ concatenated (map path_of l.yielded);
  ranges : l.ranges.items ≡ l.initial.ranges.items ++ end_to_end (vec_len l.initial.points) (map path_of l.yielded);
  points_len : vec_len l.points ≡ vec_len l.initial.points + length (concatenated (map path_of l.yielded));
  ranges_len : vec_len l.ranges ≡ vec_len l.initial.ranges + length (map path_of l.yielded);
  points_capacity : vec_capacity l.initial.points ≤ vec_capacity l.points;
  ranges_capacity : vec_capacity l.initial.ranges ≤ vec_capacity l.ranges;
}
