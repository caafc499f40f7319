use Rattle.std.proofs.Common.{◌≡◌, length, map}
use Rattle.i_shape.proofs.Common.{path_of, concatenated}
use Rattle.i_shape.proofs.flat.float.fill.checked_path_counts.Given as goal

abbrev pub invariant-loop-path : goal.invariant-loop-path
invariant-loop-path g l = record {
  can_next : (goal.iterator-loop-path g).can_next l.path-iterator;
  is_finite : (goal.iterator-loop-path g).is_finite l.path-iterator;
  points : l.points ≡ length (concatenated (map path_of l.yielded));
  contours : l.contours ≡ length (map path_of l.yielded);
}
