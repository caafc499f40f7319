use Rattle.std.proofs.Common.{◌≡◌, map}
use Rattle.std.specs.List.{flat_map}
use Rattle.i_shape.specs.Paths.{path_of}
use Rattle.callers.proofs.consumer.all_points.Given as goal

abbrev pub invariant-loop-path : goal.invariant-loop-path
invariant-loop-path g l = record {
  can_next : (goal.iterator-loop-path g).can_next l.path-iterator;
  is_finite : (goal.iterator-loop-path g).is_finite l.path-iterator;
  so_far : l.points.items ≡ flat_map (λ path. path) (map path_of l.yielded);
}
