use Rattle.std.proofs.Common.{◌≡◌, length, take}
use Rattle.i_shape.proofs.Common.{concatenated, paths_of_shapes}
use Rattle.i_shape.proofs.flat.lists.checked_counts.Given as goal

abbrev pub invariant-loop-shape : goal.invariant-loop-shape
invariant-loop-shape g l = record {
  points : l.points ≡ length (concatenated (paths_of_shapes (take l.shape-index l.shapes)));
  contours : l.contours ≡ length (paths_of_shapes (take l.shape-index l.shapes));
}
