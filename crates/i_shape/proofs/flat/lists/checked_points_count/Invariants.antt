use Rattle.std.proofs.Common.{◌≡◌, length, take}
use Rattle.i_shape.proofs.Common.{paths_of_shape, concatenated}
use Rattle.i_shape.proofs.flat.lists.checked_points_count.Given as goal

abbrev pub invariant-loop-contour : goal.invariant-loop-contour
invariant-loop-contour g l = l.total ≡ length (concatenated (paths_of_shape (take l.contour-index l.contours)))
