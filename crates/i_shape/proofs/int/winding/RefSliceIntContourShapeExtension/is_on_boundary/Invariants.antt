use Rattle.std.proofs.Common.{ℕ, ◌<◌, [], get_or}
use Rattle.i_shape.proofs.Common.{point_of, shape_of}
use Rattle.i_shape.specs.Boundary.{IsOnEdge}
use Rattle.i_shape.proofs.int.winding.RefSliceIntContourShapeExtension.is_on_boundary.Given as goal

abbrev pub invariant-loop-contour : goal.invariant-loop-contour
invariant-loop-contour g l = (k : ℕ) → k < l.contour-index → IsOnEdge (get_or (shape_of g.I.IntNumber.value l.contours) k []) (point_of g.I.IntNumber.value l.point) → ⊥
