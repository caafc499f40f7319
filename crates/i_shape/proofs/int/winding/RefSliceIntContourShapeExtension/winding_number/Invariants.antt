use Rattle.i_shape.proofs.Common.{point_of, contour_of, winding}
use Rattle.i_shape.proofs.Lists.WrappedSums.{IsSummedFar}
use Rattle.i_shape.proofs.int.winding.RefSliceIntContourShapeExtension.winding_number.Given as goal

abbrev pub invariant-loop-contour : goal.invariant-loop-contour
invariant-loop-contour g l = IsSummedFar (λ c. winding c (point_of g.I.IntNumber.value l.point)) (λ contour. contour_of g.I.IntNumber.value contour.items) l.contours l.contour-index l.sum
