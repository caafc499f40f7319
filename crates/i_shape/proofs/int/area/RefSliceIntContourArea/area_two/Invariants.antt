use Rattle.i_shape.proofs.Common.{contour_of, shoelace}
use Rattle.i_shape.proofs.Lists.WrappedSums.{IsSummedUp}
use Rattle.i_shape.proofs.int.area.RefSliceIntContourArea.area_two.Given as goal

abbrev pub invariant-loop-contour : goal.invariant-loop-contour
invariant-loop-contour g l =
    IsSummedUp g.I.Wide.WideIntNumber.width shoelace (λ contour. contour_of g.I.IntNumber.value contour.items) l.contours l.contour-index (g.I.Wide.WideIntNumber.value l.sum)
