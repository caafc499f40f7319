use Rattle.i_shape.proofs.Common.{shape_of, shape_shoelace}
use Rattle.i_shape.proofs.Lists.WrappedSums.{IsSummedUp}
use Rattle.i_shape.proofs.int.area.RefSliceIntShapeArea.area_two.Given as goal

abbrev pub invariant-loop-shape : goal.invariant-loop-shape
invariant-loop-shape g l =
    IsSummedUp g.I.Wide.WideIntNumber.width shape_shoelace (λ shape. shape_of g.I.IntNumber.value shape.items) l.shapes l.shape-index (g.I.Wide.WideIntNumber.value l.sum)
