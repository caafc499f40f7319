use Rattle.std.proofs.Common.{◌∙◌, ap, subst, sym, All}
use Rattle.i_shape.proofs.Common.{int_wrap, shape_of, HasPoints, shape_shoelace}
use Rattle.i_shape.proofs.Lists.Surviving.{mapped-read}
use Rattle.i_shape.proofs.Lists.WrappedSums.{sum-more}
use Rattle.i_shape.proofs.int.area.RefSliceIntShapeArea.area_two.Goals as goal

pub area_two-requires : goal.area_two-requires
area_two-requires g c =
    subst (λ contours. All HasPoints (shape_of g.I.IntNumber.value contours)) (sym c.as_slice.ensures.value)
    (mapped-read (λ shape. shape_of g.I.IntNumber.value shape.items) (All HasPoints) c.args.self.now.now _ _ c.loop-shape-test.true c.shape-item.is c.requires)

pub loop-shape-preserved : goal.loop-shape-preserved
loop-shape-preserved g c =
    sum-more g.I.Wide.WideIntNumber.width shape_shoelace (λ shape. shape_of g.I.IntNumber.value shape.items) c.args.self.now.now c.loop-shape.shape-index c.shape-item.result _ _ _
    c.loop-shape-test.true c.shape-item.is c.loop-shape.invariant
    (c.area_two.ensures ∙ ap (λ contours. int_wrap g.I.Wide.WideIntNumber.width (shape_shoelace (shape_of g.I.IntNumber.value contours))) c.as_slice.ensures.value) c.wrapping_add-sum.ensures
