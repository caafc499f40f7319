use Rattle.std.proofs.Common.{◌∙◌, ap, subst, sym}
use Rattle.i_shape.proofs.Common.{int_wrap, contour_of, shoelace, HasPoints}
use Rattle.i_shape.proofs.Lists.Surviving.{mapped-read}
use Rattle.i_shape.proofs.Lists.WrappedSums.{sum-more}
use Rattle.i_shape.proofs.int.area.RefSliceIntContourArea.area_two.Goals as goal

pub area_two-requires : goal.area_two-requires
area_two-requires g c =
    subst (λ points. HasPoints (contour_of g.I.IntNumber.value points)) (sym c.as_slice.ensures.value)
    (mapped-read (λ contour. contour_of g.I.IntNumber.value contour.items) HasPoints c.args.self.now.now _ _ c.loop-contour-test.true c.contour-item.is c.requires)

pub loop-contour-preserved : goal.loop-contour-preserved
loop-contour-preserved g c =
    sum-more g.I.Wide.WideIntNumber.width shoelace (λ contour. contour_of g.I.IntNumber.value contour.items) c.args.self.now.now c.loop-contour.contour-index c.contour-item.result _ _ _
    c.loop-contour-test.true c.contour-item.is c.loop-contour.invariant
    (c.area_two.ensures ∙ ap (λ points. int_wrap g.I.Wide.WideIntNumber.width (shoelace (contour_of g.I.IntNumber.value points))) c.as_slice.ensures.value) c.wrapping_add-sum.ensures
