use Rattle.std.proofs.Common.{◌^◌, ◌+ℤ◌, ◌<◌, ◌∙◌, ap, subst, sym, FitsSigned, length, w64, to_z, arith, rules, All}
use Rattle.std.proofs.lemmas.Int.{to_z-of_z}
use Rattle.i_shape.proofs.Common.{w128, point_of, contour_of, IsSafe, winding}
use Rattle.i_shape.proofs.Lists.Surviving.{mapped-read}
use Rattle.i_shape.proofs.Lists.WrappedSums.{fits-twice, far-fits, far-more}
use Rattle.i_shape.proofs.int.winding.RefSliceIntContourShapeExtension.winding_number.Goals as goal

pub winding_about-requires-clause-points_safe : goal.winding_about-requires-clause-points_safe
winding_about-requires-clause-points_safe g c =
    subst (λ points. All (IsSafe g.I.IntNumber.width) (contour_of g.I.IntNumber.value points)) (sym c.as_slice.ensures.value)
    (mapped-read (λ contour. contour_of g.I.IntNumber.value contour.items) (All (IsSafe g.I.IntNumber.width)) c.args.self.now.now _ _ c.loop-contour-test.true c.contour-item.is c.requires.points_safe)

pub loop-contour-preserved : goal.loop-contour-preserved
loop-contour-preserved g c =
    let fits : FitsSigned w64 c.winding_about.result = record { sfits = c.winding_about.type_inv } in
    let few : length c.args.self.now.now < 2 ^ 64 = search rules in
    let far = c.loop-contour.invariant in
    let sum = far-fits c.loop-contour.contour-index (to_z w128 c.loop-contour.sum-bits) c.winding_about.result (omega (arith, few, c.loop-contour-test.true)) far.most far.least fits in
    rw (to_z-of_z w64 c.winding_about.result fits, to_z-of_z w128 c.winding_about.result (fits-twice c.winding_about.result fits), to_z-of_z w128 (to_z w128 c.loop-contour.sum-bits +ℤ c.winding_about.result) sum)
    (far-more (λ contour. winding contour (point_of g.I.IntNumber.value c.args.point)) (λ contour. contour_of g.I.IntNumber.value contour.items) c.args.self.now.now c.loop-contour.contour-index c.contour-item.result
    (to_z w128 c.loop-contour.sum-bits) c.winding_about.result c.loop-contour-test.true c.contour-item.is c.loop-contour.invariant
    (c.winding_about.ensures.answer ∙ ap (λ points. winding (contour_of g.I.IntNumber.value points) (point_of g.I.IntNumber.value c.args.point)) c.as_slice.ensures.value) fits)
