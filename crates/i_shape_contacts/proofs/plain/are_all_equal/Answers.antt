use Rattle.std.proofs.Common.{◌<◌, IsTrue, length, arith, refl, below_more, sym, ◌∙◌}
use Rattle.i_shape_core.specs.IntPoint.{contour_of}
use Rattle.i_shape_core.proofs.Plane.PointLists.{read-length}
use Rattle.i_shape_contacts.proofs.plain.are_all_equal.Goals as goal

pub loop-place-init : goal.loop-place-init
loop-place-init g c = λ k h. absurd (omega (arith, h))

pub loop-place-preserved : goal.loop-place-preserved
loop-place-preserved g c = below_more _ _ c.loop-place.invariant (sym c.point_of_place-point.ensures.at ∙ c.are_equal.ensures.0 c.if-not-are_equal.false ∙ c.point_of_place-start.ensures.at)

pub returns-then-not-are_equal : goal.returns-then-not-are_equal
returns-then-not-are_equal g c =
    let value = g.P.Coordinate.IntNumber.value in
    let list = contour_of value (g.P.ContourPoint.points c.args.points.now) in
    let count = read-length value g.P.ContourPoint.point g.P.ContourPoint.points g.P.ContourPoint.each c.args.points.now in
    let here = c.loop-place-test.true in
    let within : c.loop-place.place < length list = omega (arith, count, here) in (
      λ t. absurd (cc),
      λ all. let t : IsTrue c.are_equal.result = c.are_equal.ensures.1 (c.point_of_place-point.ensures.at ∙ all c.loop-place.place within ∙ sym c.point_of_place-start.ensures.at) in let f = c.if-not-are_equal.true in absurd (cc),
    )

pub returns : goal.returns
returns g c =
    let count = read-length g.P.Coordinate.IntNumber.value g.P.ContourPoint.point g.P.ContourPoint.points g.P.ContourPoint.each c.args.points.now in
    let past = c.loop-place-test.false in
    (λ t k h. c.loop-place.invariant k (omega (arith, past, h, count)), λ all. refl)
