use Rattle.std.proofs.Common.{◌≡◌, ◌<◌, ◌+◌, ◌-◌, ◌∙◌, ap, drop, get_or, length, arith, rules}
use Rattle.std.proofs.lemmas.Grind.{get_or_after_one}
use Rattle.std.proofs.lemmas.List.{get_or-take}
use Rattle.i_shape_core.proofs.Plane.PointLists.{points-length, points-item}
use Rattle.i_shape_core.proofs.Sums.AreaByPlaces.{summed-short, summed-next, summed-closed}
use Rattle.i_shape_core.proofs.Sums.AreaWalk.{wrapped-zero}
use Rattle.i_shape_core.proofs.measure.area.area_of.Goals as goal

pub returns-then-points-lt2 : goal.returns-then-points-lt2
returns-then-points-lt2 g c =
    let count = points-length g.P.ContourPoint.point g.P.ContourPoint.points g.P.ContourPoint.each c.args.points.now in
    summed-short g.P.Coordinate.IntNumber.value g.P.Coordinate.Wide.WideIntNumber.width (g.P.ContourPoint.points c.args.points.now) _ (omega (arith, count, c.if-points-lt2.true)) (search rules)

pub loop-place-init : goal.loop-place-init
loop-place-init g c = wrapped-zero g.P.Coordinate.Wide.WideIntNumber.width _ (search rules)

pub loop-place-preserved : goal.loop-place-preserved
loop-place-preserved g c =
    let point = g.P.ContourPoint.point in
    let points = g.P.ContourPoint.points in
    let each = g.P.ContourPoint.each in
    let whole = c.args.points.now in
    let count = points-length point points each whole in
    let start = points-item point points each whole _ c.index-points-place.result c.to_point-start.result c.to_point-start.ensures (omega (arith, c.loop-place-test.true)) c.index-points-place.is in
    let next : 1 + c.loop-place.place ≡ c.loop-place.place + 1 = omega arith in
    let read = c.index-ends-place.is ∙ get_or-take (length whole - 1) (drop 1 whole) c.loop-place.place c.index-ends-place.result (omega (arith, c.loop-place-test.true)) ∙ get_or_after_one whole c.loop-place.place c.index-ends-place.result ∙ ap (λ k. get_or whole k c.index-ends-place.result) next in
    let end = points-item point points each whole (c.loop-place.place + 1) c.index-ends-place.result c.to_point-end.result c.to_point-end.ensures (omega (arith, c.loop-place-test.true)) read in
    summed-next g.P.Coordinate.IntNumber.value g.P.Coordinate.Wide.WideIntNumber.width (points whole) c.loop-place.place _ _ _ _ _ (omega (arith, count, c.loop-place-test.true))
    start end c.loop-place.invariant c.cross_product.ensures c.wrapping_add-sum.ensures

pub returns : goal.returns
returns g c =
    let point = g.P.ContourPoint.point in
    let points = g.P.ContourPoint.points in
    let each = g.P.ContourPoint.each in
    let whole = c.args.points.now in
    let count = points-length point points each whole in
    let more : 0 < length whole = omega (arith, c.if-points-lt2.false) in
    let at : length whole - 1 ≡ c.loop-place.place = omega (arith, more, c.loop-place.auto.place-end, c.loop-place-test.false) in
    let last = points-item point points each whole _ c.index-points-last.result c.to_point-end-2.result c.to_point-end-2.ensures (omega (arith, more)) c.index-points-last.is in
    let first = points-item point points each whole 0 c.index-points-0.result c.to_point.result c.to_point.ensures more c.index-points-0.is in
    summed-closed g.P.Coordinate.IntNumber.value g.P.Coordinate.Wide.WideIntNumber.width (points whole) c.loop-place.place c.to_point-end-2.result _ _ _ _ (omega (arith, count, more, at))
    (last ∙ ap (λ k. get_or (points whole) k c.to_point-end-2.result) at)
    first c.loop-place.invariant c.cross_product-2.ensures c.wrapping_add.ensures
