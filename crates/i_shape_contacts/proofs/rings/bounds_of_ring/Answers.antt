use Rattle.std.proofs.Common.{subst, arith, All}
use Rattle.std.proofs.lemmas.List.{take_all}
use Rattle.i_shape_core.specs.Contour.{point_at}
use Rattle.i_shape_core.specs.IntPoint.{contour_of}
use Rattle.i_shape_core.proofs.Plane.PointLists.{read-length}
use Rattle.i_shape_contacts.specs.Steps.Boxes.{Holds}
use Rattle.i_shape_contacts.proofs.RingBoxes.{held_first, held_more}
use Rattle.i_shape_contacts.proofs.rings.bounds_of_ring.Goals as goal

pub loop-place-init : goal.loop-place-init
loop-place-init g c =
    let value = g.P.Coordinate.IntNumber.value in
    let list = contour_of value (g.P.ContourPoint.points c.args.ring.now) in
    let count = read-length value g.P.ContourPoint.point g.P.ContourPoint.points g.P.ContourPoint.each c.args.ring.now in
    held_first value c.bounds_between-bounds.result list (omega (arith, count, c.requires.some)) (subst (Holds value c.bounds_between-bounds.result) c.point_of_place-start.ensures.at c.bounds_between-bounds.ensures.first)

pub loop-place-preserved : goal.loop-place-preserved
loop-place-preserved g c =
    let value = g.P.Coordinate.IntNumber.value in
    let list = contour_of value (g.P.ContourPoint.points c.args.ring.now) in
    let count = read-length value g.P.ContourPoint.point g.P.ContourPoint.points g.P.ContourPoint.each c.args.ring.now in
    let place = c.loop-place.place in
    let here = c.joined-bounds.ensures.second (point_at list place) (subst (Holds value c.bounds_between.result) c.point_of_place-point.ensures.at c.bounds_between.ensures.first) in
    held_more value c.loop-place.bounds c.joined-bounds.result list place c.joined-bounds.ensures.first (omega (arith, count, c.loop-place-test.true)) c.loop-place.invariant here

pub returns : goal.returns
returns g c =
    let value = g.P.Coordinate.IntNumber.value in
    let list = contour_of value (g.P.ContourPoint.points c.args.ring.now) in
    let count = read-length value g.P.ContourPoint.point g.P.ContourPoint.points g.P.ContourPoint.each c.args.ring.now in
    subst (All (Holds value c.loop-place.bounds)) (take_all c.loop-place.place list (omega (arith, count, c.loop-place-test.false))) c.loop-place.invariant
