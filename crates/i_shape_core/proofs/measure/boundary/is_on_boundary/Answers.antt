use Rattle.std.proofs.Common.{◌<◌, IsTrue, length, arith}
use Rattle.i_shape_core.specs.IntPoint.{point_of, contour_of}
use Rattle.i_shape_core.proofs.Plane.Contours.{length-contour}
use Rattle.i_shape_core.proofs.Plane.PointLists.{points-length, item_read, last_read}
use Rattle.i_shape_core.proofs.Plane.SafeParts.{item_safe}
use Rattle.i_shape_core.proofs.Sums.BoundaryWalk.{none_more, told_none, told_on, from_last, from_next, edge_read}
use Rattle.i_shape_core.proofs.measure.boundary.is_on_boundary.Goals as goal

pub returns-in_default : goal.returns-in_default
returns-in_default g c =
    let value = g.P.Coordinate.IntNumber.value in
    let points = g.P.ContourPoint.points in
    let whole = c.args.contour.now in
    let count = points-length g.P.ContourPoint.point points g.P.ContourPoint.each whole in
    told_none (contour_of value (points whole)) (point_of value c.args.point) 0 (omega (arith, count, length-contour value (points whole), c.in_default.ensures.item.3)) (λ j h within on. absurd (omega (arith, h)))

pub loop-given-init : goal.loop-given-init
loop-given-init g c =
    let value = g.P.Coordinate.IntNumber.value in
    let points = g.P.ContourPoint.points in
    let whole = c.args.contour.now in
    let last = last_read g.P.ContourPoint.point g.P.ContourPoint.points g.P.ContourPoint.each whole c.in-Some.last.now c.to_point-start.result c.to_point-start.ensures c.in-Some.ensures.item.1 (omega (arith, c.in-Some.ensures.item.3.0)) in
    record {
      start_safe = item_safe g.P.Coordinate.IntNumber.width g.P.Coordinate.IntNumber.value g.P.ContourPoint.point g.P.ContourPoint.points g.P.ContourPoint.each _ _ _ _ c.requires.points_safe c.to_point-start.ensures (omega (arith, c.in-Some.ensures.item.3.0)) c.in-Some.ensures.item.1;
      from = λ h. from_last value (points whole) c.to_point-start.result last.0 last.1;
      none = λ j h within on. absurd (omega (arith, h));
    }

pub is_between-requires-clause-end_safe : goal.is_between-requires-clause-end_safe
is_between-requires-clause-end_safe g c = item_safe g.P.Coordinate.IntNumber.width g.P.Coordinate.IntNumber.value g.P.ContourPoint.point g.P.ContourPoint.points g.P.ContourPoint.each _ _ _ _ c.requires.points_safe c.to_point-end.ensures c.loop-given-test.true c.given-item.is

pub returns-then-is_between : goal.returns-then-is_between
returns-then-is_between g c =
    let value = g.P.Coordinate.IntNumber.value in
    let points = g.P.ContourPoint.points in
    let whole = c.args.contour.now in
    let item = item_read g.P.ContourPoint.point g.P.ContourPoint.points g.P.ContourPoint.each whole c.loop-given.given-index c.given-item.result c.to_point-end.result c.to_point-end.ensures c.loop-given-test.true c.given-item.is in
    let inside : c.loop-given.given-index < length (contour_of value (points whole)) = omega (arith, item.0, length-contour value (points whole)) in
    let told = edge_read value (points whole) (point_of value c.args.point) c.loop-given.given-index c.loop-given.start c.to_point-end.result item.0 item.1 (c.loop-given.invariant.from inside) c.is_between.result c.is_between.ensures in
    told_on (contour_of value (points whole)) (point_of value c.args.point) c.loop-given.given-index inside (told.0 c.if-is_between.true)

pub loop-given-preserved : goal.loop-given-preserved
loop-given-preserved g c =
    let value = g.P.Coordinate.IntNumber.value in
    let points = g.P.ContourPoint.points in
    let whole = c.args.contour.now in
    let item = item_read g.P.ContourPoint.point g.P.ContourPoint.points g.P.ContourPoint.each whole c.loop-given.given-index c.given-item.result c.to_point-end.result c.to_point-end.ensures c.loop-given-test.true c.given-item.is in
    let inside : c.loop-given.given-index < length (contour_of value (points whole)) = omega (arith, item.0, length-contour value (points whole)) in
    let told = edge_read value (points whole) (point_of value c.args.point) c.loop-given.given-index c.loop-given.start c.to_point-end.result item.0 item.1 (c.loop-given.invariant.from inside) c.is_between.result c.is_between.ensures in
    record {
      start_safe = item_safe g.P.Coordinate.IntNumber.width g.P.Coordinate.IntNumber.value g.P.ContourPoint.point g.P.ContourPoint.points g.P.ContourPoint.each _ _ _ _ c.requires.points_safe c.to_point-end.ensures c.loop-given-test.true c.given-item.is;
      from = λ h. from_next value (points whole) c.loop-given.given-index c.to_point-end.result h item.1;
      none = none_more (contour_of value (points whole)) (point_of value c.args.point) c.loop-given.given-index c.loop-given.invariant.none (λ on. let t : IsTrue c.is_between.result = told.1 on in let f = c.if-is_between.false in absurd (cc));
    }

pub returns : goal.returns
returns g c =
    let value = g.P.Coordinate.IntNumber.value in
    let points = g.P.ContourPoint.points in
    let whole = c.args.contour.now in
    let count = points-length g.P.ContourPoint.point points g.P.ContourPoint.each whole in
    told_none (contour_of value (points whole)) (point_of value c.args.point) c.loop-given.given-index (omega (arith, count, length-contour value (points whole), c.loop-given-test.false)) c.loop-given.invariant.none
