use Rattle.std.proofs.Common.{◌≡◌, ◌∙◌, arith, refl}
use Rattle.i_shape_core.specs.IntPoint.{point_of}
use Rattle.i_shape_core.specs.Heights.{asked_points, IsPassed}
use Rattle.i_shape_core.proofs.Arithmetic.Comparisons.{gt-tells}
use Rattle.i_shape_core.proofs.Plane.PointLists.{points-length, item_read, last_read}
use Rattle.i_shape_core.proofs.Plane.SafeParts.{item_safe}
use Rattle.i_shape_core.proofs.Sums.Heights.{told-more, told-all, none-told, goes_up, goes_down}
use Rattle.i_shape_core.proofs.measure.heights.add_contour.Goals as goal
use Rattle.i_shape_core.proofs.measure.heights.add_contour.Goals.{then-gt, else-gt}

pub returns-in_default-clause-added : goal.returns-in_default-clause-added
returns-in_default-clause-added g c =
    let value = g.P.Coordinate.IntNumber.value in
    let point = g.P.ContourPoint.point in
    let points = g.P.ContourPoint.points in
    let whole = c.args.contour.now in
    let count = points-length point points g.P.ContourPoint.each whole in
    none-told value (asked_points value c.args.asked.now) c.args.totals.now (points whole) (omega (arith, count, c.in_default.ensures.item.3))

pub loop-given-init : goal.loop-given-init
loop-given-init g c = record {
  start_safe = item_safe g.P.Coordinate.IntNumber.width g.P.Coordinate.IntNumber.value g.P.ContourPoint.point g.P.ContourPoint.points g.P.ContourPoint.each _ _ _ _ c.requires.contour_safe c.to_point-start.ensures (omega (arith, c.in-Some.ensures.item.3.0)) c.in-Some.ensures.item.1;
  here = c.place_of-place.ensures;
  room = c.requires.room;
  fit = c.requires.fit;
  told = λ k h. refl;
}

pub rise-place-requires-clause-end_safe : goal.rise-place-requires-clause-end_safe
rise-place-requires-clause-end_safe g c = item_safe g.P.Coordinate.IntNumber.width g.P.Coordinate.IntNumber.value g.P.ContourPoint.point g.P.ContourPoint.points g.P.ContourPoint.each _ _ _ _ c.requires.contour_safe c.to_point-end.ensures c.loop-given-test.true c.given-item.is

pub fall-place-requires-clause-end_safe : goal.fall-place-requires-clause-end_safe
fall-place-requires-clause-end_safe g c = item_safe g.P.Coordinate.IntNumber.width g.P.Coordinate.IntNumber.value g.P.ContourPoint.point g.P.ContourPoint.points g.P.ContourPoint.each _ _ _ _ c.requires.contour_safe c.to_point-end.ensures c.loop-given-test.true c.given-item.is

pub rise-place-requires-clause-up : goal.rise-place-requires-clause-up
rise-place-requires-clause-up g c =
    let value = g.P.Coordinate.IntNumber.value in
    goes_up _ _ _ (gt-tells _ _ (value c.to_point-end.result.y) (value c.loop-given.start.y) c.gt.ensures (g.met.P.Coordinate.IntNumber.partial_order _ _)) c.if-gt.true

pub fall-place-requires-clause-down : goal.fall-place-requires-clause-down
fall-place-requires-clause-down g c =
    let value = g.P.Coordinate.IntNumber.value in
    goes_down _ _ _ (gt-tells _ _ (value c.to_point-end.result.y) (value c.loop-given.start.y) c.gt.ensures (g.met.P.Coordinate.IntNumber.partial_order _ _)) c.if-gt.false

pub loop-given-preserved : goal.loop-given-preserved
loop-given-preserved g c =
    let value = g.P.Coordinate.IntNumber.value in
    let points = g.P.ContourPoint.points in
    let whole = c.args.contour.now in
    let ps = asked_points value c.args.asked.now in
    let known = c.loop-given.invariant in
    let item = item_read g.P.ContourPoint.point g.P.ContourPoint.points g.P.ContourPoint.each whole c.loop-given.given-index c.given-item.result c.to_point-end.result c.to_point-end.ensures c.loop-given-test.true c.given-item.is in
    let began : c.if-gt.start ≡ c.to_point-end.result = elim c.if-gt.branch [ then-gt w ↦ w.start-is | else-gt w ↦ w.start-is ] in
    let passed : IsPassed ps (point_of value c.loop-given.start) (point_of value c.to_point-end.result) c.if-gt.place c.loop-given.totals c.if-gt.totals = elim c.if-gt.branch [
      | then-gt w ↦ rw (w.totals-is, w.place-is) w.rise-place.ensures
      | else-gt w ↦ rw (w.totals-is, w.place-is) w.fall-place.ensures
    ] in
    rw began (record {
      start_safe = item_safe g.P.Coordinate.IntNumber.width g.P.Coordinate.IntNumber.value g.P.ContourPoint.point g.P.ContourPoint.points g.P.ContourPoint.each _ _ _ _ c.requires.contour_safe c.to_point-end.ensures c.loop-given-test.true c.given-item.is;
      here = passed.here;
      room = passed.room ∙ known.room;
      fit = passed.fit;
      told = told-more value ps c.args.totals.now (points whole) c.to_point-start.result c.loop-given.given-index c.loop-given.start c.to_point-end.result c.loop-given.totals c.if-gt.totals item.0 item.1 passed.added known.told;
    })

pub returns-clause-added : goal.returns-clause-added
returns-clause-added g c =
    let value = g.P.Coordinate.IntNumber.value in
    let point = g.P.ContourPoint.point in
    let points = g.P.ContourPoint.points in
    let whole = c.args.contour.now in
    let count = points-length point points g.P.ContourPoint.each whole in
    let last = last_read g.P.ContourPoint.point g.P.ContourPoint.points g.P.ContourPoint.each whole c.in-Some.last.now c.to_point-start.result c.to_point-start.ensures c.in-Some.ensures.item.1 (omega (arith, c.in-Some.ensures.item.3.0)) in
    told-all value (asked_points value c.args.asked.now) c.args.totals.now (points whole) c.to_point-start.result c.loop-given.given-index c.loop-given.start c.loop-given.totals
    (omega (arith, count, c.loop-given-test.false)) last.0 last.1 c.loop-given.invariant.told
