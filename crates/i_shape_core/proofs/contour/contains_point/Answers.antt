use Rattle.std.proofs.Common.{◌≡◌, cond, not, arith}
use Rattle.i_shape_core.specs.IntPoint.{point_of}
use Rattle.i_shape_core.proofs.Plane.PointLists.{points-length, read-length, item_read, last_read}
use Rattle.i_shape_core.proofs.Plane.SafeParts.{item_safe}
use Rattle.i_shape_core.proofs.Sums.Inside.{none_inside}
use Rattle.i_shape_core.proofs.Sums.InsideWalk.{counted_start, counted_more, counted_end}
use Rattle.i_shape_core.proofs.contour.contains_point.Goals as goal
use Rattle.i_shape_core.proofs.contour.contains_point.Goals.{then-passes_right, else-passes_right}

pub returns-in_default : goal.returns-in_default
returns-in_default g c =
    let count = read-length g.P.Coordinate.IntNumber.value g.P.ContourPoint.point g.P.ContourPoint.points g.P.ContourPoint.each c.args.contour.now in
    (λ t. absurd (cc), λ inside. absurd (none_inside _ (omega (arith, count, c.in_default.ensures.item.3)) _ inside))

pub loop-given-init : goal.loop-given-init
loop-given-init g c =
    let last = last_read g.P.ContourPoint.point g.P.ContourPoint.points g.P.ContourPoint.each c.args.contour.now c.in-Some.last.now c.to_point-start.result c.to_point-start.ensures c.in-Some.ensures.item.1 (omega (arith, c.in-Some.ensures.item.3.0)) in
    record {
      start_safe = item_safe g.P.Coordinate.IntNumber.width g.P.Coordinate.IntNumber.value g.P.ContourPoint.point g.P.ContourPoint.points g.P.ContourPoint.each _ _ _ _ c.requires.points_safe c.to_point-start.ensures (omega (arith, c.in-Some.ensures.item.3.0)) c.in-Some.ensures.item.1;
      counted = counted_start g.P.Coordinate.IntNumber.value (point_of g.P.Coordinate.IntNumber.value c.args.point) (g.P.ContourPoint.points c.args.contour.now) c.to_point-start.result last.0 last.1;
    }

pub passes_right-requires-clause-end_safe : goal.passes_right-requires-clause-end_safe
passes_right-requires-clause-end_safe g c = item_safe g.P.Coordinate.IntNumber.width g.P.Coordinate.IntNumber.value g.P.ContourPoint.point g.P.ContourPoint.points g.P.ContourPoint.each _ _ _ _ c.requires.points_safe c.to_point-end.ensures c.loop-given-test.true c.given-item.is

pub loop-given-preserved : goal.loop-given-preserved
loop-given-preserved g c =
    let item = item_read g.P.ContourPoint.point g.P.ContourPoint.points g.P.ContourPoint.each c.args.contour.now c.loop-given.given-index c.given-item.result c.to_point-end.result c.to_point-end.ensures c.loop-given-test.true c.given-item.is in
    let both : (c.if-passes_right.start ≡ c.to_point-end.result) × (c.if-passes_right.is_inside ≡ cond c.passes_right.result (not c.loop-given.is_inside) c.loop-given.is_inside) = elim c.if-passes_right.branch [
      | then-passes_right w ↦ (w.start-is, rw w.if-passes_right.true w.is_inside-is)
      | else-passes_right w ↦ (w.start-is, rw w.if-passes_right.false w.is_inside-is)
    ] in
    rw both.0 (rw both.1 (record {
      start_safe = item_safe g.P.Coordinate.IntNumber.width g.P.Coordinate.IntNumber.value g.P.ContourPoint.point g.P.ContourPoint.points g.P.ContourPoint.each _ _ _ _ c.requires.points_safe c.to_point-end.ensures c.loop-given-test.true c.given-item.is;
      counted = counted_more g.P.Coordinate.IntNumber.value (point_of g.P.Coordinate.IntNumber.value c.args.point) (g.P.ContourPoint.points c.args.contour.now) c.loop-given.given-index c.loop-given.start c.to_point-end.result c.loop-given.is_inside _ item.0 item.1 c.passes_right.ensures c.loop-given.invariant.counted;
    }))

pub returns : goal.returns
returns g c =
    let count = points-length g.P.ContourPoint.point g.P.ContourPoint.points g.P.ContourPoint.each c.args.contour.now in
    counted_end g.P.Coordinate.IntNumber.value (point_of g.P.Coordinate.IntNumber.value c.args.point) (g.P.ContourPoint.points c.args.contour.now) c.loop-given.given-index c.loop-given.start c.loop-given.is_inside (omega (arith, count, c.loop-given-test.false)) c.loop-given.invariant.counted
