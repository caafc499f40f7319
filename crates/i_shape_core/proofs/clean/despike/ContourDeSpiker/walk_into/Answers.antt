use Rattle.std.proofs.Common.{◌≡◌, ◌∙◌, length, map, sym, arith}
use Rattle.std.proofs.lemmas.List.{length-map}
use Rattle.i_shape_core.proofs.Common.{IsBack, point_at, contour_of, Finds}
use Rattle.i_shape_core.specs.Cleaning.{despiking}
use Rattle.i_shape_core.proofs.Lists.Sublists.{sublist_none}
use Rattle.i_shape_core.proofs.Plane.Contours.{kept-contour}
use Rattle.i_shape_core.proofs.Plane.PointLists.{points-length, points-at-places, read-length}
use Rattle.i_shape_core.proofs.Removal.Ends.{reach_shrinks}
use Rattle.i_shape_core.proofs.Walks.Found.{spikeless_answer, kept_spikeless}
use Rattle.i_shape_core.proofs.Walks.RingStates.{first_state}
use Rattle.i_shape_core.proofs.Walks.RisingPlaces.{rising_below, picked_at}
use Rattle.i_shape_core.proofs.CleanerAnswers.Kept.{few_collapse, collapsed_flat}
use Rattle.i_shape_core.proofs.CleanerAnswers.Written.{collapse_written, nothing_written, points_written}
use Rattle.i_shape_core.proofs.clean.despike.ContourDeSpiker.walk_into.Goals as goal

pub returns-then-contour-lt4-clause-written : goal.returns-then-contour-lt4-clause-written
returns-then-contour-lt4-clause-written g c =
    let counts = read-length g.P.Coordinate.IntNumber.value g.P.ContourPoint.point g.P.ContourPoint.points g.P.ContourPoint.each in
    let whole = contour_of g.P.Coordinate.IntNumber.value (g.P.ContourPoint.points c.args.contour.now) in
    let collapsed = few_collapse whole (omega (arith, counts c.args.contour.now, c.if-contour-lt4.true)) c.requires.unclean in
    collapse_written despiking g.P.Coordinate.IntNumber.width _ counts c.args.contour.now c.args.out.now (sublist_none c.args.contour.now) collapsed (collapsed_flat whole collapsed)

pub walk-probe-requires-clause-state : goal.walk-probe-requires-clause-state
walk-probe-requires-clause-state g c =
    let points = g.P.ContourPoint.points c.args.contour.now in
    let whole = contour_of g.P.Coordinate.IntNumber.value points in
    let long : length whole ≡ length c.args.contour.now = read-length g.P.Coordinate.IntNumber.value g.P.ContourPoint.point g.P.ContourPoint.points g.P.ContourPoint.each c.args.contour.now in
    rw (c.new.ensures.contour, c.new.ensures.visits) (first_state whole c.ring_at-ring.result _ (omega (arith, long, c.if-contour-lt4.false)) (rw (← long) at c.ring_at-ring.ensures))

pub returns-then-not-is_left-clause-written : goal.returns-then-not-is_left-clause-written
returns-then-not-is_left-clause-written g c =
    let counts = read-length g.P.Coordinate.IntNumber.value g.P.ContourPoint.point g.P.ContourPoint.points g.P.ContourPoint.each in
    let whole = contour_of g.P.Coordinate.IntNumber.value (g.P.ContourPoint.points c.args.contour.now) in
    let first : c.new.result.contour ≡ g.P.ContourPoint.points c.args.contour.now = c.new.ensures.contour in
    nothing_written despiking g.P.Coordinate.IntNumber.width _ counts c.args.contour.now c.args.out.now IsBack (spikeless_answer whole) (kept_spikeless whole)
    c.walk-probe.result.0.visits (sublist_none c.args.contour.now) (rw first at (c.walk-probe.ensures.falls c.if-not-is_left.true))

pub write_at-requires-clause-below : goal.write_at-requires-clause-below
write_at-requires-clause-below g c =
    let first : c.new.result.contour ≡ g.P.ContourPoint.points c.args.contour.now = c.new.ensures.contour in
    rising_below _ _ (rw (first, points-length g.P.ContourPoint.point g.P.ContourPoint.points g.P.ContourPoint.each c.args.contour.now, ← c.as_slice.ensures.value) at (c.walk-probe.ensures.rising c.if-not-is_left.false))

pub write_at-requires-clause-room : goal.write_at-requires-clause-room
write_at-requires-clause-room g c =
    let counts = read-length g.P.Coordinate.IntNumber.value g.P.ContourPoint.point g.P.ContourPoint.points g.P.ContourPoint.each in
    let whole = contour_of g.P.Coordinate.IntNumber.value (g.P.ContourPoint.points c.args.contour.now) in
    let first : c.new.result.contour ≡ g.P.ContourPoint.points c.args.contour.now = c.new.ensures.contour in
    let found : Finds IsBack whole (map (point_at whole) c.as_slice.result.now) c.walk-probe.result.0.visits = rw (first, ← c.as_slice.ensures.value) at (c.walk-probe.ensures.left c.if-not-is_left.false) in
    omega (arith, c.requires.room, reach_shrinks found.ended.reached, length-map c.as_slice.result.now (point_at whole), counts c.args.contour.now)

pub returns-clause-written : goal.returns-clause-written
returns-clause-written g c =
    let counts = read-length g.P.Coordinate.IntNumber.value g.P.ContourPoint.point g.P.ContourPoint.points g.P.ContourPoint.each in
    let whole = contour_of g.P.Coordinate.IntNumber.value (g.P.ContourPoint.points c.args.contour.now) in
    let first : c.new.result.contour ≡ g.P.ContourPoint.points c.args.contour.now = c.new.ensures.contour in
    let found : Finds IsBack whole (map (point_at whole) c.as_slice.result.now) c.walk-probe.result.0.visits = rw (first, ← c.as_slice.ensures.value) at (c.walk-probe.ensures.left c.if-not-is_left.false) in
    let items = c.write_at.ensures.items in
    points_written despiking g.P.Coordinate.IntNumber.width _ counts c.args.contour.now c.args.out.now IsBack (spikeless_answer whole) (kept_spikeless whole)
    c.write_at.new.out c.write_at.result (map (point_at whole) c.as_slice.result.now) c.walk-probe.result.0.visits c.requires.points_safe
    (picked_at c.args.contour.now _ c.as_slice.result.now (rw (first, points-length g.P.ContourPoint.point g.P.ContourPoint.points g.P.ContourPoint.each c.args.contour.now, ← c.as_slice.ensures.value) at (c.walk-probe.ensures.rising c.if-not-is_left.false)) items)
    (kept-contour g.P.Coordinate.IntNumber.value (g.P.ContourPoint.points c.args.contour.now) _ c.as_slice.result.now (points-at-places g.P.ContourPoint.point g.P.ContourPoint.points g.P.ContourPoint.each c.args.contour.now _ c.as_slice.result.now items))
    (c.write_at.ensures.count ∙ sym (length-map c.as_slice.result.now (point_at whole))) c.write_at.ensures.rest found
