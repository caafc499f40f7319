use Rattle.std.proofs.Common.{◌≡◌, ◌∙◌, [], map, length, ap, sym, refl, arith}
use Rattle.std.proofs.lemmas.List.{length-map}
use Rattle.i_shape_core.proofs.Common.{IsZeroTurn, point_at, contour_of, Finds}
use Rattle.i_shape_core.specs.Cleaning.{simplifying}
use Rattle.i_shape_core.proofs.Lists.Sublists.{sublist_none}
use Rattle.i_shape_core.proofs.Plane.Contours.{kept-contour}
use Rattle.i_shape_core.proofs.Plane.PointLists.{points-length, points-at-places, read-length}
use Rattle.i_shape_core.proofs.Removal.Ends.{reach_shrinks}
use Rattle.i_shape_core.proofs.Walks.Found.{simple_answer, kept_answer, short_answer}
use Rattle.i_shape_core.proofs.Walks.Stack.{stacked-start}
use Rattle.i_shape_core.proofs.Walks.RisingPlaces.{rising_below, picked_at}
use Rattle.i_shape_core.proofs.CleanerAnswers.Written.{nothing_written, points_written}
use Rattle.i_shape_core.proofs.clean.simplifier.ContourSimplifier.walk_into.Goals as goal

pub returns-then-contour-lt3-clause-written : goal.returns-then-contour-lt3-clause-written
returns-then-contour-lt3-clause-written g c =
    let counts = read-length g.P.Coordinate.IntNumber.value g.P.ContourPoint.point g.P.ContourPoint.points g.P.ContourPoint.each in
    let whole = contour_of g.P.Coordinate.IntNumber.value (g.P.ContourPoint.points c.args.contour.now) in
    nothing_written simplifying g.P.Coordinate.IntNumber.width _ counts c.args.contour.now c.args.out.now IsZeroTurn (simple_answer whole) (kept_answer whole) 0 (sublist_none c.args.contour.now)
    (short_answer IsZeroTurn whole (omega (arith, counts c.args.contour.now, c.if-contour-lt3.true)))

pub stack_places-probe-requires-clause-start : goal.stack_places-probe-requires-clause-start
stack_places-probe-requires-clause-start g c = record {
  rising = omega arith;
  end_within = omega arith;
  place_within = omega arith;
  walked = record { stacked = stacked-start IsZeroTurn _ [] refl; fewer = omega arith; most = omega (arith, c.new.ensures.visits); least = omega arith };
}

pub stack_places-probe-requires-clause-room : goal.stack_places-probe-requires-clause-room
stack_places-probe-requires-clause-room g c =
    omega (arith, c.requires.reserved, c.if-contour-lt3.false, ap length c.new.ensures.contour, points-length g.P.ContourPoint.point g.P.ContourPoint.points g.P.ContourPoint.each c.args.contour.now)

pub returns-in_default-clause-written : goal.returns-in_default-clause-written
returns-in_default-clause-written g c =
    let counts = read-length g.P.Coordinate.IntNumber.value g.P.ContourPoint.point g.P.ContourPoint.points g.P.ContourPoint.each in
    let whole = contour_of g.P.Coordinate.IntNumber.value (g.P.ContourPoint.points c.args.contour.now) in
    let first : c.stack_places-probe.result.contour ≡ g.P.ContourPoint.points c.args.contour.now = c.stack_places-probe.ensures.contour ∙ c.new.ensures.contour in
    nothing_written simplifying g.P.Coordinate.IntNumber.width _ counts c.args.contour.now c.args.out.now IsZeroTurn (simple_answer whole) (kept_answer whole)
    c.close-probe.result.0.visits (sublist_none c.args.contour.now) (rw (first, c.in_default.is) at c.close-probe.ensures.answer)

pub write_at-requires-clause-below : goal.write_at-requires-clause-below
write_at-requires-clause-below g c =
    let first : c.stack_places-probe.result.contour ≡ g.P.ContourPoint.points c.args.contour.now = c.stack_places-probe.ensures.contour ∙ c.new.ensures.contour in
    rising_below _ _ (rw (first, points-length g.P.ContourPoint.point g.P.ContourPoint.points g.P.ContourPoint.each c.args.contour.now, c.in-Some.is) at c.close-probe.ensures.rising)

pub write_at-requires-clause-room : goal.write_at-requires-clause-room
write_at-requires-clause-room g c =
    let counts = read-length g.P.Coordinate.IntNumber.value g.P.ContourPoint.point g.P.ContourPoint.points g.P.ContourPoint.each in
    let whole = contour_of g.P.Coordinate.IntNumber.value (g.P.ContourPoint.points c.args.contour.now) in
    let first : c.stack_places-probe.result.contour ≡ g.P.ContourPoint.points c.args.contour.now = c.stack_places-probe.ensures.contour ∙ c.new.ensures.contour in
    let found : Finds IsZeroTurn whole (map (point_at whole) c.in-Some.places.now) c.close-probe.result.0.visits = rw (first, c.in-Some.is) at c.close-probe.ensures.answer in
    omega (arith, c.requires.room, reach_shrinks found.ended.reached, length-map c.in-Some.places.now (point_at whole), counts c.args.contour.now)

pub returns-clause-written : goal.returns-clause-written
returns-clause-written g c =
    let counts = read-length g.P.Coordinate.IntNumber.value g.P.ContourPoint.point g.P.ContourPoint.points g.P.ContourPoint.each in
    let whole = contour_of g.P.Coordinate.IntNumber.value (g.P.ContourPoint.points c.args.contour.now) in
    let first : c.stack_places-probe.result.contour ≡ g.P.ContourPoint.points c.args.contour.now = c.stack_places-probe.ensures.contour ∙ c.new.ensures.contour in
    let found : Finds IsZeroTurn whole (map (point_at whole) c.in-Some.places.now) c.close-probe.result.0.visits = rw (first, c.in-Some.is) at c.close-probe.ensures.answer in
    let items = c.write_at.ensures.items in
    points_written simplifying g.P.Coordinate.IntNumber.width _ counts c.args.contour.now c.args.out.now IsZeroTurn (simple_answer whole) (kept_answer whole)
    c.write_at.new.out c.write_at.result (map (point_at whole) c.in-Some.places.now) c.close-probe.result.0.visits c.requires.points_safe
    (picked_at c.args.contour.now _ c.in-Some.places.now (rw (first, points-length g.P.ContourPoint.point g.P.ContourPoint.points g.P.ContourPoint.each c.args.contour.now, c.in-Some.is) at c.close-probe.ensures.rising) items)
    (kept-contour g.P.Coordinate.IntNumber.value (g.P.ContourPoint.points c.args.contour.now) _ c.in-Some.places.now (points-at-places g.P.ContourPoint.point g.P.ContourPoint.points g.P.ContourPoint.each c.args.contour.now _ c.in-Some.places.now items))
    (c.write_at.ensures.count ∙ sym (length-map c.in-Some.places.now (point_at whole))) c.write_at.ensures.rest found
