use Rattle.std.proofs.Common.{◌≡◌, ◌+◌, ◌<◌, inl, inr, length, sym, subst, subst₂, arith}
use Rattle.std.specs.List.{All}
use Rattle.i_shape.specs.Boundary.{IsBetween, IsOnEdge}
use Rattle.i_shape_core.proofs.Common.{point_of, contour_of, point_at}
use Rattle.i_shape_core.proofs.Plane.Contours.{length-contour, read-point}
use Rattle.i_shape_core.proofs.Plane.PointLists.{points-length, item_read, last_read}
use Rattle.i_shape_core.proofs.Plane.SafeParts.{item_safe}
use Rattle.i_shape_core.proofs.Sums.BoundaryWalk.{from_last, from_next}
use Rattle.i_shape_c.specs.Steps.AskedFor.{IsAskedFor}
use Rattle.i_shape_c.proofs.Marked.{EndsBefore, none_marked, marked_as, asked_as, asked_more, ends_later, ends_here, ends_more, on_of_ends, ends_of_on}
use Rattle.i_shape_c.proofs.edges.mark_contour.Goals as goal

pub returns-in_default : goal.returns-in_default
returns-in_default g c =
    let value = g.P.Coordinate.IntNumber.value in
    let points = g.P.ContourPoint.points in
    let whole = c.args.contour.now in
    let count = points-length g.P.ContourPoint.point points g.P.ContourPoint.each whole in
    none_marked c.args.mark _ c.args.out.now (λ k is. let within = is.on.within in absurd (omega (arith, within, count, length-contour value (points whole), c.in_default.ensures.item.3)))

pub loop-given-init : goal.loop-given-init
loop-given-init g c =
    let value = g.P.Coordinate.IntNumber.value in
    let points = g.P.ContourPoint.points in
    let whole = c.args.contour.now in
    let last = last_read g.P.ContourPoint.point g.P.ContourPoint.points g.P.ContourPoint.each whole c.in-Some.last.now c.to_point-start.result c.to_point-start.ensures c.in-Some.ensures.item.1 (omega (arith, c.in-Some.ensures.item.3.0)) in
    record {
      start_safe = item_safe g.P.Coordinate.IntNumber.width g.P.Coordinate.IntNumber.value g.P.ContourPoint.point g.P.ContourPoint.points g.P.ContourPoint.each _ _ _ _ c.requires.contour_safe c.to_point-start.ensures (omega (arith, c.in-Some.ensures.item.3.0)) c.in-Some.ensures.item.1;
      from = λ h. from_last value (points whole) c.to_point-start.result last.0 last.1;
      marked = none_marked c.args.mark _ c.args.out.now (λ k is. let before = is.on.before in absurd (omega (arith, before)));
    }

pub mark_edge-requires-clause-end_safe : goal.mark_edge-requires-clause-end_safe
mark_edge-requires-clause-end_safe g c = item_safe g.P.Coordinate.IntNumber.width g.P.Coordinate.IntNumber.value g.P.ContourPoint.point g.P.ContourPoint.points g.P.ContourPoint.each _ _ _ _ c.requires.contour_safe c.to_point-end.ensures c.loop-given-test.true c.given-item.is

pub mark_edge-requires-clause-within : goal.mark_edge-requires-clause-within
mark_edge-requires-clause-within g c = subst (λ n. All (λ q. q.place < n) c.args.asked.now) (sym c.loop-given.invariant.marked.room) c.requires.within

pub loop-given-preserved : goal.loop-given-preserved
loop-given-preserved g c =
    let value = g.P.Coordinate.IntNumber.value in
    let points = g.P.ContourPoint.points in
    let whole = c.args.contour.now in
    let ring = contour_of value (points whole) in
    let n = c.loop-given.given-index in
    let item = item_read g.P.ContourPoint.point g.P.ContourPoint.points g.P.ContourPoint.each whole n c.given-item.result c.to_point-end.result c.to_point-end.ensures c.loop-given-test.true c.given-item.is in
    let inside : n < length ring = omega (arith, item.0, length-contour value (points whole)) in
    let from = c.loop-given.invariant.from inside in
    let to : point_of value c.to_point-end.result ≡ point_at ring n = read-point value (points whole) n c.to_point-end.result item.0 item.1 in
    record {
      start_safe = item_safe g.P.Coordinate.IntNumber.width g.P.Coordinate.IntNumber.value g.P.ContourPoint.point g.P.ContourPoint.points g.P.ContourPoint.each _ _ _ _ c.requires.contour_safe c.to_point-end.ensures c.loop-given-test.true c.given-item.is;
      from = λ h. from_next value (points whole) n c.to_point-end.result h item.1;
      marked = asked_more value c.args.mark (λ p. EndsBefore ring p n) (λ p. IsBetween (point_of value c.loop-given.start) p (point_of value c.to_point-end.result)) (λ p. EndsBefore ring p (n + 1)) c.args.asked.now c.args.out.now c.loop-given.out c.mark_edge.new.out c.loop-given.invariant.marked c.mark_edge.ensures
          (λ p. ends_later ring p n)
          (λ p on. ends_here ring p n inside (subst₂ (λ a b. IsBetween a p b) from to on))
          (λ p is. elim (ends_more ring p n is) [ inl before ↦ inl before | inr here ↦ inr (subst₂ (λ a b. IsBetween a p b) (sym from) (sym to) here) ]);
    }

pub returns : goal.returns
returns g c =
    let value = g.P.Coordinate.IntNumber.value in
    let points = g.P.ContourPoint.points in
    let whole = c.args.contour.now in
    let ring = contour_of value (points whole) in
    let count = points-length g.P.ContourPoint.point points g.P.ContourPoint.each whole in
    let n = c.loop-given.given-index in
    let asked = c.args.asked.now in
    marked_as c.args.mark (IsAskedFor value (λ p. EndsBefore ring p n) asked) (IsAskedFor value (IsOnEdge ring) asked) c.args.out.now c.loop-given.out
    (asked_as value (λ p. EndsBefore ring p n) (IsOnEdge ring) asked (λ p. on_of_ends ring p n))
    (asked_as value (IsOnEdge ring) (λ p. EndsBefore ring p n) asked (λ p. ends_of_on ring p n (omega (arith, count, length-contour value (points whole), c.loop-given-test.false))))
    c.loop-given.invariant.marked
