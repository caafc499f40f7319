use Rattle.std.proofs.Common.{◌≡◌, ◌∙◌, ◌+◌, ◌-◌, ◌<◌, inl, inr, length, map, slice_range, ap, sym, subst, arith}
use Rattle.std.specs.List.{All}
use Rattle.i_shape_core.proofs.Common.{point_of, contour_of}
use Rattle.i_shape_core.proofs.Lists.Rings.{rises_to}
use Rattle.i_shape.specs.Boundary.{IsOnEdge}
use Rattle.i_shape_c.specs.Batch.{offset, nth_contour}
use Rattle.i_shape_c.specs.Locations.{IsOnContours}
use Rattle.i_shape_c.specs.Steps.AskedFor.{IsAskedFor}
use Rattle.i_shape_c.proofs.Batches.{safe_part}
use Rattle.i_shape_c.proofs.Boundary.{copied_points, safe_contour}
use Rattle.i_shape_c.proofs.Marked.{IsOnBefore, none_marked, marked_as, asked_as, asked_more, on_later, on_here, on_parts, on_all, on_some}
use Rattle.i_shape_c.proofs.edges.mark_contours.Goals as goal

pub loop-place-init : goal.loop-place-init
loop-place-init g c = none_marked c.args.mark _ c.args.out.now (λ k is. let before = is.on.before in absurd (omega (arith, before)))

pub part-requires-clause-within : goal.part-requires-clause-within
part-requires-clause-within g c =
    let up = rises_to c.args.offsets.now (length c.args.offsets.now) c.loop-place.place (length c.args.offsets.now - 1) c.requires.parted.order (omega (arith, c.loop-place-test.true)) (omega (arith, c.loop-place-test.true)) in
    omega (arith, up, c.requires.parted.last)

pub mark_contour-requires-clause-contour_safe : goal.mark_contour-requires-clause-contour_safe
mark_contour-requires-clause-contour_safe g c =
    let at = λ (p : g.row.P.Denot). point_of g.P.Coordinate.IntNumber.value (g.P.ContourPoint.point p) in
    safe_contour g.P.Coordinate.IntNumber.width g.P.Coordinate.IntNumber.value g.P.ContourPoint.point c.part.result.now (g.P.ContourPoint.points c.part.result.now) (g.P.ContourPoint.each c.part.result.now)
    (rw (c.part.ensures.part)
    (safe_part g.P.Coordinate.IntNumber.width at c.args.points.now c.args.offsets.now (c.loop-place.place - 1) c.loop-place.place c.requires.parted.order (omega arith) c.loop-place-test.true c.requires.points_safe))

pub mark_contour-requires-clause-within : goal.mark_contour-requires-clause-within
mark_contour-requires-clause-within g c = subst (λ n. All (λ q. q.place < n) c.args.asked.now) (sym c.loop-place.invariant.room) c.requires.within

pub loop-place-preserved : goal.loop-place-preserved
loop-place-preserved g c =
    let value = g.P.Coordinate.IntNumber.value in
    let at = λ (p : g.row.P.Denot). point_of value (g.P.ContourPoint.point p) in
    let place = c.loop-place.place in
    let points = c.args.points.now in
    let offsets = c.args.offsets.now in
    let back : place ≡ place - 1 + 1 = omega (arith, c.loop-place.auto.place) in
    let contour : contour_of value (g.P.ContourPoint.points c.part.result.now) ≡ map at (nth_contour points offsets (place - 1)) =
    copied_points g.P.Coordinate.IntNumber.width value g.P.ContourPoint.point c.part.result.now (g.P.ContourPoint.points c.part.result.now) (g.P.ContourPoint.each c.part.result.now)
    ∙ ap (map at) (c.part.ensures.part ∙ ap (λ k. slice_range points (offset offsets (place - 1)) (offset offsets k)) back) in
    asked_more value c.args.mark (IsOnBefore at points offsets place) (IsOnEdge (contour_of value (g.P.ContourPoint.points c.part.result.now))) (IsOnBefore at points offsets (place + 1)) c.args.asked.now c.args.out.now c.loop-place.out c.mark_contour.new.out c.loop-place.invariant c.mark_contour.ensures
    (λ p. on_later at points offsets place p)
    (λ p on. on_here at points offsets place p (omega (arith, c.loop-place.auto.place)) c.loop-place-test.true (subst (λ ps. IsOnEdge ps p) contour on))
    (λ p is. elim (on_parts at points offsets place p is) [ inl before ↦ inl before | inr here ↦ inr (subst (λ ps. IsOnEdge ps p) (sym contour) here) ])

pub returns : goal.returns
returns g c =
    let value = g.P.Coordinate.IntNumber.value in
    let at = λ (p : g.row.P.Denot). point_of value (g.P.ContourPoint.point p) in
    let points = c.args.points.now in
    let offsets = c.args.offsets.now in
    let n = c.loop-place.place in
    let asked = c.args.asked.now in
    marked_as c.args.mark (IsAskedFor value (IsOnBefore at points offsets n) asked) (IsAskedFor value (IsOnContours at points offsets) asked) c.args.out.now c.loop-place.out
    (asked_as value (IsOnBefore at points offsets n) (IsOnContours at points offsets) asked (λ p. on_some at points offsets n p))
    (asked_as value (IsOnContours at points offsets) (IsOnBefore at points offsets n) asked (λ p. on_all at points offsets n p c.loop-place-test.false)) c.loop-place.invariant
