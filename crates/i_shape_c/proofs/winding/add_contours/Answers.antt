use Rattle.std.proofs.Common.{◌≡◌, ◌∙◌, ℕ, ◌+◌, ◌+ℤ◌, ◌-◌, suc, length, map, slice_range, ap, sym, refl, arith}
use Rattle.std.specs.List.{range_with_len}
use Rattle.i_shape_core.proofs.Common.{Point, point_of, contour_of, sum_of, winding}
use Rattle.i_shape.specs.Heights.{asked_points}
use Rattle.i_shape_core.proofs.Sums.Heights.{added_as, added_more, none_added_yet}
use Rattle.i_shape_c.specs.Batch.{offset, nth_contour}
use Rattle.i_shape_c.proofs.Batches.{safe_part}
use Rattle.i_shape_core.proofs.Lists.Rings.{rises_to}
use Rattle.i_shape_c.proofs.Boundary.{copied_points, safe_contour}
use Rattle.i_shape_c.proofs.Windings.{one_more}
use Rattle.i_shape_c.proofs.winding.add_contours.Goals as goal

pub loop-place-init : goal.loop-place-init
loop-place-init g c = record {
  room = refl;
  fit = c.requires.fit;
  added = none_added_yet _ _ _ (λ p. refl);
}

pub part-requires-clause-within : goal.part-requires-clause-within
part-requires-clause-within g c =
    let up = rises_to c.args.offsets.now (length c.args.offsets.now) c.loop-place.place (length c.args.offsets.now - 1) c.requires.parted.order (omega (arith, c.loop-place-test.true)) (omega (arith, c.loop-place-test.true)) in
    omega (arith, up, c.requires.parted.last)

pub add_contour-requires-clause-contour_safe : goal.add_contour-requires-clause-contour_safe
add_contour-requires-clause-contour_safe g c =
    let at = λ (p : g.row.P.Denot). point_of g.P.Coordinate.IntNumber.value (g.P.ContourPoint.point p) in
    safe_contour g.P.Coordinate.IntNumber.width g.P.Coordinate.IntNumber.value g.P.ContourPoint.point c.part.result.now (g.P.ContourPoint.points c.part.result.now) (g.P.ContourPoint.each c.part.result.now)
    (rw (c.part.ensures.part)
    (safe_part g.P.Coordinate.IntNumber.width at c.args.points.now c.args.offsets.now (c.loop-place.place - 1) c.loop-place.place c.requires.parted.order (omega arith) c.loop-place-test.true c.requires.points_safe))

pub loop-place-preserved : goal.loop-place-preserved
loop-place-preserved g c =
    let value = g.P.Coordinate.IntNumber.value in
    let at = λ (p : g.row.P.Denot). point_of value (g.P.ContourPoint.point p) in
    let place = c.loop-place.place in
    let ps = asked_points value c.args.asked.now in
    let f = λ (q : Point) (k : ℕ). winding (map at (nth_contour c.args.points.now c.args.offsets.now k)) q in
    let known = c.loop-place.invariant in
    let next : suc (place - 1) ≡ place + 1 - 1 = omega (arith, c.loop-place.auto.place) in
    let back : place ≡ place - 1 + 1 = omega (arith, c.loop-place.auto.place) in
    let contour = copied_points g.P.Coordinate.IntNumber.width value g.P.ContourPoint.point c.part.result.now (g.P.ContourPoint.points c.part.result.now) (g.P.ContourPoint.each c.part.result.now)
    ∙ ap (map at) (c.part.ensures.part ∙ ap (λ k. slice_range c.args.points.now (offset c.args.offsets.now (place - 1)) (offset c.args.offsets.now k)) back) in
    record {
      room = c.add_contour.ensures.room ∙ known.room;
      fit = c.add_contour.ensures.fit;
      added = added_as ps (λ q. sum_of (f q) (range_with_len 0 (place - 1)) +ℤ winding (contour_of value (g.P.ContourPoint.points c.part.result.now)) q) (λ q. sum_of (f q) (range_with_len 0 (place + 1 - 1))) c.args.totals.now c.add_contour.new.totals
          (λ q. ap (λ z. sum_of (f q) (range_with_len 0 (place - 1)) +ℤ z) (ap (λ points. winding points q) contour) ∙ sym (one_more (f q) (place - 1)) ∙ ap (λ n. sum_of (f q) (range_with_len 0 n)) next)
          (added_more ps (λ q. sum_of (f q) (range_with_len 0 (place - 1))) (winding (contour_of value (g.P.ContourPoint.points c.part.result.now))) c.args.totals.now c.loop-place.totals c.add_contour.new.totals known.added c.add_contour.ensures.added);
    }
