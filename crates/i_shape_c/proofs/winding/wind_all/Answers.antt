use Rattle.std.proofs.Common.{◌≡◌, ◌∙◌, ℕ, ◌+◌, ◌+ℤ◌, ◌-◌, ◌^◌, ◌<◌, suc, length, map, slice_range, ap, ap₂, sym, subst, FitsSigned, w64, to_z, arith, rules}
use Rattle.std.proofs.lemmas.Int.{to_z-of_z}
use Rattle.std.specs.List.{range_with_len}
use Rattle.i_shape_core.proofs.Common.{point_of, sum_of, winding, IsWithinHalf}
use Rattle.i_shape_c.specs.Batch.{offset, nth_contour}
use Rattle.i_shape_core.proofs.Lists.Rings.{rises_to}
use Rattle.i_shape_c.proofs.Batches.{safe_part}
use Rattle.i_shape_c.proofs.Boundary.{copied_points, safe_contour}
use Rattle.i_shape_c.proofs.Windings.{one_more, half_more, half_fits}
use Rattle.i_shape_c.proofs.winding.wind_all.Goals as goal

pub part-requires-clause-within : goal.part-requires-clause-within
part-requires-clause-within g c =
    let up = rises_to c.args.offsets.now (length c.args.offsets.now) c.loop-place.place (length c.args.offsets.now - 1) c.requires.parted.order (omega (arith, c.loop-place-test.true)) (omega (arith, c.loop-place-test.true)) in
    omega (arith, up, c.requires.parted.last)

pub winding_about-sum-requires-clause-points_safe : goal.winding_about-sum-requires-clause-points_safe
winding_about-sum-requires-clause-points_safe g c =
    let at = λ (p : g.row.P.Denot). point_of g.P.Coordinate.IntNumber.value (g.P.ContourPoint.point p) in
    safe_contour g.P.Coordinate.IntNumber.width g.P.Coordinate.IntNumber.value g.P.ContourPoint.point c.part.result.now (g.P.ContourPoint.points c.part.result.now) (g.P.ContourPoint.each c.part.result.now)
    (rw (c.part.ensures.part)
    (safe_part g.P.Coordinate.IntNumber.width at c.args.points.now c.args.offsets.now (c.loop-place.place - 1) c.loop-place.place c.requires.parted.order (omega arith) c.loop-place-test.true c.requires.points_safe))

pub loop-place-preserved : goal.loop-place-preserved
loop-place-preserved g c =
    let value = g.P.Coordinate.IntNumber.value in
    let place = c.loop-place.place in
    let before = to_z w64 c.loop-place.sum-bits in
    let turns = c.winding_about-sum.result in
    let f = λ (k : ℕ). winding (map (λ p. point_of value (g.P.ContourPoint.point p)) (nth_contour c.args.points.now c.args.offsets.now k)) (point_of value c.args.point) in
    let fits : FitsSigned w64 turns = record { sfits = c.winding_about-sum.type_inv } in
    let half = half_more (offset c.args.offsets.now (place - 1)) (length c.part.result.now) (offset c.args.offsets.now place) before turns c.loop-place.invariant.half c.winding_about-sum.ensures.half (omega (arith, c.part.ensures.len)) in
    let few : offset c.args.offsets.now place < 2 ^ 64 = search rules in
    let sum = half_fits (offset c.args.offsets.now place) (before +ℤ turns) few half in
    let next : suc (place - 1) ≡ place + 1 - 1 = omega (arith, c.loop-place.auto.place) in
    let back : place ≡ place - 1 + 1 = omega (arith, c.loop-place.auto.place) in
    let along : place ≡ place + 1 - 1 = omega arith in
    let here : turns ≡ f (place - 1) = c.winding_about-sum.ensures.answer ∙ ap (λ points. winding points (point_of value c.args.point))
    (copied_points g.P.Coordinate.IntNumber.width value g.P.ContourPoint.point c.part.result.now (g.P.ContourPoint.points c.part.result.now) (g.P.ContourPoint.each c.part.result.now) ∙ ap (map (λ p. point_of value (g.P.ContourPoint.point p))) (c.part.ensures.part ∙ ap (λ k. slice_range c.args.points.now (offset c.args.offsets.now (place - 1)) (offset c.args.offsets.now k)) back)) in
    rw (to_z-of_z w64 turns fits, to_z-of_z w64 (before +ℤ turns) sum) (record {
      told = ap₂ (λ x y. x +ℤ y) c.loop-place.invariant.told here ∙ sym (one_more f (place - 1)) ∙ ap (λ n. sum_of f (range_with_len 0 n)) next;
      half = subst (λ k. IsWithinHalf (offset c.args.offsets.now k) (before +ℤ turns)) along half;
    })
