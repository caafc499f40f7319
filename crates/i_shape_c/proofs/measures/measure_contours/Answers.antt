use Rattle.std.proofs.Common.{◌≡◌, arith, refl, length, ◌+◌, ◌-◌, ◌<◌, map, take, set, slice_range, subst, sym, IsTrue, false}
use Rattle.std.specs.List.{All, AllZip, range_with_len}
use Rattle.i_shape.specs.IntPoint.{point_of}
use Rattle.i_shape_c.specs.Batch.{offset, nth_contour}
use Rattle.i_shape_core.proofs.Lists.Rings.{rises_to, back_more}
use Rattle.i_shape_c.proofs.Batches.{all_part}
use Rattle.i_shape_c.specs.declared.codes.Refusal.TheVariants.{Unsafe}
use Rattle.i_shape_c.proofs.Refusals.{code_of_32, refused, not_refused}
use Rattle.i_shape_c.proofs.Told.{told_more}
use Rattle.i_shape_c.proofs.measures.measure_contours.Goals as goal

pub part-requires-clause-order : goal.part-requires-clause-order
part-requires-clause-order g c =
    let can = c.if-not-are_parted.ensures.0 refl in
    rises_to c.args.offsets.now (length c.args.offsets.now) 0 (length c.args.offsets.now - 1) can.order (omega arith) (omega (arith, can.some))

pub part-requires-in-loop-place-clause-within : goal.part-requires-in-loop-place-clause-within
part-requires-in-loop-place-clause-within g c =
    let can = c.if-not-are_parted.ensures.0 refl in
    let up = rises_to c.args.offsets.now (length c.args.offsets.now) c.loop-place.place (length c.args.offsets.now - 1) can.order (omega (arith, c.loop-place-test.true)) (omega (arith, c.loop-place-test.true)) in
    omega (arith, up, can.last)

pub measure-requires-clause-points : goal.measure-requires-clause-points
measure-requires-clause-points g c =
    let can = c.if-not-are_parted.ensures.0 refl in
    let Asked = g.M.ContourMeasure.asked c.args.measure in
    let all : All Asked (slice_range c.args.points.now (offset c.args.offsets.now 0) (offset c.args.offsets.now (length c.args.offsets.now - 1))) = rw (← c.part.ensures.part) (c.if-not-admits.ensures.0 refl) in
    rw (c.part-in-loop-place.ensures.part)
    (all_part Asked c.args.points.now c.args.offsets.now (c.loop-place.place - 1) c.loop-place.place can.order (omega arith) c.loop-place-test.true all)

pub loop-place-preserved : goal.loop-place-preserved
loop-place-preserved g c =
    let at = λ (p : g.row.P.Denot). point_of g.P.Coordinate.IntNumber.value (g.P.ContourPoint.point p) in
    let fits = c.if-out-offsets.false in
    let place = c.loop-place.place in
    let here : place ≡ place - 1 + 1 = omega (arith, c.loop-place.auto.place) in
    let next : place - 1 + 1 ≡ place + 1 - 1 = omega (arith, c.loop-place.auto.place) in
    let room : place - 1 < length c.loop-place.out = omega (arith, fits, c.loop-place.auto.out, c.loop-place-test.true, c.loop-place.auto.place) in
    let Gives = g.M.ContourMeasure.gives c.args.measure in
    let told : Gives (map at (slice_range c.args.points.now (offset c.args.offsets.now (place - 1)) (offset c.args.offsets.now place))) c.measure.result = rw (← c.part-in-loop-place.ensures.part) c.measure.ensures in
    let each = told_more (λ contour. Gives (map at contour)) c.args.points.now c.args.offsets.now c.loop-place.out (place - 1) place c.measure.result here room c.loop-place.invariant.each told in
    record {
      each = subst (λ n. AllZip (λ contour. Gives (map at contour)) (map (nth_contour c.args.points.now c.args.offsets.now) (range_with_len 0 n)) (take n (set c.loop-place.out (place - 1) c.measure.result))) next each;
      rest = back_more c.loop-place.out c.args.out.now (place - 1) (place + 1 - 1) c.measure.result (sym next) c.loop-place.invariant.rest;
    }

pub returns-then-not-admits : goal.returns-then-not-admits
returns-then-not-admits g c =
    let Asked = All (g.M.ContourMeasure.asked c.args.measure) in
    let unlike : Asked (slice_range c.args.points.now (offset c.args.offsets.now 0) (offset c.args.offsets.now (length c.args.offsets.now - 1))) → ⊥ =
    λ all. let told : IsTrue false = c.if-not-admits.ensures.1 (subst Asked (sym c.part.ensures.part) all) in cc in
    rw (c.code-then-not-admits.ensures, code_of_32 Unsafe) (record { answer = (omega arith, refl); refuses = refused Unsafe (c.if-not-are_parted.ensures.0 refl, c.if-out-offsets.false, unlike) })

pub returns : goal.returns
returns g c =
    let parted = c.if-not-are_parted.ensures.0 refl in
    let last : c.loop-place.place - 1 ≡ length c.args.offsets.now - 1 = omega (arith, c.loop-place-test.false, c.loop-place.auto.place-end, parted.some) in
    let all = subst (All (g.M.ContourMeasure.asked c.args.measure)) c.part.ensures.part (c.if-not-admits.ensures.0 refl) in
    record { answer = record { each = rw last at c.loop-place.invariant.each; rest = rw last at c.loop-place.invariant.rest }; refuses = not_refused (parted, c.if-out-offsets.false, all) 0 }
