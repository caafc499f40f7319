use Rattle.std.proofs.Common.{◌≡◌, ◌∙◌, ℕ, ◌+◌, ◌-◌, List, length, get_or, slice_range, refl, sym, ap, subst, arith, inl, inr, IsTrue, FitsSigned, to_z, of_z, w64}
use Rattle.std.proofs.lemmas.Int.{to_z-of_z}
use Rattle.i_shape.specs.IntPoint.{point_of, IsSafe}
use Rattle.i_shape.specs.Filling.{IsFilled}
use Rattle.i_shape_c.specs.Batch.{offset, PartsPoints, AreSafeContours}
use Rattle.i_shape_c.specs.Holders.{DoesHold}
use Rattle.i_shape_c.specs.Polygons.{polygon_arrays}
use Rattle.i_shape_c.specs.Validity.{polygon_offsets}
use Rattle.i_shape_c.specs.Windings.{contours_winding}
use Rattle.i_shape_c.proofs.Faults.{within, own_parted, own_points}
use Rattle.i_shape_c.proofs.Holding.{not_held, none_more}
use Rattle.i_shape_c.proofs.holders.first_holder.Goals as goal

pub overflow_add-shapes : goal.overflow_add-shapes
overflow_add-shapes g c =
    let in_all = within c.args.contours.now c.args.shapes.now (length c.args.points.now) c.loop-place.place c.requires.parted.contours_parted c.requires.parted.shapes_parted (omega arith) c.loop-place-test.true in
    omega (arith, in_all.1)

pub part-offsets-requires-clause-within : goal.part-offsets-requires-clause-within
part-offsets-requires-clause-within g c =
    let in_all = within c.args.contours.now c.args.shapes.now (length c.args.points.now) c.loop-place.place c.requires.parted.contours_parted c.requires.parted.shapes_parted (omega arith) c.loop-place-test.true in
    omega (arith, in_all.1)

pub wind_all-requires-clause-parted : goal.wind_all-requires-clause-parted
wind_all-requires-clause-parted g c =
    subst (λ (l : List ℕ). PartsPoints (length c.args.points.now) l) (sym c.part-offsets.ensures.part)
    (own_parted c.args.contours.now c.args.shapes.now (length c.args.points.now) c.loop-place.place c.requires.parted.contours_parted c.requires.parted.shapes_parted (omega arith) c.loop-place-test.true)

pub wind_all-requires-clause-points_safe : goal.wind_all-requires-clause-points_safe
wind_all-requires-clause-points_safe g c =
    let at = λ (p : g.row.P.Denot). point_of g.P.Coordinate.IntNumber.value (g.P.ContourPoint.point p) in
    subst (λ (l : List ℕ). AreSafeContours g.P.Coordinate.IntNumber.width at c.args.points.now l) (sym c.part-offsets.ensures.part)
    (own_points c.args.contours.now c.args.shapes.now (length c.args.points.now) c.loop-place.place c.requires.parted.contours_parted c.requires.parted.shapes_parted (omega arith) c.loop-place-test.true (λ p. IsSafe g.P.Coordinate.IntNumber.width (at p)) c.args.points.now c.requires.points_safe)

pub loop-place-init : goal.loop-place-init
loop-place-init g c = λ k h held. absurd (omega (arith, h))

pub loop-place-preserved-then-is_beside : goal.loop-place-preserved-then-is_beside
loop-place-preserved-then-is_beside g c =
    let value = g.P.Coordinate.IntNumber.value in
    let at = λ (p : g.row.P.Denot). point_of value (g.P.ContourPoint.point p) in
    let given = polygon_arrays c.args.points.now c.args.contours.now c.args.shapes.now in
    let place = c.loop-place.place in
    let k = place - 1 in
    let next : k + 1 ≡ place = omega (arith, c.loop-place.auto.place) in
    let own = c.bounds_between-own.result in
    let beside = c.is_beside.ensures c.if-is_beside.true in
    none_more (DoesHold at c.args.rule given (point_of value c.args.point)) k place (place + 1) next refl c.loop-place.invariant
    (not_held value at given k (length c.args.points.now) c.requires.parted (omega (arith, next, c.loop-place-test.true)) c.args.rule own (get_or c.args.boxes.now k own) (point_of value c.args.point) c.bounds_between-own.ensures.first (c.requires.are_boxes k own beside.0) beside.1)

pub loop-place-preserved : goal.loop-place-preserved
loop-place-preserved g c =
    let value = g.P.Coordinate.IntNumber.value in
    let at = λ (p : g.row.P.Denot). point_of value (g.P.ContourPoint.point p) in
    let given = polygon_arrays c.args.points.now c.args.contours.now c.args.shapes.now in
    let about = point_of value c.args.point in
    let place = c.loop-place.place in
    let k = place - 1 in
    let next : k + 1 ≡ place = omega (arith, c.loop-place.auto.place) in
    let own : c.part-offsets.result.now ≡ polygon_offsets c.args.contours.now c.args.shapes.now k = c.part-offsets.ensures.part ∙ ap (λ (j : ℕ). slice_range c.args.contours.now (offset c.args.shapes.now k) (offset c.args.shapes.now j + 1)) (sym next) in
    let fits : FitsSigned w64 c.wind_all.result = record { sfits = c.wind_all.type_inv } in
    let turns : to_z w64 (of_z w64 c.wind_all.result) ≡ contours_winding at c.args.points.now (polygon_offsets c.args.contours.now c.args.shapes.now k) about = to_z-of_z w64 c.wind_all.result fits ∙ c.wind_all.ensures ∙ ap (λ (l : List ℕ). contours_winding at c.args.points.now l about) own in
    none_more (DoesHold at c.args.rule given about) k place (place + 1) next refl c.loop-place.invariant
    (λ held.
    let t : IsTrue c.fills.result = c.fills.ensures.1 (subst (IsFilled c.args.rule) (sym turns) held) in
    let f = c.if-fills.false in
    absurd (cc))

pub returns-then-fills : goal.returns-then-fills
returns-then-fills g c =
    let value = g.P.Coordinate.IntNumber.value in
    let at = λ (p : g.row.P.Denot). point_of value (g.P.ContourPoint.point p) in
    let about = point_of value c.args.point in
    let place = c.loop-place.place in
    let k = place - 1 in
    let next : k + 1 ≡ place = omega (arith, c.loop-place.auto.place) in
    let own : c.part-offsets.result.now ≡ polygon_offsets c.args.contours.now c.args.shapes.now k = c.part-offsets.ensures.part ∙ ap (λ (j : ℕ). slice_range c.args.contours.now (offset c.args.shapes.now k) (offset c.args.shapes.now j + 1)) (sym next) in
    let fits : FitsSigned w64 c.wind_all.result = record { sfits = c.wind_all.type_inv } in
    let turns : to_z w64 (of_z w64 c.wind_all.result) ≡ contours_winding at c.args.points.now (polygon_offsets c.args.contours.now c.args.shapes.now k) about = to_z-of_z w64 c.wind_all.result fits ∙ c.wind_all.ensures ∙ ap (λ (l : List ℕ). contours_winding at c.args.points.now l about) own in
    inl (record {
      within = omega (arith, next, c.loop-place-test.true);
      here = subst (IsFilled c.args.rule) turns (c.fills.ensures.0 c.if-fills.true);
      before = λ j h held. c.loop-place.invariant j (omega (arith, h, next)) held;
    })

pub returns : goal.returns
returns g c = inr (refl, λ k h held. c.loop-place.invariant k (omega (arith, h, c.loop-place-test.false)) held)
