use Rattle.std.proofs.Common.{◌≡◌, ◌+◌, ◌-◌, ◌++◌, ◌∙◌, ◌∷◌, [], ℕ, List, length, slice_range, set, sym, ap, subst, arith, length-set}
use Rattle.std.proofs.lemmas.List.FromFn.{map-range_with_len_more}
use Rattle.i_shape_core.proofs.Common.{point_of, Point}
use Rattle.i_shape.specs.Reading.{read}
use Rattle.i_shape_core.proofs.Lists.Rings.{rises_to}
use Rattle.i_shape_c.specs.Steps.Appended.{IsReady, AppendsShapeKept, polygons_of, rings_at}
use Rattle.i_shape_c.specs.Batch.{offset, nth_contour}
use Rattle.i_shape_c.specs.Polygons.{polygon_arrays, parts}
use Rattle.i_shape_c.specs.declared.polygons.Counts.{Counts}
use Rattle.i_shape_c.proofs.Appended.{polygons_none, rises_in, parted_in, ends_in, all_written_out}
use Rattle.i_shape_c.proofs.PolygonsLeft.{ready_still, each_part}
use Rattle.i_shape_c.proofs.FeaturesSorted.{PolygonsBegun, polygons_begun}
use Rattle.i_shape_c.proofs.features.write_each.Goals as goal

pub loop-place-init : goal.loop-place-init
loop-place-init g c =
    let none : offset c.args.shapes.now 0 - offset c.args.shapes.now 0 ≡ 0 = omega arith in
    record {
      begun = record { kept = []; shapes = tt; appended = polygons_none c.args.out_points.now (set c.args.out_contours.now 0 0) (set c.args.out_shapes.now 0 0) _ };
      fewer_points = rw none (omega arith);
      fewer_contours = omega arith;
      fewer_shapes = omega arith;
      keeps_room = λ n had. had;
    }

pub overflow_add-end : goal.overflow_add-end
overflow_add-end g c =
    let up = rises_in c.args.rings.now c.args.shapes.now c.loop-place.place c.requires.shapes_order (omega arith) c.loop-place-test.true c.requires.shapes_last in
    omega (arith, up.0, up.1, up.2)

pub part-polygon-requires-clause-order : goal.part-polygon-requires-clause-order
part-polygon-requires-clause-order g c =
    let up = rises_in c.args.rings.now c.args.shapes.now c.loop-place.place c.requires.shapes_order (omega arith) c.loop-place-test.true c.requires.shapes_last in
    omega (arith, up.0, up.1)

pub part-polygon-requires-clause-within : goal.part-polygon-requires-clause-within
part-polygon-requires-clause-within g c =
    let up = rises_in c.args.rings.now c.args.shapes.now c.loop-place.place c.requires.shapes_order (omega arith) c.loop-place-test.true c.requires.shapes_last in
    omega (arith, up.0, up.1, up.2)

pub append_or_empty-counts-requires-clause-parted : goal.append_or_empty-counts-requires-clause-parted
append_or_empty-counts-requires-clause-parted g c =
    rw (c.part-polygon.ensures.part)
    (parted_in c.args.rings.now c.args.shapes.now c.loop-place.place c.requires.shapes_order (omega arith) c.loop-place-test.true c.requires.shapes_last (length c.args.points.now) c.requires.parted)

pub append_or_empty-counts-requires-clause-ready : goal.append_or_empty-counts-requires-clause-ready
append_or_empty-counts-requires-clause-ready g c =
    let rings = c.args.rings.now in
    let shapes = c.args.shapes.now in
    let up = rises_in rings shapes c.loop-place.place c.requires.shapes_order (omega arith) c.loop-place-test.true c.requires.shapes_last in
    let reading = read g.P.Coordinate.IntNumber.value g.P.ContourPoint.points in
    rw (c.part-polygon.ensures.part)
    (each_part (IsReady g.C.ContourCleaner.meaning.clean g.P.Coordinate.IntNumber.width reading c.args.all_clean (g.C.ContourCleaner.has_room c.loop-place.cleaner)) c.args.points.now rings (offset shapes (c.loop-place.place - 1) - offset shapes 0) (offset shapes c.loop-place.place - offset shapes 0 + 1)
    (omega (arith, up.0, up.1)) (omega (arith, up.0, up.1, up.2))
    (λ k less. ready_still g.C.ContourCleaner.meaning.clean g.P.Coordinate.IntNumber.width reading c.args.all_clean (g.C.ContourCleaner.has_room c.args.cleaner.now) (g.C.ContourCleaner.has_room c.loop-place.cleaner) (nth_contour c.args.points.now rings k)
    c.loop-place.invariant.keeps_room (c.requires.ready k less)))

pub append_or_empty-counts-requires-clause-points_room : goal.append_or_empty-counts-requires-clause-points_room
append_or_empty-counts-requires-clause-points_room g c =
    let rings = c.args.rings.now in
    let shapes = c.args.shapes.now in
    let up = rises_in rings shapes c.loop-place.place c.requires.shapes_order (omega arith) c.loop-place-test.true c.requires.shapes_last in
    let ends = ends_in rings shapes c.loop-place.place c.requires.shapes_order (omega arith) c.loop-place-test.true c.requires.shapes_last in
    let last = rises_to rings (length rings) (offset shapes c.loop-place.place - offset shapes 0) (length rings - 1) c.requires.parted.order (omega (arith, up.0, up.1, up.2)) (omega (arith, c.requires.parted.some)) in
    rw (c.part-polygon.ensures.part, ends.0, ends.1) (omega (arith, c.loop-place.invariant.fewer_points, last, c.requires.points_room, c.loop-place.invariant.begun.appended.rings.points_len))

pub append_or_empty-counts-requires-clause-contours_room : goal.append_or_empty-counts-requires-clause-contours_room
append_or_empty-counts-requires-clause-contours_room g c =
    let up = rises_in c.args.rings.now c.args.shapes.now c.loop-place.place c.requires.shapes_order (omega arith) c.loop-place-test.true c.requires.shapes_last in
    omega (arith, up.0, up.1, up.2, c.part-polygon.ensures.len, c.loop-place.invariant.fewer_contours, c.requires.contours_room, c.loop-place.invariant.begun.appended.rings.contours_len, length-set c.args.out_contours.now 0 0)

pub loop-place-preserved : goal.loop-place-preserved
loop-place-preserved g c =
    let at : g.row.P.Denot → Point = λ p. point_of g.P.Coordinate.IntNumber.value (g.P.ContourPoint.point p) in
    let Answer = g.C.ContourCleaner.meaning.answers in
    let points = c.args.points.now in
    let rings = c.args.rings.now in
    let shapes = c.args.shapes.now in
    let place = c.loop-place.place in
    let k = place - 1 in
    let f : ℕ → List (List g.row.P.Denot) = λ k. parts points (rings_at rings shapes k) in
    let inv = c.loop-place.invariant in
    let step = c.append_or_empty-counts in
    let next : k + 1 ≡ place = omega (arith, c.loop-place.auto.place) in
    let count : place + 1 - 1 ≡ place = omega arith in
    let up = rises_in rings shapes place c.requires.shapes_order (omega arith) c.loop-place-test.true c.requires.shapes_last in
    let ends = ends_in rings shapes place c.requires.shapes_order (omega arith) c.loop-place-test.true c.requires.shapes_last in
    let long = length-set c.args.out_contours.now 0 0 in
    let long_shapes = length-set c.args.out_shapes.now 0 0 in
    let whole : polygons_of points rings shapes (place + 1 - 1) ≡ polygons_of points rings shapes k ++ (f k ∷ []) = ap (polygons_of points rings shapes) (count ∙ sym next) ∙ map-range_with_len_more f 0 k k (let e : 0 + k ≡ k = omega arith in e) in
    let is : parts points c.part-polygon.result.now ≡ f k = ap (parts points) (c.part-polygon.ensures.part ∙ ap (λ j. slice_range rings (offset shapes k - offset shapes 0) (offset shapes j - offset shapes 0 + 1)) (sym next)) in
    let fewer = rw (c.part-polygon.ensures.part, ends.0, ends.1) at step.ensures.fewer_points in
    let zero : Counts = record { points = 0; contours = 0; shapes = 0 } in
    let left : AppendsShapeKept Answer at (f k) (polygon_arrays c.loop-place.out_points c.loop-place.out_contours c.loop-place.out_shapes) (polygon_arrays step.new.out_points step.new.out_contours step.new.out_shapes) c.loop-place.counts step.result =
    subst (λ w. AppendsShapeKept Answer at w (polygon_arrays c.loop-place.out_points c.loop-place.out_contours c.loop-place.out_shapes) (polygon_arrays step.new.out_points step.new.out_contours step.new.out_shapes) c.loop-place.counts step.result) is step.ensures.left in
    record {
      begun = subst (λ w. PolygonsBegun Answer at w c.args.out_points.now step.new.out_points (set c.args.out_contours.now 0 0) step.new.out_contours (set c.args.out_shapes.now 0 0) step.new.out_shapes zero step.result) (sym whole)
          (polygons_begun Answer at c.args.out_points.now c.loop-place.out_points step.new.out_points (set c.args.out_contours.now 0 0) c.loop-place.out_contours step.new.out_contours zero c.loop-place.counts step.result
          (polygons_of points rings shapes k) (f k) (set c.args.out_shapes.now 0 0) c.loop-place.out_shapes step.new.out_shapes inv.begun left
          (omega arith) (omega (arith, long, c.requires.contours_room, c.requires.parted.some)) (omega (arith, long_shapes, c.requires.shapes_room, c.requires.shapes_some)));
      fewer_points = rw count (omega (arith, fewer, inv.fewer_points));
      fewer_contours = rw count (omega (arith, step.ensures.fewer_contours, inv.fewer_contours, c.part-polygon.ensures.len, up.0, up.1));
      fewer_shapes = omega (arith, step.ensures.fewer_shapes, inv.fewer_shapes);
      keeps_room = λ n had. step.ensures.keeps_room n (inv.keeps_room n had);
    }

pub returns : goal.returns
returns g c =
    let rings = c.args.rings.now in
    let shapes = c.args.shapes.now in
    let inv = c.loop-place.invariant in
    let same : c.loop-place.place ≡ length shapes = omega (arith, c.loop-place-test.false, c.loop-place.auto.place-end, c.requires.shapes_some) in
    let last : c.loop-place.place - 1 ≡ length shapes - 1 = omega (arith, same) in
    let front = rises_to shapes (length shapes) 0 (length shapes - 1) c.requires.shapes_order (omega arith) (omega (arith, c.requires.shapes_some)) in
    let back = rises_to rings (length rings) (offset shapes (length shapes - 1) - offset shapes 0) (length rings - 1) c.requires.parted.order (omega (arith, front, c.requires.shapes_last)) (omega (arith, c.requires.parted.some)) in
    let fewer_points = rw last at inv.fewer_points in
    let fewer_contours = rw last at inv.fewer_contours in
    let begun = rw last at inv.begun in
    record {
      left = begun.kept;
      answer = begun.shapes;
      written = all_written_out begun.kept (length c.args.points.now) (length rings) (length shapes) c.args.out_points.now c.loop-place.out_points c.args.out_contours.now c.loop-place.out_contours c.args.out_shapes.now c.loop-place.out_shapes c.loop-place.counts
          begun.appended (omega (arith, c.requires.contours_room, c.requires.parted.some)) (omega (arith, c.requires.shapes_room, c.requires.shapes_some))
          (omega (arith, fewer_points, back, c.requires.parted.last)) (omega (arith, fewer_contours, c.requires.shapes_last)) (omega (arith, inv.fewer_shapes, same));
    }
