use Rattle.std.proofs.Common.{◌≡◌, ◌+◌, ◌-◌, ◌++◌, ◌∙◌, [], ◌∷◌, List, ℕ, length, map, take, drop, slice_range, Some, sym, ap, refl, subst, arith, take-append-drop}
use Rattle.std.specs.List.{range_with_len}
use Rattle.std.proofs.lemmas.List.FromFn.{map-range_with_len_more, take-map-range_with_len}
use Rattle.i_shape_core.proofs.Common.{Point, point_of}
use Rattle.i_shape.specs.Reading.{read}
use Rattle.i_shape_c.specs.Steps.Appended.{AppendsRingLeft, AppendsShapeLeft}
use Rattle.i_shape_c.specs.Batch.{contour_arrays, offset, nth_contour}
use Rattle.i_shape_c.specs.Polygons.{polygon_arrays, parts}
use Rattle.i_shape_core.proofs.Lists.Rings.{rises_to}
use Rattle.i_shape_c.proofs.Appended.{rings_none, polygon_put}
use Rattle.i_shape_c.proofs.PolygonsLeft.{ShapeBegun, begun_more, begun_none, ready_still, spans}
use Rattle.i_shape_c.proofs.polygons.append_polygon.Goals as goal

pub loop-place-init : goal.loop-place-init
loop-place-init g c = record {
  begun = record { kept = []; shape = refl; appended = rings_none c.args.out_points.now c.args.out_contours.now c.args.counts };
  fewer_points = omega arith;
  fewer_contours = omega arith;
  shapes = refl;
  keeps_room = λ n had. had;
}

pub part-ring-requires-clause-within : goal.part-ring-requires-clause-within
part-ring-requires-clause-within g c =
    let parted = c.requires.parted in
    let up = rises_to c.args.rings.now (length c.args.rings.now) c.loop-place.place (length c.args.rings.now - 1) parted.order (omega (arith, c.loop-place-test.true)) (omega (arith, c.loop-place-test.true)) in
    omega (arith, up, parted.last)

pub append_ring-written-requires-clause-points_room : goal.append_ring-written-requires-clause-points_room
append_ring-written-requires-clause-points_room g c =
    let up = rises_to c.args.rings.now (length c.args.rings.now) c.loop-place.place (length c.args.rings.now - 1) c.requires.parted.order (omega (arith, c.loop-place-test.true)) (omega (arith, c.loop-place-test.true)) in
    omega (arith, up, c.requires.points_room, c.loop-place.invariant.fewer_points, c.part-ring.ensures.len, c.loop-place.invariant.begun.appended.points_len)

pub append_ring-written-requires-clause-ready : goal.append_ring-written-requires-clause-ready
append_ring-written-requires-clause-ready g c =
    let next : c.loop-place.place - 1 + 1 ≡ c.loop-place.place = omega arith in
    let ready = rw next at (c.requires.ready (c.loop-place.place - 1) (omega (arith, c.loop-place-test.true))) in
    rw (c.part-ring.ensures.part) (ready_still g.C.ContourCleaner.meaning.clean g.P.Coordinate.IntNumber.width (read g.P.Coordinate.IntNumber.value g.P.ContourPoint.points) c.args.all_clean
    (g.C.ContourCleaner.has_room c.args.cleaner.now) (g.C.ContourCleaner.has_room c.loop-place.cleaner) (slice_range c.args.points.now (offset c.args.rings.now (c.loop-place.place - 1)) (offset c.args.rings.now c.loop-place.place)) c.loop-place.invariant.keeps_room ready)

pub returns-then-written-counts-clause-left : goal.returns-then-written-counts-clause-left
returns-then-written-counts-clause-left g c =
    let at : g.row.P.Denot → Point = λ p. point_of g.P.Coordinate.IntNumber.value (g.P.ContourPoint.point p) in
    let points = c.args.points.now in
    let rings = c.args.rings.now in
    let place = c.loop-place.place in
    let k = place - 1 in
    let f : ℕ → List g.row.P.Denot = nth_contour points rings in
    let step = c.append_ring-written in
    let next : k + 1 ≡ place = omega (arith, c.loop-place.auto.place) in
    let is : c.part-ring.result.now ≡ f k = c.part-ring.ensures.part ∙ ap (λ j. slice_range points (offset rings k) (offset rings j)) (sym next) in
    let first : take (k + 1) (parts points rings) ≡ map f (range_with_len 0 k) ++ (f k ∷ []) =
    take-map-range_with_len f 0 (length rings - 1) (k + 1) (omega (arith, next, c.loop-place-test.true)) ∙ map-range_with_len_more f 0 k k (let e : 0 + k ≡ k = omega arith in e) in
    let whole : parts points rings ≡ (map f (range_with_len 0 k) ++ (f k ∷ [])) ++ drop (k + 1) (parts points rings) = sym (take-append-drop (k + 1) (parts points rings)) ∙ ap (λ w. w ++ drop (k + 1) (parts points rings)) first in
    let left : AppendsRingLeft g.C.ContourCleaner.meaning.answers at (f k) (contour_arrays c.loop-place.out_points c.loop-place.out_contours) (contour_arrays step.new.out_points step.new.out_contours) c.loop-place.written step.result =
    subst (λ w. AppendsRingLeft g.C.ContourCleaner.meaning.answers at w (contour_arrays c.loop-place.out_points c.loop-place.out_contours) (contour_arrays step.new.out_points step.new.out_contours) c.loop-place.written step.result) is step.ensures.left in
    subst (λ w. AppendsShapeLeft g.C.ContourCleaner.meaning.answers at w (polygon_arrays c.args.out_points.now c.args.out_contours.now c.args.out_shapes.now) (polygon_arrays step.new.out_points step.new.out_contours c.args.out_shapes.now) c.args.counts c.args.counts) (sym whole)
    (begun_none g.C.ContourCleaner.meaning.answers at c.args.out_points.now c.loop-place.out_points step.new.out_points c.args.out_contours.now c.loop-place.out_contours step.new.out_contours c.args.counts c.loop-place.written step.result
    (map f (range_with_len 0 k)) (f k) (drop (k + 1) (parts points rings)) c.args.out_shapes.now c.loop-place.invariant.begun left (omega (arith, c.requires.points_room, spans c.requires.parted)) (omega (arith, c.requires.contours_room, c.requires.parted.some)) c.if-written-counts.true)

pub returns-then-written-counts-clause-fewer_points : goal.returns-then-written-counts-clause-fewer_points
returns-then-written-counts-clause-fewer_points g c = omega (arith, spans c.requires.parted)

pub returns-then-written-counts-clause-keeps_room : goal.returns-then-written-counts-clause-keeps_room
returns-then-written-counts-clause-keeps_room g c = λ n had. c.append_ring-written.ensures.keeps_room n (c.loop-place.invariant.keeps_room n had)

pub loop-place-preserved : goal.loop-place-preserved
loop-place-preserved g c =
    let at : g.row.P.Denot → Point = λ p. point_of g.P.Coordinate.IntNumber.value (g.P.ContourPoint.point p) in
    let points = c.args.points.now in
    let rings = c.args.rings.now in
    let place = c.loop-place.place in
    let k = place - 1 in
    let f : ℕ → List g.row.P.Denot = nth_contour points rings in
    let inv = c.loop-place.invariant in
    let step = c.append_ring-written in
    let next : k + 1 ≡ place = omega (arith, c.loop-place.auto.place) in
    let count : place + 1 - 1 ≡ place = omega arith in
    let is : c.part-ring.result.now ≡ f k = c.part-ring.ensures.part ∙ ap (λ j. slice_range points (offset rings k) (offset rings j)) (sym next) in
    let whole : map f (range_with_len 0 (place + 1 - 1)) ≡ map f (range_with_len 0 k) ++ (f k ∷ []) = ap (λ n. map f (range_with_len 0 n)) (count ∙ sym next) ∙ map-range_with_len_more f 0 k k (let e : 0 + k ≡ k = omega arith in e) in
    let left : AppendsRingLeft g.C.ContourCleaner.meaning.answers at (f k) (contour_arrays c.loop-place.out_points c.loop-place.out_contours) (contour_arrays step.new.out_points step.new.out_contours) c.loop-place.written step.result =
    subst (λ w. AppendsRingLeft g.C.ContourCleaner.meaning.answers at w (contour_arrays c.loop-place.out_points c.loop-place.out_contours) (contour_arrays step.new.out_points step.new.out_contours) c.loop-place.written step.result) is step.ensures.left in
    record {
      begun = subst (λ w. ShapeBegun g.C.ContourCleaner.meaning.answers at w c.args.out_points.now step.new.out_points c.args.out_contours.now step.new.out_contours c.args.counts step.result) (sym whole)
          (begun_more g.C.ContourCleaner.meaning.answers at c.args.out_points.now c.loop-place.out_points step.new.out_points c.args.out_contours.now c.loop-place.out_contours step.new.out_contours c.args.counts c.loop-place.written step.result
          (map f (range_with_len 0 k)) (f k) inv.begun left (omega (arith, c.requires.points_room, spans c.requires.parted)) (omega (arith, c.requires.contours_room, c.requires.parted.some)) c.if-written-counts.false);
      fewer_points = rw count (omega (arith, step.ensures.fewer_points, inv.fewer_points, c.part-ring.ensures.len));
      fewer_contours = omega (arith, step.ensures.fewer_contours, inv.fewer_contours);
      shapes = step.ensures.shapes ∙ inv.shapes;
      keeps_room = λ n had. step.ensures.keeps_room n (inv.keeps_room n had);
    }

pub returns-clause-left : goal.returns-clause-left
returns-clause-left g c =
    let at : g.row.P.Denot → Point = λ p. point_of g.P.Coordinate.IntNumber.value (g.P.ContourPoint.point p) in
    let rings = c.args.rings.now in
    let inv = c.loop-place.invariant in
    let last : c.loop-place.place - 1 ≡ length rings - 1 = omega (arith, c.loop-place-test.false, c.loop-place.auto.place-end, c.requires.parted.some) in
    let begun = rw last at inv.begun in
    record {
      left = Some begun.kept;
      answer = begun.shape;
      appended = polygon_put begun.kept c.args.out_points.now c.loop-place.out_points c.args.out_contours.now c.loop-place.out_contours c.args.out_shapes.now c.args.counts c.loop-place.written begun.appended inv.shapes c.requires.shapes_room;
    }
