use Rattle.std.proofs.Common.{◌≡◌, ◌∙◌, ◌+◌, ◌-◌, ◌<◌, List, ℕ, length, map, slice_range, sym, ap, subst, arith}
use Rattle.i_shape.specs.IntPoint.{point_of, IsSafe}
use Rattle.i_shape_c.specs.Batch.{offset, PartsPoints, AreSafeContours}
use Rattle.i_shape_c.specs.Polygons.{polygon_arrays}
use Rattle.i_shape_c.specs.Validity.{IsFaultOf, IsFaultAt}
use Rattle.i_shape_core.proofs.Lists.Rings.{back_more}
use Rattle.i_shape_c.proofs.Faults.{within, own_parted, own_points}
use Rattle.i_shape_c.proofs.Told.{index_more}
use Rattle.i_shape_c.proofs.validity.write_each.Goals as goal

pub overflow_add-shapes : goal.overflow_add-shapes
overflow_add-shapes g c =
    let in_all = within c.args.contours.now c.args.shapes.now (length c.args.points.now) c.loop-place.place c.requires.parted.contours_parted c.requires.parted.shapes_parted (omega arith) c.loop-place-test.true in
    omega (arith, in_all.1)

pub part-offsets-requires-clause-within : goal.part-offsets-requires-clause-within
part-offsets-requires-clause-within g c =
    let in_all = within c.args.contours.now c.args.shapes.now (length c.args.points.now) c.loop-place.place c.requires.parted.contours_parted c.requires.parted.shapes_parted (omega arith) c.loop-place-test.true in
    omega (arith, in_all.1)

pub fault_of-requires-clause-parted : goal.fault_of-requires-clause-parted
fault_of-requires-clause-parted g c =
    subst (λ (l : List ℕ). PartsPoints (length c.args.points.now) l) (sym c.part-offsets.ensures.part)
    (own_parted c.args.contours.now c.args.shapes.now (length c.args.points.now) c.loop-place.place c.requires.parted.contours_parted c.requires.parted.shapes_parted (omega arith) c.loop-place-test.true)

pub fault_of-requires-clause-points_safe : goal.fault_of-requires-clause-points_safe
fault_of-requires-clause-points_safe g c =
    let at = λ (p : g.row.P.Denot). point_of g.P.Coordinate.IntNumber.value (g.P.ContourPoint.point p) in
    subst (λ (l : List ℕ). AreSafeContours g.P.Coordinate.IntNumber.width at c.args.points.now l) (sym c.part-offsets.ensures.part)
    (own_points c.args.contours.now c.args.shapes.now (length c.args.points.now) c.loop-place.place c.requires.parted.contours_parted c.requires.parted.shapes_parted (omega arith) c.loop-place-test.true (λ p. IsSafe g.P.Coordinate.IntNumber.width (at p)) c.args.points.now c.requires.points_safe)

pub fault_of-requires-clause-places : goal.fault_of-requires-clause-places
fault_of-requires-clause-places g c =
    let in_all = within c.args.contours.now c.args.shapes.now (length c.args.points.now) c.loop-place.place c.requires.parted.contours_parted c.requires.parted.shapes_parted (omega arith) c.loop-place-test.true in
    omega (arith, in_all.0, in_all.1, c.part-offsets.ensures.len)

pub fault_of-requires-clause-room : goal.fault_of-requires-clause-room
fault_of-requires-clause-room g c =
    let k = c.loop-place.place - 1 in
    let next : k + 1 ≡ c.loop-place.place = omega (arith, c.loop-place.auto.place) in
    let fits = c.requires.own_room k (omega (arith, next, c.loop-place-test.true)) in
    let here = ap (offset c.args.shapes.now) next in
    omega (arith, fits, here, c.part-offsets.ensures.len, c.loop-place.invariant.long)

pub loop-place-preserved : goal.loop-place-preserved
loop-place-preserved g c =
    let at = λ (p : g.row.P.Denot). point_of g.P.Coordinate.IntNumber.value (g.P.ContourPoint.point p) in
    let contours = c.args.contours.now in
    let shapes = c.args.shapes.now in
    let place = c.loop-place.place in
    let k = place - 1 in
    let next : k + 1 ≡ place = omega (arith, c.loop-place.auto.place) in
    let count : place ≡ place + 1 - 1 = omega arith in
    let room : k < length c.loop-place.out = omega (arith, next, c.requires.room, c.loop-place.auto.out, c.loop-place-test.true) in
    let Is = IsFaultAt IsFaultOf at (polygon_arrays c.args.points.now contours shapes) in
    let own : c.part-offsets.result.now ≡ slice_range contours (offset shapes k) (offset shapes (k + 1) + 1) =
    c.part-offsets.ensures.part ∙ ap (λ (j : ℕ). slice_range contours (offset shapes k) (offset shapes j + 1)) (sym next) in
    let here : Is k c.fault_of.result = subst (λ (l : List ℕ). IsFaultOf (map at c.args.points.now) l (offset shapes k) c.fault_of.result) own c.fault_of.ensures.is in
    record {
      each = index_more Is c.loop-place.out k (place + 1 - 1) c.fault_of.result (next ∙ count) room c.loop-place.invariant.each here;
      rest = back_more c.loop-place.out c.args.out.now k (place + 1 - 1) c.fault_of.result (sym (next ∙ count)) c.loop-place.invariant.rest;
      long = c.fault_of.ensures.len ∙ c.loop-place.invariant.long;
    }
