use Rattle.std.proofs.Common.{◌≡◌, ◌∙◌, ◌+◌, ◌-◌, ◌<◌, ◌∷◌, [], length, length-append, All, slice_range, ap, sym, subst, arith, rules}
use Rattle.i_shape.specs.IntPoint.{point_of}
use Rattle.i_shape_contacts.specs.Steps.Boxes.{Holds}
use Rattle.i_shape_core.proofs.Lists.Rings.{rises_to}
use Rattle.i_shape_c.specs.Batch.{offset}
use Rattle.i_shape_c.specs.Polygons.{polygon_arrays}
use Rattle.i_shape_c.proofs.Faults.{within}
use Rattle.i_shape_c.proofs.Holding.{boxes_more}
use Rattle.i_shape_c.proofs.holders.boxes_of.Goals as goal

pub offset_bounds-contours-shapes : goal.offset_bounds-contours-shapes
offset_bounds-contours-shapes g c =
    let in_all = within c.args.contours.now c.args.shapes.now (length c.args.points.now) c.loop-place.place c.requires.contours_parted c.requires.shapes_parted (omega arith) c.loop-place-test.true in
    let below : offset c.args.shapes.now (c.loop-place.place - 1) < length c.args.contours.now = omega (arith, in_all.0, in_all.1) in
    search (rules, below)

pub bounds-contours-shapes : goal.bounds-contours-shapes
bounds-contours-shapes g c =
    let in_all = within c.args.contours.now c.args.shapes.now (length c.args.points.now) c.loop-place.place c.requires.contours_parted c.requires.shapes_parted (omega arith) c.loop-place-test.true in
    omega (arith, in_all.0, in_all.1)

pub offset_bounds-contours-shapes-in-loop-place : goal.offset_bounds-contours-shapes-in-loop-place
offset_bounds-contours-shapes-in-loop-place g c =
    let in_all = within c.args.contours.now c.args.shapes.now (length c.args.points.now) c.loop-place.place c.requires.contours_parted c.requires.shapes_parted (omega arith) c.loop-place-test.true in
    let below : offset c.args.shapes.now c.loop-place.place < length c.args.contours.now = omega (arith, in_all.0, in_all.1) in
    search (rules, below)

pub bounds-contours-shapes-in-loop-place : goal.bounds-contours-shapes-in-loop-place
bounds-contours-shapes-in-loop-place g c =
    let in_all = within c.args.contours.now c.args.shapes.now (length c.args.points.now) c.loop-place.place c.requires.contours_parted c.requires.shapes_parted (omega arith) c.loop-place-test.true in
    omega (arith, in_all.0, in_all.1)

pub part-requires-clause-order : goal.part-requires-clause-order
part-requires-clause-order g c =
    let in_all = within c.args.contours.now c.args.shapes.now (length c.args.points.now) c.loop-place.place c.requires.contours_parted c.requires.shapes_parted (omega arith) c.loop-place-test.true in
    rises_to c.args.contours.now (length c.args.contours.now) (offset c.args.shapes.now (c.loop-place.place - 1)) (offset c.args.shapes.now c.loop-place.place) c.requires.contours_parted.order in_all.0 in_all.1

pub part-requires-clause-within : goal.part-requires-clause-within
part-requires-clause-within g c =
    let in_all = within c.args.contours.now c.args.shapes.now (length c.args.points.now) c.loop-place.place c.requires.contours_parted c.requires.shapes_parted (omega arith) c.loop-place-test.true in
    let up = rises_to c.args.contours.now (length c.args.contours.now) (offset c.args.shapes.now c.loop-place.place) (length c.args.contours.now - 1) c.requires.contours_parted.order (omega (arith, in_all.1)) (omega (arith, in_all.1)) in
    omega (arith, up, c.requires.contours_parted.last)

pub loop-place-preserved : goal.loop-place-preserved
loop-place-preserved g c =
    let value = g.P.Coordinate.IntNumber.value in
    let at = λ (p : g.row.P.Denot). point_of value (g.P.ContourPoint.point p) in
    let given = polygon_arrays c.args.points.now c.args.contours.now c.args.shapes.now in
    let place = c.loop-place.place in
    let k = place - 1 in
    let next : k + 1 ≡ place = omega (arith, c.loop-place.auto.place) in
    let own : c.part.result.now ≡ slice_range c.args.points.now (offset c.args.contours.now (offset c.args.shapes.now k)) (offset c.args.contours.now (offset c.args.shapes.now (k + 1))) =
    c.part.ensures.part ∙ ap (λ j. slice_range c.args.points.now (offset c.args.contours.now (offset c.args.shapes.now k)) (offset c.args.contours.now (offset c.args.shapes.now j))) (sym next) in
    let here = subst (All (λ q. Holds value c.bounds_of.result (at q))) own c.bounds_of.ensures in
    let items = c.in_ok-push.ensures.items in
    record {
      count = ap length items ∙ length-append c.loop-place.boxes.items (c.bounds_of.result ∷ []) ∙ (let count = c.loop-place.invariant.count in let more : length c.loop-place.boxes.items + 1 ≡ place + 1 - 1 = omega (arith, count, next) in more);
      boxes = rw items (boxes_more value at given k c.loop-place.boxes.items c.bounds_of.result c.loop-place.invariant.count c.loop-place.invariant.boxes here);
    }
