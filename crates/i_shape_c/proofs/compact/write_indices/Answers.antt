use Rattle.std.proofs.Common.{◌≡◌, ◌+◌, ◌-◌, ◌≤◌, ◌∙◌, length, sym, arith}
use Rattle.i_shape_c.specs.Batch.{offset}
use Rattle.i_shape_core.proofs.Lists.Rings.{rises_to}
use Rattle.i_shape_c.proofs.Compacted.{begun_collapsed, begun_more, begun_all}
use Rattle.i_shape_c.proofs.compact.write_indices.Goals as goal

pub loop-shape-preserved-then-not-is_left : goal.loop-shape-preserved-then-not-is_left
loop-shape-preserved-then-not-is_left c =
    let k = c.loop-shape.shape in
    begun_collapsed c.args.contours.now c.args.shapes.now _ k _ _ _ c.loop-shape.invariant (sym c.is_left.ensures ∙ c.if-not-is_left.true) (c.requires.parted.order k (omega (arith, c.loop-shape-test.true)))

pub append_contours-end-requires-clause-within : goal.append_contours-end-requires-clause-within
append_contours-end-requires-clause-within c =
    let shapes = c.args.shapes.now in
    let up = rises_to shapes (length shapes) (c.loop-shape.shape + 1) (length shapes - 1) c.requires.parted.order (omega (arith, c.loop-shape-test.true)) (omega (arith, c.loop-shape-test.true)) in
    omega (arith, up, c.requires.parted.last, c.requires.some)

pub append_contours-end-requires-clause-room : goal.append_contours-end-requires-clause-room
append_contours-end-requires-clause-room c =
    let shapes = c.args.shapes.now in
    let k = c.loop-shape.shape in
    let up = rises_to shapes (length shapes) (k + 1) (length shapes - 1) c.requires.parted.order (omega (arith, c.loop-shape-test.true)) (omega (arith, c.loop-shape-test.true)) in
    let here : offset shapes k ≤ offset shapes (k + 1) = c.requires.parted.order k (omega (arith, c.loop-shape-test.true)) in
    omega (arith, up, here, c.requires.parted.last, c.loop-shape.invariant.fewer_contours, c.requires.room.contours_room, c.loop-shape.auto.out_contours)

pub loop-shape-preserved : goal.loop-shape-preserved
loop-shape-preserved c =
    let inv = c.loop-shape.invariant in
    let step = c.append_contours-end.ensures in
    let room = c.requires.room in
    rw step.count (begun_more c.args.contours.now c.args.shapes.now _ c.loop-shape.shape _ _ c.loop-shape.end c.loop-shape.count inv (sym c.is_left.ensures ∙ c.if-not-is_left.false) step.put c.append_contours-end.auto.out
    (omega (arith, inv.fewer_shapes, room.offsets_room, c.loop-shape-test.true)) (omega (arith, inv.fewer_shapes, room.shapes_room, c.loop-shape-test.true)) (rw step.count at step.fewer))

pub returns : goal.returns
returns c =
    let last : c.loop-shape.shape ≡ length c.args.shapes.now - 1 = omega (arith, c.loop-shape-test.false, c.loop-shape.auto.shape-end) in
    begun_all c.args.contours.now c.args.shapes.now _ _ c.loop-shape.end c.loop-shape.count (rw last at c.loop-shape.invariant) (omega (arith, c.requires.room.offsets_room, c.requires.parted.some))
