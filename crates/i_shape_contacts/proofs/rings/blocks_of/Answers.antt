use Rattle.std.proofs.Common.{◌≡◌, ◌-◌, length, arith, rules, ap, length-set}
use Rattle.i_shape_core.specs.IntPoint.{contour_of}
use Rattle.i_shape_core.proofs.Plane.PointLists.{read-length}
use Rattle.i_shape_contacts.proofs.RingBoxes.{one_ring_block}
use Rattle.i_shape_contacts.proofs.rings.blocks_of.Goals as goal

pub bounds_of_ring-bounds-requires-clause-some : goal.bounds_of_ring-bounds-requires-clause-some
bounds_of_ring-bounds-requires-clause-some g c =
    let count = read-length g.P.Coordinate.IntNumber.value g.P.ContourPoint.point g.P.ContourPoint.points g.P.ContourPoint.each c.ring_at.result.now in
    omega (arith, count, c.requires.full 0 c.requires.some, ap length c.ring_at.ensures.is)

pub loop-ring-init : goal.loop-ring-init
loop-ring-init g c =
    let some = c.requires.some in
    let many : length c.in_ok-blocks.blocks.items ≡ length c.args.offsets.now - 1 = search rules in
    record {
      few = omega (arith, some);
      within = omega (arith, many);
      blocks = λ m d h l. absurd (omega (arith, h, l, many));
    }

pub loop-ring-preserved : goal.loop-ring-preserved
loop-ring-preserved g c =
    let some = c.loop-ring-test.true in
    let few = c.loop-ring.invariant.few in
    let most = c.loop-ring.invariant.within in
    let same = length-set c.loop-ring.blocks.items (c.loop-ring.ring - 1) c.block_at.result in
    let list = contour_of g.P.Coordinate.IntNumber.value (g.P.ContourPoint.points c.args.points.now) in
    record {
      few = omega (arith, few);
      within = omega (arith, most, same);
      blocks = one_ring_block g.P.Coordinate.IntNumber.value c.args.offsets.now list c.loop-ring.ring (c.loop-ring.ring - 1) c.loop-ring.blocks.items c.block_at.result (omega (arith, some)) (omega (arith, some, most)) c.loop-ring.invariant.blocks c.block_at.ensures;
    }

pub block_at-requires-clause-later : goal.block_at-requires-clause-later
block_at-requires-clause-later g c =
    let some = c.loop-ring-test.true in
    λ m d h l. rw c.deref.ensures.value (c.loop-ring.invariant.blocks m d (omega (arith, h, some)) (rw c.deref.ensures.value at l))

pub block_at-requires-clause-within : goal.block_at-requires-clause-within
block_at-requires-clause-within g c =
    let some = c.loop-ring-test.true in
    let few = c.loop-ring.invariant.few in
    omega (arith, some, few)

pub returns : goal.returns
returns g c = λ m d h l. c.loop-ring.invariant.blocks m d (let none = c.loop-ring-test.false in omega (arith, none)) l
