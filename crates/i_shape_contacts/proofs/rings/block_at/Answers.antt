use Rattle.std.proofs.Common.{◌≡◌, ◌<◌, length, arith, subst, sym, ap, All}
use Rattle.i_shape_core.specs.IntPoint.{contour_of}
use Rattle.i_shape_core.proofs.Plane.PointLists.{read-length}
use Rattle.i_shape_contacts.specs.Steps.Boxes.{Holds}
use Rattle.i_shape_contacts.specs.Steps.Rings.{HoldsRing, IsRingBlock}
use Rattle.i_shape_contacts.proofs.RingBoxes.{rings_joined}
use Rattle.i_shape_contacts.proofs.rings.block_at.Goals as goal

pub bounds_of_ring-own-requires-clause-some : goal.bounds_of_ring-own-requires-clause-some
bounds_of_ring-own-requires-clause-some g c =
    let count = read-length g.P.Coordinate.IntNumber.value g.P.ContourPoint.point g.P.ContourPoint.points g.P.ContourPoint.each c.ring_at.result.now in
    omega (arith, count, c.requires.full c.args.ring c.requires.within, ap length c.ring_at.ensures.is)

pub loop-next-init : goal.loop-next-init
loop-next-init g c =
    let value = g.P.Coordinate.IntNumber.value in
    let list = contour_of value (g.P.ContourPoint.points c.args.points.now) in
    let own = subst (All (Holds value c.bounds_of_ring-own.result)) c.ring_at.ensures.is c.bounds_of_ring-own.ensures in
    record {
      further = omega arith;
      holds = λ j h l inside. let here : c.args.ring ≡ j = omega (arith, h, l) in subst (HoldsRing value c.args.offsets.now list c.bounds_of_ring-own.result) here own;
    }

pub loop-next-preserved : goal.loop-next-preserved
loop-next-preserved g c =
    let value = g.P.Coordinate.IntNumber.value in
    let list = contour_of value (g.P.ContourPoint.points c.args.points.now) in
    let next = c.loop-next.next in
    let past = c.loop-next.invariant.further in
    let within : next < length c.args.blocks.now = omega arith in
    let block : IsRingBlock value c.args.offsets.now list next c.index-blocks-next.result = subst (IsRingBlock value c.args.offsets.now list next) (sym c.index-blocks-next.is) (c.requires.later next c.index-blocks-next.result (omega (arith, past)) within) in
    let further = block.further in
    record {
      further = omega (arith, past, further);
      holds = rings_joined value c.args.offsets.now list c.loop-next.bounds c.index-blocks-next.result.bounds c.joined-bounds.result c.args.ring next c.index-blocks-next.result.next c.joined-bounds.ensures.first c.joined-bounds.ensures.second c.loop-next.invariant.holds block.holds;
    }

pub loop-next-smaller : goal.loop-next-smaller
loop-next-smaller g c =
    let value = g.P.Coordinate.IntNumber.value in
    let list = contour_of value (g.P.ContourPoint.points c.args.points.now) in
    let next = c.loop-next.next in
    let past = c.loop-next.invariant.further in
    let within : next < length c.args.blocks.now = omega arith in
    let block : IsRingBlock value c.args.offsets.now list next c.index-blocks-next.result = subst (IsRingBlock value c.args.offsets.now list next) (sym c.index-blocks-next.is) (c.requires.later next c.index-blocks-next.result (omega (arith, past)) within) in
    let further = block.further in
    omega (arith, further)

pub returns : goal.returns
returns g c = record {
  further = c.loop-next.invariant.further;
  own = subst (All (Holds g.P.Coordinate.IntNumber.value c.bounds_of_ring-own.result)) c.ring_at.ensures.is c.bounds_of_ring-own.ensures;
  holds = c.loop-next.invariant.holds;
}
