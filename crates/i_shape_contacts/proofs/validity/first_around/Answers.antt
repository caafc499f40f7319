use Rattle.std.proofs.Common.{below_more, arith}
use Rattle.i_shape_core.specs.IntPoint.{contour_of}
use Rattle.i_shape_contacts.proofs.Faults.{divides_read, not_by_test, least_at}
use Rattle.i_shape_contacts.proofs.RingBoxes.{none_passed}
use Rattle.i_shape_contacts.proofs.validity.first_around.Goals as goal

pub loop-other-init : goal.loop-other-init
loop-other-init g c = record {
  past = omega arith;
  none = λ j h w. let some = w.other_is_hole.not_outer in absurd (omega (arith, h, some));
}

pub loop-other-preserved : goal.loop-other-preserved
loop-other-preserved g c = record {
  past = omega arith;
  none = below_more _ _ c.loop-other.invariant.none (not_by_test _ c.is_within.ensures c.if-is_within.false);
}

pub loop-other-preserved-then-other-next : goal.loop-other-preserved-then-other-next
loop-other-preserved-then-other-next g c =
    let value = g.P.Coordinate.IntNumber.value in
    let points = g.P.ContourPoint.points in
    let divides = divides_read value g.P.ContourPoint.point points g.P.ContourPoint.each c.args.points.now c.args.offsets.now c.requires.divides in
    let further = c.if-other-next.true in
    record {
      past = omega (arith, further);
      none = none_passed value c.args.offsets.now (contour_of value (points c.args.points.now)) divides c.requires.whole c.requires.clear c.args.blocks.now c.args.hole c.loop-other.other c.next_beside-next.result c.requires.are_blocks c.next_beside-next.ensures c.loop-other.invariant.none;
    }

pub returns-then-is_within : goal.returns-then-is_within
returns-then-is_within g c = least_at _ _ c.loop-other.invariant.none (c.is_within.ensures.0 c.if-is_within.true)

pub returns : goal.returns
returns g c = λ j w. let within = w.other_is_hole.is_ring in let past = c.loop-other-test.false in c.loop-other.invariant.none j (omega (arith, within, past)) w
