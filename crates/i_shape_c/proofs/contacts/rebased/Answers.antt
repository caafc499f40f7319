use Rattle.std.proofs.Common.{length, arith}
use Rattle.i_shape_core.proofs.Lists.Rings.{rises_to}
use Rattle.i_shape_c.proofs.RingsMoved.{rebased_more}
use Rattle.i_shape_c.proofs.contacts.rebased.Goals as goal

pub overflow_sub-offsets : goal.overflow_sub-offsets
overflow_sub-offsets c = rises_to c.args.offsets.now (length c.args.offsets.now) 0 c.loop-place.place c.requires.order (omega arith) (omega (arith, c.loop-place-test.true))

pub loop-place-preserved : goal.loop-place-preserved
loop-place-preserved c =
    let up = rises_to c.args.offsets.now (length c.args.offsets.now) 0 c.loop-place.place c.requires.order (omega arith) (omega (arith, c.loop-place-test.true)) in
    rebased_more _ _ _ _ _ c.in_ok-push.ensures.items c.loop-place.invariant (omega (arith, up))
