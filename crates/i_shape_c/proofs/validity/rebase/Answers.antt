use Rattle.std.proofs.Common.{◌≡◌, length, take, refl, subst, arith}
use Rattle.i_shape_c.specs.Validity.{rebased}
use Rattle.i_shape_core.proofs.Lists.Rings.{rises_to}
use Rattle.i_shape_c.proofs.Faults.{rebased_more, rebased_all}
use Rattle.i_shape_c.proofs.validity.rebase.Goals as goal

pub overflow_sub-own : goal.overflow_sub-own
overflow_sub-own c = rises_to c.args.offsets.now (length c.args.offsets.now) 0 c.loop-place.place c.requires.parted.order (omega arith) (omega (arith, c.loop-place-test.true))

pub loop-place-preserved : goal.loop-place-preserved
loop-place-preserved c =
    rebased_more c.args.offsets.now c.loop-place.own c.loop-place.place _ c.loop-place-test.true (omega (arith, c.requires.room, c.loop-place.auto.own, c.loop-place-test.true)) c.loop-place.invariant refl

pub returns-clause-written : goal.returns-clause-written
returns-clause-written c =
    let same : c.loop-place.place ≡ length c.args.offsets.now = omega (arith, c.loop-place-test.false, c.loop-place.auto.place-end) in
    rebased_all c.args.offsets.now c.loop-place.own (length c.args.offsets.now) (omega arith) (subst (λ n. take n c.loop-place.own ≡ take n (rebased c.args.offsets.now)) same c.loop-place.invariant)
