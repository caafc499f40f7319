use Rattle.std.proofs.Common.{below_more, arith, refl}
use Rattle.i_shape_contacts.proofs.Faults.{not_by_test, least_at}
use Rattle.i_shape_touching.proofs.nesting.first_entered.Goals as goal

pub loop-other-init : goal.loop-other-init
loop-other-init g c = λ j h w. let some = w.other_is_hole.not_outer in absurd (omega (arith, h, some))

pub loop-other-preserved : goal.loop-other-preserved
loop-other-preserved g c = below_more _ _ c.loop-other.invariant (not_by_test _ c.enters.ensures c.if-enters.false)

pub returns-then-enters : goal.returns-then-enters
returns-then-enters g c = record { same = refl; first = least_at _ _ c.loop-other.invariant (c.enters.ensures.0 c.if-enters.true) }

pub returns : goal.returns
returns g c = λ j w. let within = w.other_is_hole.is_ring in let past = c.loop-other-test.false in c.loop-other.invariant j (omega arith) w
