use Rattle.std.proofs.Common.{below_more, arith}
use Rattle.i_shape_contacts.proofs.Faults.{not_by_test}
use Rattle.i_shape_touching.proofs.nesting.lies_within_any.Goals as goal

pub loop-other-init : goal.loop-other-init
loop-other-init g c = λ j h w. let some = w.other_is_hole.not_outer in absurd (omega (arith, h, some))

pub loop-other-preserved : goal.loop-other-preserved
loop-other-preserved g c = below_more _ _ c.loop-other.invariant (not_by_test _ c.lies_within.ensures c.if-lies_within.false)
