use Rattle.std.proofs.Common.{below_more, arith}
use Rattle.i_shape_contacts.proofs.Faults.{not_by_test, least_at, degenerate_at}
use Rattle.i_shape_contacts.proofs.validity.first_degenerate.Goals as goal

pub loop-ring-init : goal.loop-ring-init
loop-ring-init g c = λ k h w. absurd (omega (arith, h))

pub loop-ring-preserved : goal.loop-ring-preserved
loop-ring-preserved g c = below_more _ _ c.loop-ring.invariant (not_by_test _ (degenerate_at _ _ _ _ _ c.ring_at.ensures.is c.is_degenerate.ensures (omega arith)) c.if-is_degenerate.false)

pub returns-then-is_degenerate : goal.returns-then-is_degenerate
returns-then-is_degenerate g c = least_at _ _ c.loop-ring.invariant ((degenerate_at _ _ _ _ _ c.ring_at.ensures.is c.is_degenerate.ensures (omega arith)).0 c.if-is_degenerate.true)

pub returns : goal.returns
returns g c = λ k w. let within = w.is_ring in let past = c.loop-ring-test.false in c.loop-ring.invariant k (omega arith) w
