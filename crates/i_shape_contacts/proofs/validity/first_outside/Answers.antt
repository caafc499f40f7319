use Rattle.std.proofs.Common.{below_more, arith}
use Rattle.i_shape_contacts.proofs.Faults.{not_by_test, least_at}
use Rattle.i_shape_contacts.proofs.validity.first_outside.Goals as goal

pub loop-hole-init : goal.loop-hole-init
loop-hole-init g c = λ k h w. let some = w.is_hole.not_outer in absurd (omega (arith, h))

pub loop-hole-preserved : goal.loop-hole-preserved
loop-hole-preserved g c = below_more _ _ c.loop-hole.invariant (not_by_test _ c.is_outside.ensures c.if-is_outside.false)

pub returns-then-is_outside : goal.returns-then-is_outside
returns-then-is_outside g c = least_at _ _ c.loop-hole.invariant (c.is_outside.ensures.0 c.if-is_outside.true)

pub returns : goal.returns
returns g c = λ k w. let some = w.is_hole.not_outer in let within = w.is_hole.is_ring in let past = c.loop-hole-test.false in c.loop-hole.invariant k (omega arith) w
