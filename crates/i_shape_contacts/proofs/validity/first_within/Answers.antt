use Rattle.std.proofs.Common.{arith}
use Rattle.i_shape_contacts.proofs.ContactTests.{none_more}
use Rattle.i_shape_contacts.proofs.validity.first_within.Goals as goal

pub loop-hole-init : goal.loop-hole-init
loop-hole-init g c = λ k j h w. let some = w.is_hole.not_outer in absurd (omega (arith, h))

pub loop-hole-preserved : goal.loop-hole-preserved
loop-hole-preserved g c = none_more _ _ c.loop-hole.invariant c.in_default.ensures

pub returns-in-Some : goal.returns-in-Some
returns-in-Some g c = record { first_other = c.in-Some.ensures; none_before = λ i l h w. c.loop-hole.invariant i l h w }

pub returns : goal.returns
returns g c = λ k j w. let some = w.is_hole.not_outer in let within = w.is_hole.is_ring in let past = c.loop-hole-test.false in c.loop-hole.invariant k j (omega arith) w

pub first_around-requires-clause-are_blocks : goal.first_around-requires-clause-are_blocks
first_around-requires-clause-are_blocks g c = λ m d h l. rw c.deref.ensures.value (c.blocks_if_memory-blocks.ensures m d h (rw c.deref.ensures.value at l))
