use Rattle.i_shape_core.specs.Rings.{AreRising}
use Rattle.i_shape_contacts.proofs.course.are_rising.Given as goal

abbrev pub invariant-loop-place : goal.invariant-loop-place
invariant-loop-place l = AreRising l.offsets l.place
