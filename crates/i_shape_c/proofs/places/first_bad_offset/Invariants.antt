use Rattle.i_shape_c.proofs.Batches.{AreRead}
use Rattle.i_shape_c.proofs.places.first_bad_offset.Given as goal

abbrev pub invariant-loop-place : goal.invariant-loop-place
invariant-loop-place l = AreRead l.points l.offsets l.place l.before
