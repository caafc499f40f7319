use Rattle.i_shape_c.specs.Contacts.{AreRebased}
use Rattle.i_shape_c.proofs.contacts.rebased.Given as goal

abbrev pub invariant-loop-place : goal.invariant-loop-place
invariant-loop-place l = AreRebased l.offsets l.own.items l.place
