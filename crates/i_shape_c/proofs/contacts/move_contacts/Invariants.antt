use Rattle.std.proofs.Common.{◌≡◌, ◌++◌, map, take, drop}
use Rattle.i_shape_c.specs.Contacts.{moved_contact}
use Rattle.i_shape_c.proofs.contacts.move_contacts.Given as goal

abbrev pub invariant-loop-place : goal.invariant-loop-place
invariant-loop-place l = l.contacts ≡ map (moved_contact l.start) (take l.place l.fn.contacts) ++ drop l.place l.fn.contacts
