use Rattle.std.proofs.Common.{◌-◌, ◌^◌}
use Rattle.i_shape_core.specs.IntPoint.{contour_of}
use Rattle.i_shape_contacts.specs.Contacts.{IsContactBy}
use Rattle.i_shape_contacts.specs.Listing.{ListsContacts, Earlier}
use Rattle.i_shape_contacts.proofs.listing.contacts_by_pairs.Given as goal

abbrev pub invariant-loop-first : goal.invariant-loop-first
invariant-loop-first g l = ListsContacts (2 ^ 64 - 1) (Earlier (IsContactBy (g.C.Course.follows l.course) (contour_of g.P.Coordinate.IntNumber.value (g.P.ContourPoint.points l.points))) l.first 0) l.fn.out l.out l.count
