use Rattle.std.proofs.Common.{List, ◌≤◌, ◌-◌, ◌^◌}
use Rattle.i_shape_core.specs.IntPoint.{contour_of}
use Rattle.i_shape_contacts.specs.declared.plain.Contact.{Contact}
use Rattle.i_shape_contacts.specs.Contacts.{IsContactBy}
use Rattle.i_shape_contacts.specs.Listing.{ListsContacts, Earlier}
use Rattle.i_shape_contacts.proofs.listing.contacts_between.Given as goal

abbrev pub invariant-loop-second : goal.invariant-loop-second
invariant-loop-second g l = record {
  most : l.second ≤ l.to;
  lists : (old : List Contact)
      → ListsContacts (2 ^ 64 - 1) (Earlier (IsContactBy (g.C.Course.follows l.course) (contour_of g.P.Coordinate.IntNumber.value (g.P.ContourPoint.points l.points))) l.first l.from) old l.fn.out l.fn.start
      → ListsContacts (2 ^ 64 - 1) (Earlier (IsContactBy (g.C.Course.follows l.course) (contour_of g.P.Coordinate.IntNumber.value (g.P.ContourPoint.points l.points))) l.first l.second) old l.out l.count;
}
