use Rattle.std.proofs.Common.{List, length, ◌<◌, ◌+◌, ◌*◌, ◌-◌, ◌^◌}
use Rattle.i_shape_core.specs.IntPoint.{contour_of}
use Rattle.i_shape_contacts.specs.declared.plain.Contact.{Contact}
use Rattle.i_shape_contacts.specs.Contacts.{IsContactBy}
use Rattle.i_shape_contacts.specs.Listing.{ListsContacts, Earlier}
use Rattle.i_shape_contacts.proofs.listing.contacts_beside.Given as goal

abbrev pub invariant-loop-chunk : goal.invariant-loop-chunk
invariant-loop-chunk g l = record {
  near : l.first + 1 < l.chunk * 8 + 8;
  lists : (old : List Contact)
      → ListsContacts (2 ^ 64 - 1) (Earlier (IsContactBy (g.C.Course.follows l.course) (contour_of g.P.Coordinate.IntNumber.value (g.P.ContourPoint.points l.points))) l.first 0) old l.fn.out l.fn.start
      → ListsContacts (2 ^ 64 - 1) (Earlier (IsContactBy (g.C.Course.follows l.course) (contour_of g.P.Coordinate.IntNumber.value (g.P.ContourPoint.points l.points))) l.first (l.chunk * 8)) old l.out l.count;
}

abbrev pub decreases-loop-chunk : goal.decreases-loop-chunk
decreases-loop-chunk g l = length l.blocks - l.chunk
