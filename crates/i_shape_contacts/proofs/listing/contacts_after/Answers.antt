use Rattle.std.proofs.Common.{arith}
use Rattle.i_shape_core.proofs.Plane.PointLists.{read-length}
use Rattle.i_shape_contacts.proofs.AllContacts.{row_started, row_ended}
use Rattle.i_shape_contacts.proofs.listing.contacts_after.Goals as goal

pub returns : goal.returns
returns g c = λ old h.
    let count = read-length g.P.Coordinate.IntNumber.value g.P.ContourPoint.point g.P.ContourPoint.points g.P.ContourPoint.each c.args.points.now in
    let listed = c.contacts_between.ensures old (record { contacts = h.contacts; are = row_started _ c.args.first h.contacts (λ k l t. t.order) h.are; are_written = h.are_written }) in
    record {
      contacts = listed.contacts;
      are = row_ended _ c.args.first _ listed.contacts (λ k l t. let within = t.within in omega (arith, count, within)) listed.are;
      are_written = listed.are_written;
    }
