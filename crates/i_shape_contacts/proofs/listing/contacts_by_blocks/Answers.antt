use Rattle.std.proofs.Common.{arith}
use Rattle.i_shape_core.proofs.Plane.PointLists.{read-length}
use Rattle.i_shape_contacts.proofs.AllContacts.{none_earlier, all_earlier, none_written}
use Rattle.i_shape_contacts.proofs.listing.contacts_by_blocks.Goals as goal

pub loop-first-init : goal.loop-first-init
loop-first-init g c = record { contacts = _; are = none_earlier _; are_written = none_written _ }

pub loop-first-preserved : goal.loop-first-preserved
loop-first-preserved g c = c.contacts_beside-count.ensures c.args.out.now c.loop-first.invariant

pub returns : goal.returns
returns g c =
    let count = read-length g.P.Coordinate.IntNumber.value g.P.ContourPoint.point g.P.ContourPoint.points g.P.ContourPoint.each c.args.points.now in
    let past = c.loop-first-test.false in
    let listed = c.loop-first.invariant in
    record {
      contacts = listed.contacts;
      are = all_earlier _ c.loop-first.first listed.contacts (λ k l t. let order = t.order in let within = t.within in omega (arith, count, past, order, within)) listed.are;
      are_written = listed.are_written;
    }
