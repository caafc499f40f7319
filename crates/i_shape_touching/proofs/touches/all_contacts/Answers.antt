use Rattle.std.proofs.Common.{◌<◌, ◌-◌, ◌^◌, length, drop, arith}
use Rattle.i_shape_core.specs.IntPoint.{contour_of}
use Rattle.i_shape_contacts.specs.Contacts.{IsRingContact}
use Rattle.i_shape_touching.proofs.ContactLists.{written_all}
use Rattle.i_shape_touching.proofs.touches.all_contacts.Goals as goal

pub returns : goal.returns
returns g c =
    let made = c.in_ok-contacts.contacts in
    let first = c.contacts_of_rings-count.ensures in
    let second = c.contacts_of_rings.ensures in
    let few = made.small in
    let room = made.ok.1 in
    let small : made.len < 2 ^ 64 - 1 = omega (arith, few, room) in
    let list = contour_of g.P.Coordinate.IntNumber.value (g.P.ContourPoint.points c.args.points.now) in
    written_all (IsRingContact c.args.offsets.now list) first.contacts second.contacts c.deref_mut.result.now c.contacts_of_rings.new.out (drop (length c.contacts_of_rings.new.out) made.items) (2 ^ 64 - 1) c.contacts_of_rings-count.result made.len first.are second.are first.are_written.count c.in_ok-contacts.ensures.len small c.deref_mut.ensures.len second.are_written.written
