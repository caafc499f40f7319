use Rattle.std.proofs.Common.{ℕ, ◌-◌, ◌^◌, subst, sym}
use Rattle.i_shape_core.specs.IntPoint.{contour_of}
use Rattle.i_shape_core.proofs.Plane.PointLists.{read-length}
use Rattle.i_shape_contacts.specs.Contacts.{IsContactBy, IsNext}
use Rattle.i_shape_contacts.specs.Listing.{ListsContacts}
use Rattle.i_shape_contacts.proofs.contacts.Goals as goal

pub returns : goal.returns
returns g c =
    let value = g.P.Coordinate.IntNumber.value in
    let list = contour_of value (g.P.ContourPoint.points c.args.contour.now) in
    let count = read-length value g.P.ContourPoint.point g.P.ContourPoint.points g.P.ContourPoint.each c.args.contour.now in
    subst (λ (n : ℕ). ListsContacts (2 ^ 64 - 1) (IsContactBy (IsNext n) list) c.args.out.now c.contacts_by.new.out c.contacts_by.result) (sym count) c.contacts_by.ensures
