use Rattle.std.proofs.Common.{ℕ, subst, sym, MatchOption}
use Rattle.i_shape_core.specs.IntPoint.{contour_of}
use Rattle.i_shape_core.proofs.Plane.PointLists.{read-length}
use Rattle.i_shape_contacts.specs.Contacts.{IsContactBy, IsNext, NoContact, IsFirstContact}
use Rattle.i_shape_contacts.proofs.first_contact.Goals as goal

pub returns : goal.returns
returns g c =
    let value = g.P.Coordinate.IntNumber.value in
    let list = contour_of value (g.P.ContourPoint.points c.args.contour.now) in
    let count = read-length value g.P.ContourPoint.point g.P.ContourPoint.points g.P.ContourPoint.each c.args.contour.now in
    subst (λ (n : ℕ). MatchOption c.first_contact_by.result (NoContact (IsContactBy (IsNext n) list)) (λ it. IsFirstContact (IsContactBy (IsNext n) list) it.first it.second)) (sym count) c.first_contact_by.ensures
