use Rattle.std.proofs.Common.{refl, map, subst, MatchOption}
use Rattle.i_shape.specs.IntPoint.{point_of}
use Rattle.i_shape_contacts.specs.Contacts.{IsContact, NoContact, IsFirstContact}
use Rattle.i_shape_c.proofs.Boundary.{copied_points, safe_contour}
use Rattle.i_shape_c.proofs.RingsMoved.{told_contact}
use Rattle.i_shape_c.proofs.contacts.find_contact.Goals as goal

pub first_contact-requires : goal.first_contact-requires
first_contact-requires g c =
    safe_contour g.P.Coordinate.IntNumber.width g.P.Coordinate.IntNumber.value g.P.ContourPoint.point c.args.points.now (g.P.ContourPoint.points c.args.points.now) (g.P.ContourPoint.each c.args.points.now) (c.if-not-are_safe.ensures.0 refl)

pub returns : goal.returns
returns g c =
    let at = λ (p : g.row.P.Denot). point_of g.P.Coordinate.IntNumber.value (g.P.ContourPoint.point p) in
    let same = copied_points g.P.Coordinate.IntNumber.width g.P.Coordinate.IntNumber.value g.P.ContourPoint.point c.args.points.now (g.P.ContourPoint.points c.args.points.now) (g.P.ContourPoint.each c.args.points.now) in
    let found = subst (λ list. MatchOption c.first_contact.result (NoContact (IsContact list)) (λ it. IsFirstContact (IsContact list) it.first it.second)) same c.first_contact.ensures in
    let told = told_contact (tt, c.if-out-lt-PLACES.false, c.if-not-are_safe.ensures.0 refl) (IsContact (map at c.args.points.now)) c.first_contact.result c.args.out.now c.write_contact.new.out c.write_contact.result found c.write_contact.ensures in
    record { answer = told.0; refuses = told.1 }
