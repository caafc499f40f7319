use Rattle.std.proofs.Common.{◌≡◌, ◌↔◌, ℕ, subst, sym}
use Rattle.i_shape_core.specs.IntPoint.{contour_of}
use Rattle.i_shape_core.proofs.Plane.PointLists.{read-length}
use Rattle.i_shape_contacts.specs.Contacts.{IsContactBy, IsNext}
use Rattle.i_shape_contacts.specs.Kinds.{DoCross, DoTouch, DoOverlap, EdgesLie}
use Rattle.i_shape_contacts.specs.declared.kinds.ContactKind.TheVariants.{Crossing, Touch, Overlap}
use Rattle.i_shape_contacts.proofs.kind_of_contact.Goals as goal

pub kind_by-requires-clause-contact : goal.kind_by-requires-clause-contact
kind_by-requires-clause-contact g c =
    let value = g.P.Coordinate.IntNumber.value in
    let list = contour_of value (g.P.ContourPoint.points c.args.contour.now) in
    let count = read-length value g.P.ContourPoint.point g.P.ContourPoint.points g.P.ContourPoint.each c.args.contour.now in
    subst (λ (n : ℕ). IsContactBy (IsNext n) list c.args.contact.first c.args.contact.second) count c.requires.contact

pub returns : goal.returns
returns g c =
    let value = g.P.Coordinate.IntNumber.value in
    let list = contour_of value (g.P.ContourPoint.points c.args.contour.now) in
    let count = read-length value g.P.ContourPoint.point g.P.ContourPoint.points g.P.ContourPoint.each c.args.contour.now in
    let i = c.args.contact.first in
    let j = c.args.contact.second in
    record {
      crossing = subst (λ (n : ℕ). (c.kind_by.result ≡ Crossing) ↔ EdgesLie DoCross (IsNext n) list i j) (sym count) c.kind_by.ensures.crossing;
      touch = subst (λ (n : ℕ). (c.kind_by.result ≡ Touch) ↔ EdgesLie DoTouch (IsNext n) list i j) (sym count) c.kind_by.ensures.touch;
      overlap = subst (λ (n : ℕ). (c.kind_by.result ≡ Overlap) ↔ EdgesLie DoOverlap (IsNext n) list i j) (sym count) c.kind_by.ensures.overlap;
    }
