use Rattle.std.proofs.Common.{◌≡◌, ◌↔◌, List, Bool, true, false, not, Option, None, Some, IsTrue, arith, refl, MatchOption}
use Rattle.std.specs.Option.{is_some}
use Rattle.i_shape_core.specs.Point.{Point}
use Rattle.i_shape_core.proofs.Plane.PointLists.{read-length}
use Rattle.i_shape_contacts.specs.Contacts.{IsContact, NoContact, IsFirstContact}
use Rattle.i_shape_contacts.specs.declared.plain.Contact.{Contact}
use Rattle.i_shape_contacts.proofs.is_simple_polygon.Goals as goal

pub returns-then-contour-lt3 : goal.returns-then-contour-lt3
returns-then-contour-lt3 g c =
    let count = read-length g.P.Coordinate.IntNumber.value g.P.ContourPoint.point g.P.ContourPoint.points g.P.ContourPoint.each c.args.contour.now in
    let few = c.if-contour-lt3.true in
    (λ t. absurd (cc), λ w. let enough = w.enough in absurd (omega (arith, count)))

pub returns-then-are_all_equal : goal.returns-then-are_all_equal
returns-then-are_all_equal g c = (λ t. absurd (cc), λ w. absurd (w.differ (c.are_all_equal.ensures.0 c.if-are_all_equal.true)))

-- no contact is found exactly where there is none
none_found : (c : List Point) (found : Option Contact) (is_none : Bool) → is_some found ≡ not is_none → MatchOption found (NoContact (IsContact c)) (λ it. IsFirstContact (IsContact c) it.first it.second) → IsTrue is_none ↔ NoContact (IsContact c)
none_found c None true e none = (λ t. none, λ w. refl)
none_found c None false e none = absurd (cc)
none_found c (Some it) true e first = absurd (cc)
none_found c (Some it) false e first = (λ t. absurd (cc), λ w. absurd (w.none _ _ first.first.contact))

pub returns : goal.returns
returns g c =
    let count = read-length g.P.Coordinate.IntNumber.value g.P.ContourPoint.point g.P.ContourPoint.points g.P.ContourPoint.each c.args.contour.now in
    let enough = c.if-contour-lt3.false in
    let none = none_found _ c.first_contact.result c.is_none.result c.is_none.ensures c.first_contact.ensures in (
      λ t. record {
        enough = omega (arith, count);
        differ = λ all. let e : IsTrue c.are_all_equal.result = c.are_all_equal.ensures.1 all in let f = c.if-are_all_equal.false in absurd (cc);
        none = none.0 t;
      },
      λ w. none.1 w.none,
    )
