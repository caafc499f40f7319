use Rattle.std.proofs.Common.{◌↔◌, IsTrue, Bool, true, false, not, refl}
use Rattle.i_shape_core.specs.IntPoint.{contour_of}
use Rattle.i_shape_core.proofs.Plane.PointLists.{read-length}
use Rattle.i_shape_contacts.proofs.ContactTests.{share_next, share_round, share_apart, share_both, contact_shared}
use Rattle.i_shape_contacts.proofs.plain.are_in_contact.Goals as goal

-- what a test of the points at these places means
both : {P Q R : Type 0} → P ↔ Q → Q ↔ R → P ↔ R
both f g = (λ p. g.0 (f.0 p), λ r. f.1 (g.1 r))

differ : (b : Bool) (P : Type 0) → IsTrue b ↔ P → IsTrue (not b) ↔ (P → ⊥)
differ true P h = (λ t. absurd (cc), λ none. absurd (none (h.0 refl)))
differ false P h = (λ t p. let f : IsTrue false = h.1 p in absurd (cc), λ none. refl)

pub returns-then-after-first : goal.returns-then-after-first
returns-then-after-first g c =
    let value = g.P.Coordinate.IntNumber.value in
    let list = contour_of value (g.P.ContourPoint.points c.args.points.now) in
    let count = read-length value g.P.ContourPoint.point g.P.ContourPoint.points g.P.ContourPoint.each c.args.points.now in
    let same = rw (c.point_of_place-a.ensures.at, c.point_of_place-c.ensures.at) at c.are_equal.ensures in
    contact_shared list (g.C.Course.follows c.args.course) c.args.first c.next-next.result c.args.second c.next-after.result _ c.requires.order (rw count c.requires.within) c.next-next.ensures.is c.next-after.ensures.is c.next-next.ensures.only c.next-after.ensures.only (both (differ c.are_equal.result _ same) (share_both list c.args.first c.next-next.result c.args.second c.next-after.result c.if-next-second.true c.if-after-first.true))

pub returns-else-after-first : goal.returns-else-after-first
returns-else-after-first g c =
    let value = g.P.Coordinate.IntNumber.value in
    let list = contour_of value (g.P.ContourPoint.points c.args.points.now) in
    let count = read-length value g.P.ContourPoint.point g.P.ContourPoint.points g.P.ContourPoint.each c.args.points.now in
    let same = rw (c.point_of_place-a.ensures.at, c.point_of_place-c.ensures.at, c.point_of_place-e.ensures.at) at c.do_meet_again.ensures in
    contact_shared list (g.C.Course.follows c.args.course) c.args.first c.next-next.result c.args.second c.next-after.result _ c.requires.order (rw count c.requires.within) c.next-next.ensures.is c.next-after.ensures.is c.next-next.ensures.only c.next-after.ensures.only (both same (share_next list c.args.first c.next-next.result c.args.second c.next-after.result c.if-next-second.true c.if-after-first.false))

pub returns-then-after-first-2 : goal.returns-then-after-first-2
returns-then-after-first-2 g c =
    let value = g.P.Coordinate.IntNumber.value in
    let list = contour_of value (g.P.ContourPoint.points c.args.points.now) in
    let count = read-length value g.P.ContourPoint.point g.P.ContourPoint.points g.P.ContourPoint.each c.args.points.now in
    let same = rw (c.point_of_place-c.ensures.at, c.point_of_place-a.ensures.at, c.point_of_place-b.ensures.at) at c.do_meet_again-then-after-first-2.ensures in
    contact_shared list (g.C.Course.follows c.args.course) c.args.first c.next-next.result c.args.second c.next-after.result _ c.requires.order (rw count c.requires.within) c.next-next.ensures.is c.next-after.ensures.is c.next-next.ensures.only c.next-after.ensures.only (both same (share_round list c.args.first c.next-next.result c.args.second c.next-after.result c.if-next-second.false c.if-after-first-2.true))

pub returns-else-after-first-2 : goal.returns-else-after-first-2
returns-else-after-first-2 g c =
    let value = g.P.Coordinate.IntNumber.value in
    let list = contour_of value (g.P.ContourPoint.points c.args.points.now) in
    let count = read-length value g.P.ContourPoint.point g.P.ContourPoint.points g.P.ContourPoint.each c.args.points.now in
    let same = rw (c.point_of_place-a.ensures.at, c.point_of_place-b.ensures.at, c.point_of_place-c.ensures.at, c.point_of_place-e.ensures.at) at c.do_meet.ensures in
    contact_shared list (g.C.Course.follows c.args.course) c.args.first c.next-next.result c.args.second c.next-after.result _ c.requires.order (rw count c.requires.within) c.next-next.ensures.is c.next-after.ensures.is c.next-next.ensures.only c.next-after.ensures.only (both same (share_apart list c.args.first c.next-next.result c.args.second c.next-after.result c.if-next-second.false c.if-after-first-2.false))
