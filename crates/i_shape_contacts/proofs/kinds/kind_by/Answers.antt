use Rattle.std.proofs.Common.{◌≡◌, ℕ, subst, arith}
use Rattle.i_shape_core.specs.IntPoint.{contour_of}
use Rattle.i_shape_core.specs.Contour.{point_at}
use Rattle.i_shape_core.proofs.Plane.PointLists.{read-length}
use Rattle.i_shape_contacts.specs.Meeting.{Meet}
use Rattle.i_shape_contacts.specs.Kinds.{DoCross, DoTouch, DoOverlap}
use Rattle.i_shape_contacts.proofs.ContactTests.{share_meets}
use Rattle.i_shape_contacts.proofs.EdgeKinds.{edges_lie}
use Rattle.i_shape_contacts.proofs.kinds.kind_by.Goals as goal

pub next-next-requires-clause-within : goal.next-next-requires-clause-within
next-next-requires-clause-within g c =
    let within = c.requires.contact.within in
    let order = c.requires.contact.order in
    let count = read-length g.P.Coordinate.IntNumber.value g.P.ContourPoint.point g.P.ContourPoint.points g.P.ContourPoint.each c.args.points.now in
    omega (arith, within, order, count, c.requires.count)

pub next-after-requires-clause-within : goal.next-after-requires-clause-within
next-after-requires-clause-within g c =
    let within = c.requires.contact.within in
    let order = c.requires.contact.order in
    let count = read-length g.P.Coordinate.IntNumber.value g.P.ContourPoint.point g.P.ContourPoint.points g.P.ContourPoint.each c.args.points.now in
    omega (arith, within, order, count, c.requires.count)

pub point_of_place-a-requires-clause-within : goal.point_of_place-a-requires-clause-within
point_of_place-a-requires-clause-within g c =
    let within = c.requires.contact.within in
    let order = c.requires.contact.order in
    let count = read-length g.P.Coordinate.IntNumber.value g.P.ContourPoint.point g.P.ContourPoint.points g.P.ContourPoint.each c.args.points.now in
    omega (arith, within, order, count)

pub point_of_place-c-requires-clause-within : goal.point_of_place-c-requires-clause-within
point_of_place-c-requires-clause-within g c =
    let within = c.requires.contact.within in
    let order = c.requires.contact.order in
    let count = read-length g.P.Coordinate.IntNumber.value g.P.ContourPoint.point g.P.ContourPoint.points g.P.ContourPoint.each c.args.points.now in
    omega (arith, within, order, count)

pub kind_of-requires-clause-meet : goal.kind_of-requires-clause-meet
kind_of-requires-clause-meet g c =
    let value = g.P.Coordinate.IntNumber.value in
    let list = contour_of value (g.P.ContourPoint.points c.args.points.now) in
    let i = c.args.contact.first in
    let j = c.args.contact.second in
    let h = c.requires.contact in
    let first : h.first_end ≡ c.next-next.result = c.next-next.ensures.only h.first_end h.first_follows in
    let second : h.second_end ≡ c.next-after.result = c.next-after.ensures.only h.second_end h.second_follows in
    let meet : Meet (point_at list i) (point_at list c.next-next.result) (point_at list j) (point_at list c.next-after.result) = subst (λ (m : ℕ). Meet (point_at list i) (point_at list c.next-next.result) (point_at list j) (point_at list m)) second (subst (λ (m : ℕ). Meet (point_at list i) (point_at list m) (point_at list j) (point_at list h.second_end)) first (share_meets list i h.first_end j h.second_end h.shared)) in
    rw (c.point_of_place-a.ensures.at, c.point_of_place-b.ensures.at, c.point_of_place-c.ensures.at, c.point_of_place-e.ensures.at) meet

pub returns : goal.returns
returns g c =
    let value = g.P.Coordinate.IntNumber.value in
    let list = contour_of value (g.P.ContourPoint.points c.args.points.now) in
    let follows = g.C.Course.follows c.args.course in
    let kind = c.kind_of.ensures in
    record {
      crossing = edges_lie DoCross follows list c.args.contact.first c.next-next.result c.args.contact.second c.next-after.result _ c.next-next.ensures.is c.next-after.ensures.is c.next-next.ensures.only c.next-after.ensures.only
          (rw (c.point_of_place-a.ensures.at, c.point_of_place-b.ensures.at, c.point_of_place-c.ensures.at, c.point_of_place-e.ensures.at) at kind.crossing);
      touch = edges_lie DoTouch follows list c.args.contact.first c.next-next.result c.args.contact.second c.next-after.result _ c.next-next.ensures.is c.next-after.ensures.is c.next-next.ensures.only c.next-after.ensures.only
          (rw (c.point_of_place-a.ensures.at, c.point_of_place-b.ensures.at, c.point_of_place-c.ensures.at, c.point_of_place-e.ensures.at) at kind.touch);
      overlap = edges_lie DoOverlap follows list c.args.contact.first c.next-next.result c.args.contact.second c.next-after.result _ c.next-next.ensures.is c.next-after.ensures.is c.next-next.ensures.only c.next-after.ensures.only
          (rw (c.point_of_place-a.ensures.at, c.point_of_place-b.ensures.at, c.point_of_place-c.ensures.at, c.point_of_place-e.ensures.at) at kind.overlap);
    }
