use Rattle.std.proofs.Common.{arith}
use Rattle.i_shape_core.specs.IntPoint.{contour_of}
use Rattle.i_shape_core.proofs.Plane.PointLists.{read-length}
use Rattle.i_shape_core.proofs.Walks.Turning.{placed}
use Rattle.i_shape_touching.proofs.TouchPoints.{segments_touch}
use Rattle.i_shape_touching.proofs.touches.touch_of.Goals as goal

pub offset_bounds-points-contact : goal.offset_bounds-points-contact
offset_bounds-points-contact g c =
    let value = g.P.Coordinate.IntNumber.value in
    let list = c.args.points.now in
    let within = c.requires.contact.within in
    let order = c.requires.contact.order in
    let all = c.requires.divides.all in
    let count = read-length value g.P.ContourPoint.point g.P.ContourPoint.points g.P.ContourPoint.each list in
    omega (arith, within, order, count)

pub bounds-points-contact : goal.bounds-points-contact
bounds-points-contact g c =
    let value = g.P.Coordinate.IntNumber.value in
    let list = c.args.points.now in
    let within = c.requires.contact.within in
    let order = c.requires.contact.order in
    let all = c.requires.divides.all in
    let count = read-length value g.P.ContourPoint.point g.P.ContourPoint.points g.P.ContourPoint.each list in
    omega (arith, within, order, count)

pub next-requires-clause-within : goal.next-requires-clause-within
next-requires-clause-within g c =
    let value = g.P.Coordinate.IntNumber.value in
    let list = c.args.points.now in
    let within = c.requires.contact.within in
    let order = c.requires.contact.order in
    let all = c.requires.divides.all in
    let count = read-length value g.P.ContourPoint.point g.P.ContourPoint.points g.P.ContourPoint.each list in
    omega (arith, within, order, count, all)

pub offset_bounds-points-contact-2 : goal.offset_bounds-points-contact-2
offset_bounds-points-contact-2 g c =
    let value = g.P.Coordinate.IntNumber.value in
    let list = c.args.points.now in
    let within = c.requires.contact.within in
    let order = c.requires.contact.order in
    let all = c.requires.divides.all in
    let count = read-length value g.P.ContourPoint.point g.P.ContourPoint.points g.P.ContourPoint.each list in
    omega (arith, within, count)

pub bounds-points-contact-2 : goal.bounds-points-contact-2
bounds-points-contact-2 g c =
    let value = g.P.Coordinate.IntNumber.value in
    let list = c.args.points.now in
    let within = c.requires.contact.within in
    let order = c.requires.contact.order in
    let all = c.requires.divides.all in
    let count = read-length value g.P.ContourPoint.point g.P.ContourPoint.points g.P.ContourPoint.each list in
    omega (arith, within, count)

pub next-requires-2-clause-within : goal.next-requires-2-clause-within
next-requires-2-clause-within g c =
    let value = g.P.Coordinate.IntNumber.value in
    let list = c.args.points.now in
    let within = c.requires.contact.within in
    let order = c.requires.contact.order in
    let all = c.requires.divides.all in
    let count = read-length value g.P.ContourPoint.point g.P.ContourPoint.points g.P.ContourPoint.each list in
    omega (arith, within, count, all)

pub touch_point-requires-clause-a_safe : goal.touch_point-requires-clause-a_safe
touch_point-requires-clause-a_safe g c =
    let value = g.P.Coordinate.IntNumber.value in
    let width = g.P.Coordinate.IntNumber.width in
    let point = g.P.ContourPoint.point in
    let points = g.P.ContourPoint.points in
    let each = g.P.ContourPoint.each in
    let list = c.args.points.now in
    let within = c.requires.contact.within in
    let order = c.requires.contact.order in
    let all = c.requires.divides.all in
    let count = read-length value point points each list in
    (placed point points each width value list c.args.contact.first c.index-points-contact.result c.to_point-a.result c.requires.safe c.to_point-a.ensures (omega (arith, within, order, count)) c.index-points-contact.is).safe

pub touch_point-requires-clause-b_safe : goal.touch_point-requires-clause-b_safe
touch_point-requires-clause-b_safe g c =
    let value = g.P.Coordinate.IntNumber.value in
    let width = g.P.Coordinate.IntNumber.width in
    let point = g.P.ContourPoint.point in
    let points = g.P.ContourPoint.points in
    let each = g.P.ContourPoint.each in
    let list = c.args.points.now in
    let within = c.requires.contact.within in
    let order = c.requires.contact.order in
    let all = c.requires.divides.all in
    let count = read-length value point points each list in
    (placed point points each width value list c.next.result c.index-points-next.result c.to_point-b.result c.requires.safe c.to_point-b.ensures (let inside = c.next.ensures.within in omega (arith, inside, all)) c.index-points-next.is).safe

pub touch_point-requires-clause-c_safe : goal.touch_point-requires-clause-c_safe
touch_point-requires-clause-c_safe g c =
    let value = g.P.Coordinate.IntNumber.value in
    let width = g.P.Coordinate.IntNumber.width in
    let point = g.P.ContourPoint.point in
    let points = g.P.ContourPoint.points in
    let each = g.P.ContourPoint.each in
    let list = c.args.points.now in
    let within = c.requires.contact.within in
    let order = c.requires.contact.order in
    let all = c.requires.divides.all in
    let count = read-length value point points each list in
    (placed point points each width value list c.args.contact.second c.index-points-contact-2.result c.to_point-c.result c.requires.safe c.to_point-c.ensures (omega (arith, within, count)) c.index-points-contact-2.is).safe

pub touch_point-requires-clause-e_safe : goal.touch_point-requires-clause-e_safe
touch_point-requires-clause-e_safe g c =
    let value = g.P.Coordinate.IntNumber.value in
    let width = g.P.Coordinate.IntNumber.width in
    let point = g.P.ContourPoint.point in
    let points = g.P.ContourPoint.points in
    let each = g.P.ContourPoint.each in
    let list = c.args.points.now in
    let within = c.requires.contact.within in
    let order = c.requires.contact.order in
    let all = c.requires.divides.all in
    let count = read-length value point points each list in
    (placed point points each width value list c.next-2.result c.index-points-next-2.result c.to_point-e.result c.requires.safe c.to_point-e.ensures (let inside = c.next-2.ensures.within in omega (arith, inside, all)) c.index-points-next-2.is).safe

pub touch_point-requires-clause-touch : goal.touch_point-requires-clause-touch
touch_point-requires-clause-touch g c =
    let value = g.P.Coordinate.IntNumber.value in
    let width = g.P.Coordinate.IntNumber.width in
    let point = g.P.ContourPoint.point in
    let points = g.P.ContourPoint.points in
    let each = g.P.ContourPoint.each in
    let list = c.args.points.now in
    let within = c.requires.contact.within in
    let order = c.requires.contact.order in
    let all = c.requires.divides.all in
    let count = read-length value point points each list in
    let at_a = (placed point points each width value list c.args.contact.first c.index-points-contact.result c.to_point-a.result c.requires.safe c.to_point-a.ensures (omega (arith, within, order, count)) c.index-points-contact.is).at in
    let at_b = (placed point points each width value list c.next.result c.index-points-next.result c.to_point-b.result c.requires.safe c.to_point-b.ensures (let inside = c.next.ensures.within in omega (arith, inside, all)) c.index-points-next.is).at in
    let at_c = (placed point points each width value list c.args.contact.second c.index-points-contact-2.result c.to_point-c.result c.requires.safe c.to_point-c.ensures (omega (arith, within, count)) c.index-points-contact-2.is).at in
    let at_e = (placed point points each width value list c.next-2.result c.index-points-next-2.result c.to_point-e.result c.requires.safe c.to_point-e.ensures (let inside = c.next-2.ensures.within in omega (arith, inside, all)) c.index-points-next-2.is).at in
    rw (at_a, at_b, at_c, at_e) (segments_touch c.args.offsets.now (contour_of value (points list)) c.requires.divides.divides c.requires.clear c.args.contact.first c.args.contact.second c.next.result c.next-2.result c.requires.contact c.next.ensures.is c.next-2.ensures.is)

pub returns-clause-is : goal.returns-clause-is
returns-clause-is g c =
    let value = g.P.Coordinate.IntNumber.value in
    let width = g.P.Coordinate.IntNumber.width in
    let point = g.P.ContourPoint.point in
    let points = g.P.ContourPoint.points in
    let each = g.P.ContourPoint.each in
    let list = c.args.points.now in
    let within = c.requires.contact.within in
    let order = c.requires.contact.order in
    let all = c.requires.divides.all in
    let count = read-length value point points each list in
    let at_a = (placed point points each width value list c.args.contact.first c.index-points-contact.result c.to_point-a.result c.requires.safe c.to_point-a.ensures (omega (arith, within, order, count)) c.index-points-contact.is).at in
    let at_b = (placed point points each width value list c.next.result c.index-points-next.result c.to_point-b.result c.requires.safe c.to_point-b.ensures (let inside = c.next.ensures.within in omega (arith, inside, all)) c.index-points-next.is).at in
    let at_c = (placed point points each width value list c.args.contact.second c.index-points-contact-2.result c.to_point-c.result c.requires.safe c.to_point-c.ensures (omega (arith, within, count)) c.index-points-contact-2.is).at in
    let at_e = (placed point points each width value list c.next-2.result c.index-points-next-2.result c.to_point-e.result c.requires.safe c.to_point-e.ensures (let inside = c.next-2.ensures.within in omega (arith, inside, all)) c.index-points-next-2.is).at in
    record {
      contact = c.requires.contact;
      on_first = record { end = c.next.result; follows = c.next.ensures.is; on = rw (at_a, at_b) at c.touch_point.ensures.on_first };
      on_second = record { end = c.next-2.result; follows = c.next-2.ensures.is; on = rw (at_c, at_e) at c.touch_point.ensures.on_second };
    }
