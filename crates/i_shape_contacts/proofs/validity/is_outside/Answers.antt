use Rattle.std.proofs.Common.{length, ap, arith}
use Rattle.i_shape_core.specs.IntPoint.{contour_of}
use Rattle.i_shape_core.proofs.Plane.PointLists.{read-length}
use Rattle.i_shape_contacts.proofs.Faults.{divides_read}
use Rattle.i_shape_contacts.proofs.Nesting.{outside_at, some_point}
use Rattle.i_shape_contacts.proofs.validity.is_outside.Goals as goal

pub is_beside-requires-clause-some : goal.is_beside-requires-clause-some
is_beside-requires-clause-some g c =
    let value = g.P.Coordinate.IntNumber.value in
    let point = g.P.ContourPoint.point in
    let points = g.P.ContourPoint.points in
    let each = g.P.ContourPoint.each in
    let list = contour_of value (points c.args.points.now) in
    let divides = divides_read value point points each c.args.points.now c.args.offsets.now c.requires.divides in
    let count = read-length value point points each c.ring_at-2.result.now in
    let some = some_point c.args.offsets.now list divides c.requires.whole c.requires.clear c.args.hole c.requires.is_hole.is_ring in
    omega (arith, count, some, ap length c.ring_at-2.ensures.is)

pub returns : goal.returns
returns g c =
    let value = g.P.Coordinate.IntNumber.value in
    let points = g.P.ContourPoint.points in
    let divides = divides_read value g.P.ContourPoint.point points g.P.ContourPoint.each c.args.points.now c.args.offsets.now c.requires.divides in
    outside_at c.args.offsets.now (contour_of value (points c.args.points.now)) divides c.requires.whole c.requires.clear c.args.hole _ _ c.is_beside.result c.ring_at.ensures.is c.ring_at-2.ensures.is c.is_beside.ensures c.requires.is_hole
