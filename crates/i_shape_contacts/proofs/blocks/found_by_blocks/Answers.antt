use Rattle.std.proofs.Common.{length}
use Rattle.i_shape_core.specs.IntPoint.{contour_of}
use Rattle.i_shape_core.proofs.Plane.PointLists.{read-length}
use Rattle.i_shape_contacts.proofs.ChunkSteps.{none_before}
use Rattle.i_shape_contacts.proofs.blocks.found_by_blocks.Goals as goal

pub first_by_blocks-requires-clause-none_before : goal.first_by_blocks-requires-clause-none_before
first_by_blocks-requires-clause-none_before g c =
    let value = g.P.Coordinate.IntNumber.value in
    let list = contour_of value (g.P.ContourPoint.points c.args.points.now) in
    let count = read-length value g.P.ContourPoint.point g.P.ContourPoint.points g.P.ContourPoint.each c.args.points.now in
    none_before value (g.C.Course.follows c.args.course) list (g.O.Order.edge_at c.args.order) (length c.args.points.now) _ c.edge_from-start.result count c.requires.ordered.ranked c.edge_from-start.ensures c.in-Some.ensures
