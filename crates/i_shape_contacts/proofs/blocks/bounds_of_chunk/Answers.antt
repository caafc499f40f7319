use Rattle.std.proofs.Common.{◌+◌, arith}
use Rattle.i_shape_core.specs.IntPoint.{contour_of}
use Rattle.i_shape_contacts.proofs.BlockSteps.{edge_alone, edges_joined}
use Rattle.i_shape_contacts.proofs.blocks.bounds_of_chunk.Goals as goal

pub edge-start-requires : goal.edge-start-requires
edge-start-requires g c = omega (arith, c.requires.ordered.count, c.requires.some, c.requires.within)

pub bounds_of_edge-bounds-requires-clause-within : goal.bounds_of_edge-bounds-requires-clause-within
bounds_of_edge-bounds-requires-clause-within g c =
    let some = c.requires.some in
    let most = c.requires.within in
    omega (arith, c.edge-start.ensures, c.requires.ordered.within c.args.from (omega (arith, some, most)))

pub edge-edge-requires : goal.edge-edge-requires
edge-edge-requires g c = omega (arith, c.requires.ordered.count, c.loop-rank-test.true, c.requires.within)

pub bounds_of_edge-requires-clause-within : goal.bounds_of_edge-requires-clause-within
bounds_of_edge-requires-clause-within g c =
    let inside = c.loop-rank-test.true in
    let most = c.requires.within in
    omega (arith, c.edge-edge.ensures, c.requires.ordered.within c.loop-rank.rank (omega (arith, inside, most)))

pub loop-rank-init : goal.loop-rank-init
loop-rank-init g c = edge_alone _ _ _ (g.O.Order.edge_at c.args.order) _ _ _ c.edge-start.ensures c.bounds_of_edge-bounds.ensures

pub loop-rank-preserved : goal.loop-rank-preserved
loop-rank-preserved g c =
    let value = g.P.Coordinate.IntNumber.value in
    let list = contour_of value (g.P.ContourPoint.points c.args.points.now) in
    edges_joined value (g.C.Course.follows c.args.course) list (g.O.Order.edge_at c.args.order) c.loop-rank.bounds c.bounds_of_edge.result c.joined-bounds.result c.args.from c.loop-rank.rank (c.loop-rank.rank + 1) c.joined-bounds.ensures.first c.joined-bounds.ensures.second c.loop-rank.invariant
    (edge_alone value (g.C.Course.follows c.args.course) list (g.O.Order.edge_at c.args.order) c.bounds_of_edge.result c.loop-rank.rank _ c.edge-edge.ensures c.bounds_of_edge.ensures)

pub returns : goal.returns
returns g c = λ k h l. let past = c.loop-rank-test.false in c.loop-rank.invariant k h (omega (arith, past, l))
