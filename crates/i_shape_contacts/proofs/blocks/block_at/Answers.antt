use Rattle.std.proofs.Common.{◌<◌, ◌*◌, length, arith, subst, sym}
use Rattle.i_shape_core.specs.IntPoint.{contour_of}
use Rattle.i_shape_core.proofs.Plane.PointLists.{read-length}
use Rattle.i_shape_contacts.specs.Steps.Boxes.{IsBlock}
use Rattle.i_shape_contacts.proofs.BlockSteps.{ranks_joined}
use Rattle.i_shape_contacts.proofs.blocks.block_at.Goals as goal

pub loop-next-init : goal.loop-next-init
loop-next-init g c =
    let value = g.P.Coordinate.IntNumber.value in
    let list = contour_of value (g.P.ContourPoint.points c.args.points.now) in
    let count = read-length value g.P.ContourPoint.point g.P.ContourPoint.points g.P.ContourPoint.each c.args.points.now in
    record {
      further = omega arith;
      holds = λ m h l inside. c.bounds_of_chunk-own.ensures m h (c.chunk_end.ensures.most m (omega (arith, l)) (omega (arith, inside, count)));
    }

pub loop-next-preserved : goal.loop-next-preserved
loop-next-preserved g c =
    let value = g.P.Coordinate.IntNumber.value in
    let list = contour_of value (g.P.ContourPoint.points c.args.points.now) in
    let count = read-length value g.P.ContourPoint.point g.P.ContourPoint.points g.P.ContourPoint.each c.args.points.now in
    let next = c.loop-next.next in
    let past = c.loop-next.invariant.further in
    let within : next < length c.args.blocks.now = omega arith in
    let block : IsBlock value (g.C.Course.follows c.args.course) list (g.O.Order.edge_at c.args.order) next c.index-blocks-next.result = subst (IsBlock value (g.C.Course.follows c.args.course) list (g.O.Order.edge_at c.args.order) next) (sym c.index-blocks-next.is) (c.requires.later next c.index-blocks-next.result (omega (arith, past)) within) in
    let further = block.further in
    record {
      further = omega (arith, past, further);
      holds = ranks_joined value (g.C.Course.follows c.args.course) list (g.O.Order.edge_at c.args.order) c.loop-next.bounds c.index-blocks-next.result.bounds c.joined-bounds.result (c.args.chunk * 8) (next * 8) (c.index-blocks-next.result.next * 8) c.joined-bounds.ensures.first c.joined-bounds.ensures.second c.loop-next.invariant.holds block.holds;
    }

pub loop-next-smaller : goal.loop-next-smaller
loop-next-smaller g c =
    let value = g.P.Coordinate.IntNumber.value in
    let list = contour_of value (g.P.ContourPoint.points c.args.points.now) in
    let count = read-length value g.P.ContourPoint.point g.P.ContourPoint.points g.P.ContourPoint.each c.args.points.now in
    let next = c.loop-next.next in
    let past = c.loop-next.invariant.further in
    let within : next < length c.args.blocks.now = omega arith in
    let block : IsBlock value (g.C.Course.follows c.args.course) list (g.O.Order.edge_at c.args.order) next c.index-blocks-next.result = subst (IsBlock value (g.C.Course.follows c.args.course) list (g.O.Order.edge_at c.args.order) next) (sym c.index-blocks-next.is) (c.requires.later next c.index-blocks-next.result (omega (arith, past)) within) in
    let further = block.further in
    omega (arith, further)

pub returns : goal.returns
returns g c =
    let value = g.P.Coordinate.IntNumber.value in
    let list = contour_of value (g.P.ContourPoint.points c.args.points.now) in
    let count = read-length value g.P.ContourPoint.point g.P.ContourPoint.points g.P.ContourPoint.each c.args.points.now in
    record {
      further = c.loop-next.invariant.further;
      own = λ m h l inside. c.bounds_of_chunk-own.ensures m h (c.chunk_end.ensures.most m l (omega (arith, inside, count)));
      holds = c.loop-next.invariant.holds;
    }
