use Rattle.std.proofs.Common.{◌<◌, ◌+◌, ◌*◌, length, get_or, arith, subst, sym}
use Rattle.i_shape_core.specs.IntPoint.{contour_of}
use Rattle.i_shape_core.proofs.Plane.PointLists.{read-length}
use Rattle.i_shape_contacts.specs.Steps.Boxes.{IsBlock}
use Rattle.i_shape_contacts.proofs.ChunkSteps.{chunk_further, chunk_behind}
use Rattle.i_shape_contacts.proofs.chunks.touches_behind.Goals as goal

pub loop-other-init : goal.loop-other-init
loop-other-init g c =
    let value = g.P.Coordinate.IntNumber.value in
    let list = contour_of value (g.P.ContourPoint.points c.args.points.now) in
    let count = read-length value g.P.ContourPoint.point g.P.ContourPoint.points g.P.ContourPoint.each c.args.points.now in
    record {
      past = omega arith;
      none = λ k r h l f n inside o w. absurd (omega (arith, f, c.requires.most r (omega (arith, n)) (omega (arith, inside, count))));
    }

pub loop-other-preserved : goal.loop-other-preserved
loop-other-preserved g c =
    let value = g.P.Coordinate.IntNumber.value in
    let list = contour_of value (g.P.ContourPoint.points c.args.points.now) in
    let count = read-length value g.P.ContourPoint.point g.P.ContourPoint.points g.P.ContourPoint.each c.args.points.now in
    let past = c.loop-other.invariant.past in
    record {
      past = omega (arith, past);
      none = chunk_behind value (g.C.Course.follows c.args.course) list (g.O.Order.edge_at c.args.order) (c.args.chunk * 8) c.args.to c.args.start (c.loop-other.other * 8) c.greater_rank-least.result c.chunk_end-end.result ((c.loop-other.other + 1) * 8)
          c.greater_rank-least.ensures.either (λ r h n. c.chunk_end-end.ensures.most r (omega (arith, h)) (omega (arith, n, count))) c.loop-other.invariant.none (c.touches_ranks.ensures c.if-touches_ranks.false);
    }

pub loop-other-preserved-then-are_apart : goal.loop-other-preserved-then-are_apart
loop-other-preserved-then-are_apart g c =
    let value = g.P.Coordinate.IntNumber.value in
    let list = contour_of value (g.P.ContourPoint.points c.args.points.now) in
    let count = read-length value g.P.ContourPoint.point g.P.ContourPoint.points g.P.ContourPoint.each c.args.points.now in
    let other = c.loop-other.other in
    let past = c.loop-other.invariant.past in
    let within : other < length c.args.blocks.now = omega arith in
    let block : IsBlock value (g.C.Course.follows c.args.course) list (g.O.Order.edge_at c.args.order) other c.index-blocks-other.result = subst (IsBlock value (g.C.Course.follows c.args.course) list (g.O.Order.edge_at c.args.order) other) (sym c.index-blocks-other.is) (c.requires.are_blocks other c.index-blocks-other.result (omega arith) within) in
    let further = block.further in
    let few = c.requires.blocks_count.few in
    let chunk_within = c.requires.chunk_within in
    let enough = c.requires.blocks_count.enough in
    let here : c.args.chunk < length c.args.blocks.now = omega (arith, enough, chunk_within) in
    let mine : IsBlock value (g.C.Course.follows c.args.course) list (g.O.Order.edge_at c.args.order) c.args.chunk (get_or c.args.blocks.now c.args.chunk c.index-blocks-chunk.result) = c.requires.are_blocks c.args.chunk c.index-blocks-chunk.result (omega arith) here in
    let least = c.requires.least in
    let to_within = c.requires.within in
    record {
      past = omega (arith, past, further);
      none = chunk_further value (g.C.Course.follows c.args.course) list (g.O.Order.edge_at c.args.order) (get_or c.args.blocks.now c.args.chunk c.index-blocks-chunk.result).own c.index-blocks-other.result.bounds (c.args.chunk * 8) c.args.to c.args.start (other * 8) (c.index-blocks-other.result.next * 8) (c.are_apart.ensures.0 c.if-are_apart.true)
          (λ m h l. mine.own m h (omega (arith, l, least)) (omega (arith, l, to_within, count))) block.holds c.loop-other.invariant.none;
    }

pub loop-other-preserved-then-are_apart-2 : goal.loop-other-preserved-then-are_apart-2
loop-other-preserved-then-are_apart-2 g c =
    let value = g.P.Coordinate.IntNumber.value in
    let list = contour_of value (g.P.ContourPoint.points c.args.points.now) in
    let count = read-length value g.P.ContourPoint.point g.P.ContourPoint.points g.P.ContourPoint.each c.args.points.now in
    let other = c.loop-other.other in
    let past = c.loop-other.invariant.past in
    let within : other < length c.args.blocks.now = omega arith in
    let block : IsBlock value (g.C.Course.follows c.args.course) list (g.O.Order.edge_at c.args.order) other c.index-blocks-other.result = subst (IsBlock value (g.C.Course.follows c.args.course) list (g.O.Order.edge_at c.args.order) other) (sym c.index-blocks-other.is) (c.requires.are_blocks other c.index-blocks-other.result (omega arith) within) in
    let further = block.further in
    let few = c.requires.blocks_count.few in
    let chunk_within = c.requires.chunk_within in
    let enough = c.requires.blocks_count.enough in
    let here : c.args.chunk < length c.args.blocks.now = omega (arith, enough, chunk_within) in
    let mine : IsBlock value (g.C.Course.follows c.args.course) list (g.O.Order.edge_at c.args.order) c.args.chunk (get_or c.args.blocks.now c.args.chunk c.index-blocks-chunk.result) = c.requires.are_blocks c.args.chunk c.index-blocks-chunk.result (omega arith) here in
    let least = c.requires.least in
    let to_within = c.requires.within in
    record {
      past = omega (arith, past);
      none = λ k r h l f n. chunk_further value (g.C.Course.follows c.args.course) list (g.O.Order.edge_at c.args.order) (get_or c.args.blocks.now c.args.chunk c.index-blocks-chunk.result).own c.index-blocks-other.result.own (c.args.chunk * 8) c.args.to c.args.start (other * 8) (other * 8 + 8) (c.are_apart-in-loop-other.ensures.0 c.if-are_apart-2.true)
          (λ m h l. mine.own m h (omega (arith, l, least)) (omega (arith, l, to_within, count))) block.own c.loop-other.invariant.none k r h l f (omega (arith, n));
    }

pub loop-other-smaller-then-are_apart : goal.loop-other-smaller-then-are_apart
loop-other-smaller-then-are_apart g c =
    let value = g.P.Coordinate.IntNumber.value in
    let list = contour_of value (g.P.ContourPoint.points c.args.points.now) in
    let count = read-length value g.P.ContourPoint.point g.P.ContourPoint.points g.P.ContourPoint.each c.args.points.now in
    let other = c.loop-other.other in
    let past = c.loop-other.invariant.past in
    let within : other < length c.args.blocks.now = omega arith in
    let block : IsBlock value (g.C.Course.follows c.args.course) list (g.O.Order.edge_at c.args.order) other c.index-blocks-other.result = subst (IsBlock value (g.C.Course.follows c.args.course) list (g.O.Order.edge_at c.args.order) other) (sym c.index-blocks-other.is) (c.requires.are_blocks other c.index-blocks-other.result (omega arith) within) in
    let further = block.further in
    omega (arith, further)

pub touches_ranks-requires-clause-held : goal.touches_ranks-requires-clause-held
touches_ranks-requires-clause-held g c =
    let value = g.P.Coordinate.IntNumber.value in
    let list = contour_of value (g.P.ContourPoint.points c.args.points.now) in
    let count = read-length value g.P.ContourPoint.point g.P.ContourPoint.points g.P.ContourPoint.each c.args.points.now in
    let few = c.requires.blocks_count.few in
    let chunk_within = c.requires.chunk_within in
    let enough = c.requires.blocks_count.enough in
    let here : c.args.chunk < length c.args.blocks.now = omega (arith, enough, chunk_within) in
    let mine : IsBlock value (g.C.Course.follows c.args.course) list (g.O.Order.edge_at c.args.order) c.args.chunk (get_or c.args.blocks.now c.args.chunk c.index-blocks-chunk.result) = c.requires.are_blocks c.args.chunk c.index-blocks-chunk.result (omega arith) here in
    let least = c.requires.least in
    let to_within = c.requires.within in
    λ m h l. mine.own m (omega (arith, h)) (omega (arith, l, least)) (omega (arith, l, to_within, count))

pub returns : goal.returns
returns g c = λ e k r h l f n o w.
    let value = g.P.Coordinate.IntNumber.value in
    let list = contour_of value (g.P.ContourPoint.points c.args.points.now) in
    let count = read-length value g.P.ContourPoint.point g.P.ContourPoint.points g.P.ContourPoint.each c.args.points.now in
    let past = c.loop-other-test.false in
    let enough = c.requires.blocks_count.enough in
    c.loop-other.invariant.none k r h l f (omega (arith, past, enough, n)) (omega (arith, n, count)) o w
