use Rattle.std.proofs.Common.{◌<◌, ◌≤◌, ◌+◌, ◌*◌, ℕ, length, arith, inl, inr, subst, sym}
use Rattle.std.proofs.lemmas.Bool.{cases_eq}
use Rattle.i_shape_core.specs.IntPoint.{contour_of}
use Rattle.i_shape_core.proofs.Plane.PointLists.{read-length}
use Rattle.i_shape_contacts.specs.Contacts.{IsContactBy}
use Rattle.i_shape_contacts.specs.Steps.Boxes.{IsBlock}
use Rattle.i_shape_contacts.proofs.BlockSteps.{least_further, least_chunk}
use Rattle.i_shape_contacts.proofs.blocks.contact_after.Goals as goal

pub loop-chunk-init : goal.loop-chunk-init
loop-chunk-init g c = record {
  most = omega arith;
  found = λ h. absurd (omega (arith, h));
  none = λ m h n w. let order = w.order in absurd (omega (arith, order, c.start_after-chunk.ensures m (omega (arith, h))));
}

pub start_after-chunk-requires : goal.start_after-chunk-requires
start_after-chunk-requires g c = omega (arith, c.requires.ordered.count, c.requires.within)

pub loop-chunk-preserved : goal.loop-chunk-preserved
loop-chunk-preserved g c =
    let value = g.P.Coordinate.IntNumber.value in
    let list = contour_of value (g.P.ContourPoint.points c.args.points.now) in
    let count = read-length value g.P.ContourPoint.point g.P.ContourPoint.points g.P.ContourPoint.each c.args.points.now in
    let before = c.loop-chunk.invariant in
    let less = c.least_of_chunk-least.ensures.most in
    let most = before.most in
    record {
      most = omega (arith, less, most);
      found = λ h. elim (cases_eq c.least_of_chunk-least.result c.loop-chunk.least) [
        | inl e ↦ subst (IsContactBy (g.C.Course.follows c.args.course) list c.args.first) (sym e) (before.found (omega (arith, h, e)))
        | inr n ↦ c.least_of_chunk-least.ensures.found n
      ];
      none = least_chunk value (g.C.Course.follows c.args.course) list (g.O.Order.edge_at c.args.order) c.args.first (c.loop-chunk.chunk * 8) c.chunk_end-to.result ((c.loop-chunk.chunk + 1) * 8) c.loop-chunk.least c.least_of_chunk-least.result less
          (λ m h n. c.chunk_end-to.ensures.most m (omega (arith, h)) (omega (arith, n, count))) before.none c.least_of_chunk-least.ensures.tried;
    }

pub loop-chunk-preserved-then-are_apart : goal.loop-chunk-preserved-then-are_apart
loop-chunk-preserved-then-are_apart g c =
    let value = g.P.Coordinate.IntNumber.value in
    let list = contour_of value (g.P.ContourPoint.points c.args.points.now) in
    let count = read-length value g.P.ContourPoint.point g.P.ContourPoint.points g.P.ContourPoint.each c.args.points.now in
    let chunk = c.loop-chunk.chunk in
    let within : chunk < length c.args.blocks.now = omega arith in
    let block : IsBlock value (g.C.Course.follows c.args.course) list (g.O.Order.edge_at c.args.order) chunk c.index-blocks-chunk.result = subst (IsBlock value (g.C.Course.follows c.args.course) list (g.O.Order.edge_at c.args.order) chunk) (sym c.index-blocks-chunk.is) (c.requires.are_blocks chunk c.index-blocks-chunk.result (omega arith) within) in
    let further = block.further in
    record {
      most = c.loop-chunk.invariant.most;
      found = c.loop-chunk.invariant.found;
      none = least_further value (g.C.Course.follows c.args.course) list (g.O.Order.edge_at c.args.order) c.bounds_of_edge-bounds.result c.index-blocks-chunk.result.bounds c.args.first (chunk * 8) (c.index-blocks-chunk.result.next * 8) c.loop-chunk.least (c.are_apart.ensures.0 c.if-are_apart.true) c.bounds_of_edge-bounds.ensures block.holds c.loop-chunk.invariant.none;
    }

pub loop-chunk-preserved-then-are_apart-2 : goal.loop-chunk-preserved-then-are_apart-2
loop-chunk-preserved-then-are_apart-2 g c =
    let value = g.P.Coordinate.IntNumber.value in
    let list = contour_of value (g.P.ContourPoint.points c.args.points.now) in
    let count = read-length value g.P.ContourPoint.point g.P.ContourPoint.points g.P.ContourPoint.each c.args.points.now in
    let chunk = c.loop-chunk.chunk in
    let within : chunk < length c.args.blocks.now = omega arith in
    let block : IsBlock value (g.C.Course.follows c.args.course) list (g.O.Order.edge_at c.args.order) chunk c.index-blocks-chunk.result = subst (IsBlock value (g.C.Course.follows c.args.course) list (g.O.Order.edge_at c.args.order) chunk) (sym c.index-blocks-chunk.is) (c.requires.are_blocks chunk c.index-blocks-chunk.result (omega arith) within) in
    let further = block.further in
    record {
      most = c.loop-chunk.invariant.most;
      found = c.loop-chunk.invariant.found;
      none = λ m h. least_further value (g.C.Course.follows c.args.course) list (g.O.Order.edge_at c.args.order) c.bounds_of_edge-bounds.result c.index-blocks-chunk.result.own c.args.first (chunk * 8) (chunk * 8 + 8) c.loop-chunk.least (c.are_apart-in-loop-chunk.ensures.0 c.if-are_apart-2.true) c.bounds_of_edge-bounds.ensures block.own c.loop-chunk.invariant.none m (omega (arith, h));
    }

pub loop-chunk-smaller-then-are_apart : goal.loop-chunk-smaller-then-are_apart
loop-chunk-smaller-then-are_apart g c =
    let value = g.P.Coordinate.IntNumber.value in
    let list = contour_of value (g.P.ContourPoint.points c.args.points.now) in
    let count = read-length value g.P.ContourPoint.point g.P.ContourPoint.points g.P.ContourPoint.each c.args.points.now in
    let chunk = c.loop-chunk.chunk in
    let within : chunk < length c.args.blocks.now = omega arith in
    let block : IsBlock value (g.C.Course.follows c.args.course) list (g.O.Order.edge_at c.args.order) chunk c.index-blocks-chunk.result = subst (IsBlock value (g.C.Course.follows c.args.course) list (g.O.Order.edge_at c.args.order) chunk) (sym c.index-blocks-chunk.is) (c.requires.are_blocks chunk c.index-blocks-chunk.result (omega arith) within) in
    let further = block.further in
    omega (arith, further)

pub returns-then-least-points : goal.returns-then-least-points
returns-then-least-points g c =
    let value = g.P.Coordinate.IntNumber.value in
    let list = contour_of value (g.P.ContourPoint.points c.args.points.now) in
    let count = read-length value g.P.ContourPoint.point g.P.ContourPoint.points g.P.ContourPoint.each c.args.points.now in
    let past = c.loop-chunk-test.false in
    let enough = c.requires.blocks_count.enough in
    record {
      contact = c.loop-chunk.invariant.found c.if-least-points.true;
      least = λ k w.
          let within = w.within in
          let ranked = c.requires.ordered.ranked k (omega (arith, within, count)) in
          let below = ranked.below in
          subst (λ (j : ℕ). c.loop-chunk.least ≤ j) ranked.is (c.loop-chunk.invariant.none ranked.rank (omega (arith, past, below, enough)) (omega (arith, below, count)) (subst (IsContactBy (g.C.Course.follows c.args.course) list c.args.first) (sym ranked.is) w));
    }

pub returns-else-least-points : goal.returns-else-least-points
returns-else-least-points g c = λ k w.
    let value = g.P.Coordinate.IntNumber.value in
    let list = contour_of value (g.P.ContourPoint.points c.args.points.now) in
    let count = read-length value g.P.ContourPoint.point g.P.ContourPoint.points g.P.ContourPoint.each c.args.points.now in
    let past = c.loop-chunk-test.false in
    let enough = c.requires.blocks_count.enough in
    let none = c.if-least-points.false in
    let within = w.within in
    let ranked = c.requires.ordered.ranked k (omega (arith, within, count)) in
    let below = ranked.below in
    let low = subst (λ (j : ℕ). c.loop-chunk.least ≤ j) ranked.is (c.loop-chunk.invariant.none ranked.rank (omega (arith, past, below, enough)) (omega (arith, below, count)) (subst (IsContactBy (g.C.Course.follows c.args.course) list c.args.first) (sym ranked.is) w)) in
    absurd (omega (arith, low, none, within, count))
