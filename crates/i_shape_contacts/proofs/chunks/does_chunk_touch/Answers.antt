use Rattle.std.proofs.Common.{◌≡◌, ◌+◌, ◌-◌, ℕ, IsTrue, arith, ap, subst, sym, ◌∙◌}
use Rattle.i_shape_core.specs.IntPoint.{contour_of}
use Rattle.i_shape_contacts.specs.Steps.Chunks.{Touch}
use Rattle.i_shape_contacts.proofs.BlockSteps.{edge_alone, edges_joined}
use Rattle.i_shape_contacts.proofs.ChunkSteps.{within_more}
use Rattle.i_shape_contacts.proofs.chunks.does_chunk_touch.Goals as goal

pub edge-before-requires : goal.edge-before-requires
edge-before-requires g c = omega (arith, c.requires.ordered.count, c.requires.some, c.requires.within)

pub bounds_of_edge-last-requires-clause-within : goal.bounds_of_edge-last-requires-clause-within
bounds_of_edge-last-requires-clause-within g c =
    let some = c.requires.some in
    let most = c.requires.within in
    omega (arith, c.edge-before.ensures, c.requires.ordered.within c.args.from (omega (arith, some, most)))

pub edge-edge-requires : goal.edge-edge-requires
edge-edge-requires g c = omega (arith, c.requires.ordered.count, c.loop-rank-test.true, c.requires.within)

pub do_touch-requires-clause-a_within : goal.do_touch-requires-clause-a_within
do_touch-requires-clause-a_within g c =
    let inside = c.loop-rank-test.true in
    let most = c.requires.within in
    omega (arith, c.loop-rank.invariant.is (c.loop-rank.rank - 1) (omega arith), c.requires.ordered.within (c.loop-rank.rank - 1) (omega (arith, inside, most)))

pub do_touch-requires-clause-b_within : goal.do_touch-requires-clause-b_within
do_touch-requires-clause-b_within g c =
    let inside = c.loop-rank-test.true in
    let most = c.requires.within in
    omega (arith, c.edge-edge.ensures, c.requires.ordered.within c.loop-rank.rank (omega (arith, inside, most)))

pub touches_chunk-requires-clause-held : goal.touches_chunk-requires-clause-held
touches_chunk-requires-clause-held g c = λ k h l. c.loop-rank.invariant.held k h (omega (arith, l))

pub loop-rank-init : goal.loop-rank-init
loop-rank-init g c = record {
  none = λ k r h l f n o w. absurd (omega (arith, h, l, f, n, o));
  is = λ m e. c.edge-before.ensures ∙ ap (g.O.Order.edge_at c.args.order) (omega (arith, e));
  held = λ m h l. absurd (omega (arith, h, l));
  last = c.bounds_of_edge-last.ensures;
}

pub loop-rank-preserved : goal.loop-rank-preserved
loop-rank-preserved g c =
    let value = g.P.Coordinate.IntNumber.value in
    let list = contour_of value (g.P.ContourPoint.points c.args.points.now) in
    let rank = c.loop-rank.rank in
    let before = c.loop-rank.invariant.is (rank - 1) (omega arith) in
    let up : rank ≡ rank - 1 + 1 = omega arith in
    record {
      none = within_more value (g.C.Course.follows c.args.course) list (g.O.Order.edge_at c.args.order) c.args.from rank (rank - 1) up c.loop-rank.invariant.none
          (λ w. let t : IsTrue c.do_touch.result = c.do_touch.ensures.1 (subst (λ (k : ℕ). Touch (g.C.Course.follows c.args.course) list k c.edge-edge.result) (sym before) (subst (Touch (g.C.Course.follows c.args.course) list (g.O.Order.edge_at c.args.order (rank - 1))) (sym c.edge-edge.ensures) w)) in let no = c.if-do_touch.false in absurd (cc))
          (c.touches_chunk.ensures c.if-touches_chunk.false);
      is = λ m e. c.edge-edge.ensures ∙ ap (g.O.Order.edge_at c.args.order) (omega (arith, e));
      held = λ m h l. edges_joined value (g.C.Course.follows c.args.course) list (g.O.Order.edge_at c.args.order) c.loop-rank.bounds c.loop-rank.last c.joined-bounds.result c.args.from (rank - 1) rank c.joined-bounds.ensures.first c.joined-bounds.ensures.second (λ m h l. c.loop-rank.invariant.held m h (omega (arith, l)))
          (λ m h l. edge_alone value (g.C.Course.follows c.args.course) list (g.O.Order.edge_at c.args.order) c.loop-rank.last (rank - 1) _ before c.loop-rank.invariant.last m h (omega (arith, l))) m h (omega (arith, l));
      last = c.bounds_of_edge-last-in-loop-rank.ensures;
    }

pub returns : goal.returns
returns g c = λ e k r h l f n o w. let past = c.loop-rank-test.false in c.loop-rank.invariant.none k r h (omega (arith, past, l)) f (omega (arith, past, n)) o w
