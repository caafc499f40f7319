use Rattle.std.proofs.Common.{◌≡◌, ℕ, IsTrue, arith, inl, inr, subst}
use Rattle.std.proofs.lemmas.Bool.{cases_lt}
use Rattle.i_shape_core.specs.IntPoint.{contour_of}
use Rattle.i_shape_contacts.specs.Steps.Boxes.{HoldsEdge}
use Rattle.i_shape_contacts.proofs.ChunkSteps.{apart_touch}
use Rattle.i_shape_contacts.proofs.chunks.touches_chunk.Goals as goal

pub edge-beside-requires : goal.edge-beside-requires
edge-beside-requires g c = omega (arith, c.requires.ordered.count, c.requires.other_within)

pub edge-edge-requires : goal.edge-edge-requires
edge-edge-requires g c = omega (arith, c.requires.ordered.count, c.loop-rank-test.true, c.requires.within)

pub do_touch-requires-clause-a_within : goal.do_touch-requires-clause-a_within
do_touch-requires-clause-a_within g c =
    let inside = c.loop-rank-test.true in
    let most = c.requires.within in
    omega (arith, c.edge-edge.ensures, c.requires.ordered.within c.loop-rank.rank (omega (arith, inside, most)))

pub do_touch-requires-clause-b_within : goal.do_touch-requires-clause-b_within
do_touch-requires-clause-b_within g c = omega (arith, c.edge-beside.ensures, c.requires.ordered.within c.args.other c.requires.other_within)

pub loop-rank-init : goal.loop-rank-init
loop-rank-init g c = λ k r h l. absurd (omega (arith, h, l))

pub loop-rank-preserved : goal.loop-rank-preserved
loop-rank-preserved g c = λ k r h l f n o w. elim (cases_lt k c.loop-rank.rank) [
  | inl s ↦ c.loop-rank.invariant k r h s f n o w
  | inr s ↦ (
      let this : k ≡ c.loop-rank.rank = omega (arith, s, l) in
      let that : r ≡ c.args.other = omega (arith, f, n) in
      let moved = rw (this, that, ← c.edge-edge.ensures, ← c.edge-beside.ensures) at w in
      let t : IsTrue c.do_touch.result = c.do_touch.ensures.1 moved in
      let no = c.if-do_touch.false in
      absurd (cc))
]

pub returns : goal.returns
returns g c = λ e k r h l f n o w. let past = c.loop-rank-test.false in c.loop-rank.invariant k r h (omega (arith, past, l)) f n o w

pub bounds_of_edge-requires-clause-within : goal.bounds_of_edge-requires-clause-within
bounds_of_edge-requires-clause-within g c = omega (arith, c.edge-beside.ensures, c.requires.ordered.within c.args.other c.requires.other_within)

pub returns-then-are_apart : goal.returns-then-are_apart
returns-then-are_apart g c = λ e k r h l f n o w.
    let value = g.P.Coordinate.IntNumber.value in
    let list = contour_of value (g.P.ContourPoint.points c.args.points.now) in
    let that : c.args.other ≡ r = omega (arith, f, n) in
    let beside = subst (HoldsEdge value (g.C.Course.follows c.args.course) c.bounds_of_edge.result list) c.edge-beside.ensures c.bounds_of_edge.ensures in
    let other = subst (λ (j : ℕ). HoldsEdge value (g.C.Course.follows c.args.course) c.bounds_of_edge.result list (g.O.Order.edge_at c.args.order j)) that beside in
    apart_touch value (g.C.Course.follows c.args.course) list (g.O.Order.edge_at c.args.order) c.args.bounds c.bounds_of_edge.result (g.O.Order.edge_at c.args.order k) (g.O.Order.edge_at c.args.order r) (c.are_apart.ensures.0 c.if-are_apart.true) (c.requires.held k h l) other w
