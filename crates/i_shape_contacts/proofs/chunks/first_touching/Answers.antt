use Rattle.std.proofs.Common.{◌*◌, length, arith, inl, inr}
use Rattle.std.proofs.lemmas.Bool.{cases_lt}
use Rattle.i_shape_core.specs.IntPoint.{contour_of}
use Rattle.i_shape_core.proofs.Plane.PointLists.{read-length}
use Rattle.i_shape_contacts.proofs.ChunkSteps.{no_ranks}
use Rattle.i_shape_contacts.proofs.chunks.first_touching.Goals as goal

pub loop-chunk-init : goal.loop-chunk-init
loop-chunk-init g c = record { none = λ j r h l m w. absurd (omega (arith, h)) }

pub loop-chunk-preserved : goal.loop-chunk-preserved
loop-chunk-preserved g c = record {
  none = λ j r h l m w. elim (cases_lt j (c.loop-chunk.chunk * 8)) [
    | inl s ↦ c.loop-chunk.invariant.none j r s l m w
    | inr s ↦ c.touches_any.ensures c.if-touches_any.false j r s (omega (arith, h)) l m w
  ];
}

pub touches_any-requires-clause-chunk_within : goal.touches_any-requires-clause-chunk_within
touches_any-requires-clause-chunk_within g c = let test = c.loop-chunk-test.true in let few = c.requires.blocks_count.few in omega (arith, test, few)

pub returns : goal.returns
returns g c =
    let value = g.P.Coordinate.IntNumber.value in
    let list = contour_of value (g.P.ContourPoint.points c.args.points.now) in
    let count = read-length value g.P.ContourPoint.point g.P.ContourPoint.points g.P.ContourPoint.each c.args.points.now in
    let past = c.loop-chunk-test.false in
    let enough = c.requires.blocks_count.enough in
    no_ranks value (g.C.Course.follows c.args.course) list (g.O.Order.edge_at c.args.order) (length c.args.points.now) count c.requires.ordered.ranked
    (λ k r h l m w. c.loop-chunk.invariant.none k r (omega (arith, past, enough, h)) l m w)
