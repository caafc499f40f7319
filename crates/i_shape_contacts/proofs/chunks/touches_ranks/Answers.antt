use Rattle.std.proofs.Common.{arith}
use Rattle.i_shape_core.specs.IntPoint.{contour_of}
use Rattle.i_shape_contacts.proofs.ChunkSteps.{chunk_more}
use Rattle.i_shape_contacts.proofs.chunks.touches_ranks.Goals as goal

pub loop-rank-init : goal.loop-rank-init
loop-rank-init g c = λ k r h l f n. absurd (omega (arith, f, n))

pub loop-rank-preserved : goal.loop-rank-preserved
loop-rank-preserved g c = chunk_more g.P.Coordinate.IntNumber.value (g.C.Course.follows c.args.course) (contour_of g.P.Coordinate.IntNumber.value (g.P.ContourPoint.points c.args.points.now)) (g.O.Order.edge_at c.args.order) c.args.from c.args.to c.args.start c.loop-rank.rank c.loop-rank.invariant (c.touches_chunk.ensures c.if-touches_chunk.false)

pub touches_chunk-requires-clause-other_within : goal.touches_chunk-requires-clause-other_within
touches_chunk-requires-clause-other_within g c = let test = c.loop-rank-test.true in let most = c.requires.end_within in omega (arith, test, most)

pub returns : goal.returns
returns g c = λ e k r h l f n o w. let past = c.loop-rank-test.false in c.loop-rank.invariant k r h l f (omega (arith, past, n)) o w
