use Rattle.std.proofs.Common.{◌+◌, ◌<◌, map, length, refl, arith}
use Rattle.i_shape.specs.IntPoint.{point_of}
use Rattle.i_shape_core.proofs.Lists.Rings.{back_more}
use Rattle.i_shape_c.specs.Kinds.{IsKindOfPair}
use Rattle.i_shape_c.proofs.Told.{index_more}
use Rattle.i_shape_c.proofs.kinds.write_kinds.Goals as goal

pub loop-pair-preserved : goal.loop-pair-preserved
loop-pair-preserved g c =
    let at = λ (p : g.row.P.Denot). point_of g.P.Coordinate.IntNumber.value (g.P.ContourPoint.point p) in
    let pair = c.loop-pair.pair in
    let room : pair < length c.loop-pair.out = omega (arith, c.loop-pair.auto.out, c.requires.room, c.loop-pair-test.true) in
    record {
      each = index_more (IsKindOfPair (map at c.args.edges.now)) c.loop-pair.out pair (pair + 1) c.kind_from.result refl room c.loop-pair.invariant.each c.kind_from.ensures;
      rest = back_more c.loop-pair.out c.args.out.now pair (pair + 1) c.kind_from.result refl c.loop-pair.invariant.rest;
    }
