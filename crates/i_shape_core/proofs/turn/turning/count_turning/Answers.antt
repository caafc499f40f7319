use Rattle.std.proofs.Common.{arith}
use Rattle.i_shape_core.specs.IntPoint.{contour_of}
use Rattle.i_shape_core.proofs.Walks.Turning.{turning_on}
use Rattle.i_shape_core.proofs.turn.turning.count_turning.Goals as goal

pub loop-tested-preserved : goal.loop-tested-preserved
loop-tested-preserved g c = record {
  within = omega (arith, c.loop-tested-test.true, c.loop-tested.invariant.within);
  turning = turning_on (contour_of g.P.Coordinate.IntNumber.value (g.P.ContourPoint.points c.args.points.now)) 0 c.loop-tested.tested _ _ _ (omega arith) (omega arith) c.loop-tested.invariant.turning c.first_zero_turn-place.ensures.turning;
}

pub returns-then-place-tested-clause-turning : goal.returns-then-place-tested-clause-turning
returns-then-place-tested-clause-turning g c =
    turning_on (contour_of g.P.Coordinate.IntNumber.value (g.P.ContourPoint.points c.args.points.now)) 0 c.loop-tested.tested _ _ _ (omega arith) (omega arith) c.loop-tested.invariant.turning c.first_zero_turn-place.ensures.turning

pub returns-clause-turning : goal.returns-clause-turning
returns-clause-turning g c =
    turning_on (contour_of g.P.Coordinate.IntNumber.value (g.P.ContourPoint.points c.args.points.now)) 0 c.loop-tested.tested _ _ _ (omega arith) (omega arith) c.loop-tested.invariant.turning c.search_zero_turn.ensures.turning
