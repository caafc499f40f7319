use Rattle.std.proofs.Common.{◌+◌, inr, arith}
use Rattle.i_shape_core.specs.IntPoint.{contour_of}
use Rattle.i_shape_core.proofs.Walks.StackReads.{holds_by_test, fails_by_test}
use Rattle.i_shape_core.proofs.Walks.Turning.{turning_more}
use Rattle.i_shape_core.proofs.turn.turning.search_zero_turn.Goals as goal

pub loop-place-preserved : goal.loop-place-preserved
loop-place-preserved g c =
    turning_more (contour_of g.P.Coordinate.IntNumber.value (g.P.ContourPoint.points c.args.points.now)) c.args.first c.loop-place.place (c.loop-place.place + 1) (omega arith) c.loop-place.invariant
    (fails_by_test c.is_zero_turn.result c.is_zero_turn.ensures c.if-is_zero_turn.false)

pub returns-then-is_zero_turn-clause-stopped : goal.returns-then-is_zero_turn-clause-stopped
returns-then-is_zero_turn-clause-stopped g c = inr (holds_by_test c.is_zero_turn.result c.is_zero_turn.ensures c.if-is_zero_turn.true)
