use Rattle.i_shape_core.specs.IntPoint.{contour_of}
use Rattle.i_shape_core.specs.Turning.{IsTurning}
use Rattle.i_shape_core.proofs.turn.turning.search_zero_turn.Given as goal

-- no turn so far is a zero turn
abbrev pub invariant-loop-place : goal.invariant-loop-place
invariant-loop-place g l = IsTurning (contour_of g.P.Coordinate.IntNumber.value (g.P.ContourPoint.points l.points)) l.first l.place
