use Rattle.std.proofs.Common.{◌+◌, ◌-◌, ◌≤◌, length}
use Rattle.i_shape_core.specs.IntPoint.{contour_of}
use Rattle.i_shape_core.specs.Turning.{IsTurning}
use Rattle.i_shape_core.proofs.turn.turning.count_turning.Given as goal

-- no turn of the blocks so far is a zero turn
abbrev pub invariant-loop-tested : goal.invariant-loop-tested
invariant-loop-tested g l = record {
  within : l.tested + 2 ≤ length l.points;
  turning : IsTurning (contour_of g.P.Coordinate.IntNumber.value (g.P.ContourPoint.points l.points)) 0 l.tested;
}

abbrev pub decreases-loop-tested : goal.decreases-loop-tested
decreases-loop-tested g l = length l.points - l.tested
