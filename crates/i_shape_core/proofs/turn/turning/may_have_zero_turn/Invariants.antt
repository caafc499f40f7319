use Rattle.std.proofs.Common.{◌≡◌, ◌+◌, ◌≤◌}
use Rattle.i_shape_core.specs.IntPoint.{contour_of}
use Rattle.i_shape_core.specs.Turning.{IsTurning}
use Rattle.i_shape_core.proofs.turn.turning.may_have_zero_turn.Given as goal

-- no turn so far is a zero turn if none was counted
abbrev pub invariant-loop-at : goal.invariant-loop-at
invariant-loop-at g l = record {
  few : l.zero_turns ≤ l.at;
  none : l.zero_turns ≡ 0 → IsTurning (contour_of g.P.Coordinate.IntNumber.value (g.P.ContourPoint.points l.points)) l.first (l.first + l.at);
}
