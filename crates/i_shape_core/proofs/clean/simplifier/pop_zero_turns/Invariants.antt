use Rattle.std.proofs.Common.{◌≡◌, ◌+◌, vec_len, vec_capacity}
use Rattle.i_shape_core.proofs.Common.{contour_of, IsZeroTurn, IsWalked}
use Rattle.i_shape_core.proofs.clean.simplifier.pop_zero_turns.Given as goal

abbrev pub invariant-loop-stack : goal.invariant-loop-stack
invariant-loop-stack g l = record {
  contour : l.probe.contour ≡ l.initial.probe.contour;
  walked : IsWalked IsZeroTurn (contour_of g.P.Coordinate.IntNumber.value l.initial.probe.contour) l.stack.items l.place l.probe.visits;
  room : vec_capacity l.stack ≡ vec_capacity l.initial.stack;
  counted : l.probe.visits + vec_len l.stack ≡ l.initial.probe.visits + vec_len l.initial.stack;
}

abbrev pub decreases-loop-stack : goal.decreases-loop-stack
decreases-loop-stack g l = vec_len l.stack
