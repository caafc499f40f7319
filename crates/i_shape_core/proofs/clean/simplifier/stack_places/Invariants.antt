use Rattle.std.proofs.Common.{◌≡◌, ◌≤◌, length, vec_capacity}
use Rattle.i_shape_core.proofs.Common.{contour_of, IsZeroTurn, IsWalked}
use Rattle.i_shape_core.proofs.clean.simplifier.stack_places.Given as goal

abbrev pub invariant-loop-place : goal.invariant-loop-place
invariant-loop-place g l = record {
  contour : l.probe.contour ≡ l.initial.probe.contour;
  walked : IsWalked IsZeroTurn (contour_of g.P.Coordinate.IntNumber.value l.initial.probe.contour) l.stack.items l.place l.probe.visits;
  room : length l.initial.probe.contour ≤ vec_capacity l.stack;
  same_room : vec_capacity l.stack ≡ vec_capacity l.initial.stack;
}
