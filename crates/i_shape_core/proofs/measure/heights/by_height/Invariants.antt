use Rattle.std.proofs.Common.{◌≡◌, ◌≤◌, take, length, vec_len, vec_capacity}
use Rattle.i_shape_core.specs.Heights.{asks}
use Rattle.i_shape_core.proofs.measure.heights.by_height.Given as goal

abbrev pub invariant-loop-place : goal.invariant-loop-place
invariant-loop-place g l = record {
  asked : l.asked.items ≡ asks 0 (take l.place (g.Q.ContourPoint.points l.points));
  len : vec_len l.asked ≡ l.place;
  room : length l.points ≤ vec_capacity l.asked;
}
