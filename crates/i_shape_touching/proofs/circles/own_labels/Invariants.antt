use Rattle.std.proofs.Common.{◌≡◌, ◌≤◌, ◌<◌, ℕ, length, get_or, vec_len, vec_capacity}
use Rattle.i_shape_touching.proofs.circles.own_labels.Given as goal

abbrev pub invariant-loop-ring : goal.invariant-loop-ring
invariant-loop-ring l = record {
  len : vec_len l.labels ≡ l.ring;
  count : length l.labels.items ≡ l.ring;
  each : (k : ℕ) → k < l.ring → get_or l.labels.items k 0 ≡ k;
  room : l.count ≤ vec_capacity l.labels;
}
