use Rattle.std.proofs.Common.{ℕ, ◌+◌, ◌<◌, ◌≤◌}
use Rattle.i_shape_c.specs.Batch.{offset}
use Rattle.i_shape_c.proofs.validity.most_offsets.Given as goal

abbrev pub invariant-loop-place : goal.invariant-loop-place
invariant-loop-place l = (k : ℕ) → k + 1 < l.place → offset l.shapes (k + 1) + 1 ≤ l.most + offset l.shapes k
