use Rattle.std.proofs.Common.{length, ◌-◌, ℕ, ◌<◌, ◌≤◌, ◌<ℤ◌}
use Rattle.i_shape_core.proofs.Common.{point_at}
use Rattle.i_shape_core.specs.Heights.{asked_points}
use Rattle.i_shape_c.proofs.edges.first_from.Given as goal

abbrev pub invariant-loop-low : goal.invariant-loop-low
invariant-loop-low g l =
    let value = g.I.IntNumber.value in
    record {
      order : l.low ≤ l.high;
      within : l.high ≤ length l.asked;
      below : (k : ℕ) → k < l.low → (point_at (asked_points value l.asked) k).y <ℤ value l.height;
    }

abbrev pub decreases-loop-low : goal.decreases-loop-low
decreases-loop-low g l = l.high - l.low
