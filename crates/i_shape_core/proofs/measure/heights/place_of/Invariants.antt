use Rattle.std.proofs.Common.{length, ◌-◌, ◌≡◌, ℕ, ◌<◌, ◌≤◌, true, false}
use Rattle.i_shape_core.proofs.Common.{point_of, point_at, is_above}
use Rattle.i_shape_core.specs.Heights.{asked_points}
use Rattle.i_shape_core.proofs.measure.heights.place_of.Given as goal

abbrev pub invariant-loop-low : goal.invariant-loop-low
invariant-loop-low g l =
    let value = g.I.IntNumber.value in
    let ps = asked_points value l.asked in
    record {
      order : l.low ≤ l.high;
      within : l.high ≤ length l.asked;
      below : (j : ℕ) → j < l.low → is_above (point_at ps j) (point_of value l.start) ≡ true;
      above : (j : ℕ) → l.high ≤ j → j < length ps → is_above (point_at ps j) (point_of value l.start) ≡ false;
    }

abbrev pub decreases-loop-low : goal.decreases-loop-low
decreases-loop-low g l = l.high - l.low
