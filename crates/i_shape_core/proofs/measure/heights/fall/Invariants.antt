use Rattle.std.proofs.Common.{length, ◌≡◌, ℕ, ◌<◌, ◌≤◌, ◌+ℤ◌, pos, false, get_or, w64}
use Rattle.std.specs.Int.{int_wrap}
use Rattle.i_shape_core.proofs.Common.{point_of, point_at, is_above, winding_of_edge}
use Rattle.i_shape_core.specs.Heights.{asked_points, AllFit}
use Rattle.i_shape_core.proofs.measure.heights.fall.Given as goal

abbrev pub invariant-loop-place : goal.invariant-loop-place
invariant-loop-place g l =
    let value = g.I.IntNumber.value in
    let ps = asked_points value l.asked in
    record {
      room : length l.totals ≡ length l.asked;
      fit : AllFit l.totals;
      sooner : l.place ≤ l.from;
      within : l.place ≤ length l.asked;
      above : (j : ℕ) → l.place ≤ j → j < length ps → is_above (point_at ps j) (point_of value l.end) ≡ false;
      done : (j : ℕ) → l.place ≤ j → j < length ps → int_wrap w64 (get_or l.totals j (pos 0)) ≡ int_wrap w64 (get_or l.fn.totals j (pos 0) +ℤ winding_of_edge (point_at ps j) (record { start = point_of value l.start; end = point_of value l.end }));
      left : (j : ℕ) → j < l.place → get_or l.totals j (pos 0) ≡ get_or l.fn.totals j (pos 0);
    }

abbrev pub decreases-loop-place : goal.decreases-loop-place
decreases-loop-place g l = l.place
