use Rattle.std.proofs.Common.{◌≡◌, ◌<◌, ◌≤◌, ℕ, ℤ, List, length, get_or, map, pos, IsPermutation}
use Rattle.i_shape_core.proofs.Common.{Point, point_at, IntPoint}
use Rattle.i_shape_core.specs.Heights.{asked_points, asks}
use Rattle.i_shape_core.specs.declared.measure.heights.Asked.{Asked}
use Rattle.i_shape_core.proofs.measure.heights.write_totals.Given as goal

abbrev pub invariant-loop-at : goal.invariant-loop-at
invariant-loop-at g l =
    let value = g.I.IntNumber.value in
    let ps = asked_points value l.asked in
    record {
      room : length l.out ≡ length l.fn.out;
      told : (points : List (IntPoint _)) (f : Point → ℤ) → IsPermutation (asks 0 points) l.asked → l.totals ≡ map f ps → (j : ℕ) (d : Asked _) → j < l.at → get_or l.out (get_or l.asked j d).place (pos 0) ≡ f (point_at ps j);
      rest : (points : List (IntPoint _)) → IsPermutation (asks 0 points) l.asked → (i : ℕ) → length points ≤ i → get_or l.out i (pos 0) ≡ get_or l.fn.out i (pos 0);
    }
