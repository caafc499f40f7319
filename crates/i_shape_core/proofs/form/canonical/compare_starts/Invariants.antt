use Rattle.std.proofs.Common.{◌≡◌, ◌≤◌, ◌+◌, ◌-◌}
use Rattle.i_shape_core.proofs.Common.{contour_of, Agree}
use Rattle.i_shape_core.proofs.form.canonical.compare_starts.Given as goal

abbrev pub invariant-loop-matched : goal.invariant-loop-matched
invariant-loop-matched g l = record {
  contour : l.comparer.contour ≡ l.initial.comparer.contour;
  agree : Agree (contour_of g.P.Coordinate.IntNumber.value l.initial.comparer.contour) l.kept l.rival l.matched;
  within : l.matched ≤ l.count;
  counted : l.comparer.comparisons + 1 ≡ l.initial.comparer.comparisons + l.matched;
}

abbrev pub decreases-loop-matched : goal.decreases-loop-matched
decreases-loop-matched g l = l.count - l.matched
