use Rattle.std.proofs.Common.{◌≡◌, ◌+◌, ◌-◌, ◌*◌, ◌≤◌}
use Rattle.i_shape_core.specs.IntPoint.{contour_of}
use Rattle.i_shape_core.proofs.LeastRotation.Search.{IsSearch}
use Rattle.i_shape_core.proofs.form.canonical.search_starts.Given as goal

abbrev pub invariant-loop-challenger : goal.invariant-loop-challenger
invariant-loop-challenger g l = record {
  contour : l.comparer.contour ≡ l.initial.comparer.contour;
  search : IsSearch (contour_of g.P.Coordinate.IntNumber.value l.initial.comparer.contour) l.count l.kept l.challenger;
  slow : l.challenger ≤ l.comparer.comparisons + 1;
  moved : l.comparer.comparisons + 1 ≤ l.kept + l.challenger;
  short : l.challenger ≤ l.count;
}

abbrev pub decreases-loop-challenger : goal.decreases-loop-challenger
decreases-loop-challenger g l = 2 * l.count - (l.kept + l.challenger)
