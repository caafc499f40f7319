use Rattle.std.proofs.Common.{◌≡◌, ◌+◌}
use Rattle.i_shape_core.specs.IntPoint.{contour_of}
use Rattle.i_shape_core.proofs.LeastRotation.Readings.{RunsAgree}
use Rattle.i_shape_core.proofs.form.canonical.compare_runs.Given as goal

abbrev pub invariant-loop-step : goal.invariant-loop-step
invariant-loop-step g l = record {
  contour : l.comparer.contour ≡ l.initial.comparer.contour;
  agree : RunsAgree (contour_of g.P.Coordinate.IntNumber.value l.initial.comparer.contour) l.ours l.theirs l.step;
  counted : l.comparer.comparisons ≡ l.initial.comparer.comparisons + l.step;
}
