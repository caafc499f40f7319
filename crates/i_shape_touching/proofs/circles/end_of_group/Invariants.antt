use Rattle.std.proofs.Common.{◌≡◌, ◌≤◌, ◌<◌, ℕ}
use Rattle.i_shape_core.specs.Contour.{point_at}
use Rattle.i_shape_touching.specs.Steps.Labels.{touch_points}
use Rattle.i_shape_touching.proofs.circles.end_of_group.Given as goal

abbrev pub invariant-loop-to : goal.invariant-loop-to
invariant-loop-to g l = (k : ℕ) → l.from ≤ k → k < l.to → point_at (touch_points g.I.IntNumber.value l.touches) k ≡ point_at (touch_points g.I.IntNumber.value l.touches) l.from
