use Rattle.std.proofs.Common.{◌-◌, length}
use Rattle.i_shape_core.specs.Reading.{read}
use Rattle.i_shape_touching.specs.Steps.Labels.{touch_points}
use Rattle.i_shape_touching.proofs.CircleGroups.{IsSearched}
use Rattle.i_shape_touching.proofs.circles.first_circle.Given as goal

abbrev pub invariant-loop-from : goal.invariant-loop-from
invariant-loop-from g l = IsSearched l.offsets (read g.P.Coordinate.IntNumber.value g.P.ContourPoint.points l.points) (touch_points g.P.Coordinate.IntNumber.value l.touches.items) l.labels.items l.from

abbrev pub decreases-loop-from : goal.decreases-loop-from
decreases-loop-from g l = length l.touches.items - l.from
