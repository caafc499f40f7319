use Rattle.std.proofs.Common.{◌<◌, ◌≤◌, ◌-◌, length}
use Rattle.i_shape_core.specs.Rings.{offset}
use Rattle.i_shape_touching.proofs.touches.ring_of_edge.Given as goal

abbrev pub invariant-loop-high : goal.invariant-loop-high
invariant-loop-high l = record {
  order : l.low < l.high;
  within : l.high < length l.offsets;
  from : offset l.offsets l.low ≤ l.edge;
  below : l.edge < offset l.offsets l.high;
}

abbrev pub decreases-loop-high : goal.decreases-loop-high
decreases-loop-high l = l.high - l.low
