use Rattle.std.proofs.Common.{◌≡◌, length}
use Rattle.i_shape.proofs.Common.{readable_slices}
use Rattle.i_shape.proofs.source.float.buffer.first_readable.Given as goal

-- skipping a range that can't be read leaves the same paths
abbrev pub invariant-loop-range : goal.invariant-loop-range
invariant-loop-range g l = readable_slices l.points l.left ≡ readable_slices l.points l.ranges

abbrev pub decreases-loop-range : goal.decreases-loop-range
decreases-loop-range g l = length l.left
