use Rattle.std.proofs.Common.{◌≡◌, take}
use Rattle.i_shape.proofs.Common.{paths_of_shape, slices}
use Rattle.i_shape.proofs.flat.lists.copied_parts.Given as goal

abbrev pub invariant-loop-range : goal.invariant-loop-range
invariant-loop-range g l = paths_of_shape l.parts.items ≡ slices l.points (take l.range-index l.ranges)
