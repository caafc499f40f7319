use Rattle.std.proofs.Common.{◌≡◌, take}
use Rattle.i_shape.proofs.Common.{shape_lists, shapes}
use Rattle.i_shape.proofs.flat.lists.copied_shapes.Given as goal

abbrev pub invariant-loop-range : goal.invariant-loop-range
invariant-loop-range g l = shape_lists l.list.items ≡ shapes l.points l.contour_ranges (take l.range-index l.shape_ranges)
