use Rattle.std.proofs.Common.{◌≡◌, take}
use Rattle.i_shape.proofs.Common.{named_points, named_contours}
use Rattle.i_shape.proofs.flat.buffer.cleaning.shapes.checked_named.Given as goal

abbrev pub invariant-loop-range : goal.invariant-loop-range
invariant-loop-range l = record {
  points : l.points ≡ named_points l.contour_ranges (take l.range-index l.shape_ranges);
  contours : l.contours ≡ named_contours l.contour_ranges (take l.range-index l.shape_ranges);
}
