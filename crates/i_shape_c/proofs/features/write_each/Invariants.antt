use Rattle.std.proofs.Common.{ℕ, ◌+◌, ◌-◌, ◌<◌, ◌≤◌, set}
use Rattle.i_shape.specs.IntPoint.{point_of}
use Rattle.i_shape_c.specs.Steps.Appended.{polygons_of}
use Rattle.i_shape_c.specs.Batch.{offset}
use Rattle.i_shape_c.proofs.FeaturesSorted.{PolygonsBegun}
use Rattle.i_shape_c.proofs.features.write_each.Given as goal

abbrev pub invariant-loop-place : goal.invariant-loop-place
invariant-loop-place g l = record {
  begun : PolygonsBegun g.C.ContourCleaner.meaning.answers (λ p. point_of g.P.Coordinate.IntNumber.value (g.P.ContourPoint.point p)) (polygons_of l.points l.rings l.shapes (l.place - 1)) l.fn.out_points l.out_points (set l.fn.out_contours 0 0) l.out_contours (set l.fn.out_shapes 0 0) l.out_shapes
      (record { points = 0; contours = 0; shapes = 0 }) l.counts;
  fewer_points : l.counts.points + offset l.rings 0 ≤ offset l.rings (offset l.shapes (l.place - 1) - offset l.shapes 0);
  fewer_contours : l.counts.contours + offset l.shapes 0 ≤ offset l.shapes (l.place - 1);
  fewer_shapes : l.counts.shapes < l.place;
  keeps_room : (n : ℕ) → g.C.ContourCleaner.has_room l.initial.cleaner n → g.C.ContourCleaner.has_room l.cleaner n;
}
