use Rattle.std.proofs.Common.{◌≡◌, ℕ, ◌+◌, ◌-◌, ◌≤◌, map}
use Rattle.std.specs.List.{range_with_len}
use Rattle.i_shape.specs.IntPoint.{point_of}
use Rattle.i_shape_c.specs.Batch.{offset, nth_contour}
use Rattle.i_shape_c.proofs.PolygonsLeft.{ShapeBegun}
use Rattle.i_shape_c.proofs.polygons.append_polygon.Given as goal

abbrev pub invariant-loop-place : goal.invariant-loop-place
invariant-loop-place g l = record {
  begun : ShapeBegun g.C.ContourCleaner.meaning.answers (λ p. point_of g.P.Coordinate.IntNumber.value (g.P.ContourPoint.point p)) (map (nth_contour l.points l.rings) (range_with_len 0 (l.place - 1))) l.fn.out_points l.out_points l.fn.out_contours l.out_contours l.fn.counts l.written;
  fewer_points : l.written.points + offset l.rings 0 ≤ l.fn.counts.points + offset l.rings (l.place - 1);
  fewer_contours : l.written.contours + 1 ≤ l.fn.counts.contours + l.place;
  shapes : l.written.shapes ≡ l.fn.counts.shapes;
  keeps_room : (n : ℕ) → g.C.ContourCleaner.has_room l.initial.cleaner n → g.C.ContourCleaner.has_room l.cleaner n;
}
