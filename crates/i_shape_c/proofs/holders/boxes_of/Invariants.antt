use Rattle.std.proofs.Common.{◌≡◌, ◌-◌, length}
use Rattle.i_shape.specs.IntPoint.{point_of}
use Rattle.i_shape_c.specs.Holders.{AreBoxes}
use Rattle.i_shape_c.specs.Polygons.{polygon_arrays}
use Rattle.i_shape_c.proofs.holders.boxes_of.Given as goal

abbrev pub invariant-loop-place : goal.invariant-loop-place
invariant-loop-place g l =
    let value = g.P.Coordinate.IntNumber.value in
    record {
      count : length l.boxes.items ≡ l.place - 1;
      boxes : AreBoxes value (λ p. point_of value (g.P.ContourPoint.point p)) (polygon_arrays l.points l.contours l.shapes) l.boxes.items;
    }
