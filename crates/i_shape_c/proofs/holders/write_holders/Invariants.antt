use Rattle.std.proofs.Common.{◌≡◌, take, drop}
use Rattle.std.specs.List.{AllZip}
use Rattle.i_shape.specs.IntPoint.{point_of}
use Rattle.i_shape_c.specs.Holders.{IsHolder}
use Rattle.i_shape_c.specs.Polygons.{polygon_arrays}
use Rattle.i_shape_c.proofs.holders.write_holders.Given as goal

abbrev pub invariant-loop-place : goal.invariant-loop-place
invariant-loop-place g l =
    let at = λ (p : g.row.P.Denot). point_of g.P.Coordinate.IntNumber.value (g.P.ContourPoint.point p) in
    record {
      each : AllZip (λ q. IsHolder at (polygon_arrays l.points l.contours l.shapes) l.rule (at q)) (take l.place l.about) (take l.place l.out);
      rest : drop l.place l.out ≡ drop l.place l.fn.out;
    }
