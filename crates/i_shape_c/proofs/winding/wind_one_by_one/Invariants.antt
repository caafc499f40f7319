use Rattle.std.proofs.Common.{◌≡◌, map, take, drop}
use Rattle.i_shape.specs.IntPoint.{point_of}
use Rattle.i_shape_c.specs.Windings.{contours_winding}
use Rattle.i_shape_c.proofs.winding.wind_one_by_one.Given as goal

abbrev pub invariant-loop-place : goal.invariant-loop-place
invariant-loop-place g l =
    let value = g.P.Coordinate.IntNumber.value in
    record {
      told : take l.place l.out ≡ map (λ q. contours_winding (λ p. point_of value (g.P.ContourPoint.point p)) l.points l.offsets (point_of value (g.P.ContourPoint.point q))) (take l.place l.about);
      rest : drop l.place l.out ≡ drop l.place l.fn.out;
    }
