use Rattle.std.proofs.Common.{◌≡◌, map, take, drop}
use Rattle.i_shape_core.proofs.Common.{contour_of, winding}
use Rattle.i_shape_core.proofs.measure.winding.windings_about.Given as goal

abbrev pub invariant-loop-place : goal.invariant-loop-place
invariant-loop-place g l =
    let value = g.P.Coordinate.IntNumber.value in
    let contour = contour_of value (g.P.ContourPoint.points l.contour) in
    record {
      told : take l.place l.out ≡ map (winding contour) (contour_of value (g.Q.ContourPoint.points (take l.place l.points)));
      rest : drop l.place l.out ≡ drop l.place l.fn.out;
    }
