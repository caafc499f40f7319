use Rattle.std.proofs.Common.{◌≡◌, take, drop}
use Rattle.std.specs.List.{AllZip}
use Rattle.i_shape.specs.IntPoint.{point_of}
use Rattle.i_shape_c.specs.Windings.{contours_winding}
use Rattle.i_shape_c.proofs.location.tell_one_by_one.Given as goal

abbrev pub invariant-loop-place : goal.invariant-loop-place
invariant-loop-place g l =
    let at = λ (p : g.row.P.Denot). point_of g.P.Coordinate.IntNumber.value (g.P.ContourPoint.point p) in
    record {
      each : AllZip (λ q. g.T.Telling.tells l.rule (contours_winding at l.points l.offsets (at q))) (take l.place l.about) (take l.place l.out);
      rest : drop l.place l.out ≡ drop l.place l.fn.out;
    }
