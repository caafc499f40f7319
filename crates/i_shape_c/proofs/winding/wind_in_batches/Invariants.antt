use Rattle.std.proofs.Common.{◌≡◌, ◌++◌, ◌-◌, ◌≤◌, length, map, take, drop}
use Rattle.i_shape.specs.IntPoint.{point_of}
use Rattle.i_shape_c.specs.Windings.{contours_winding}
use Rattle.i_shape_c.proofs.winding.wind_in_batches.Given as goal

abbrev pub invariant-loop-start : goal.invariant-loop-start
invariant-loop-start g l =
    let at = λ (p : g.row.P.Denot). point_of g.P.Coordinate.IntNumber.value (g.P.ContourPoint.point p) in
    record {
      within : l.start ≤ length l.about;
      told : l.out ≡ map (λ q. contours_winding at l.points l.offsets (at q)) (take l.start l.about) ++ drop l.start l.fn.out;
    }

abbrev pub decreases-loop-start : goal.decreases-loop-start
decreases-loop-start g l = length l.about - l.start
