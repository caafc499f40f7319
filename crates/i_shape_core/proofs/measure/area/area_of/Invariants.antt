use Rattle.std.proofs.Common.{◌≡◌}
use Rattle.std.specs.Int.{int_wrap}
use Rattle.i_shape_core.specs.IntPoint.{contour_of}
use Rattle.i_shape_core.proofs.Sums.AreaByPlaces.{area_up_to}
use Rattle.i_shape_core.proofs.measure.area.area_of.Given as goal

abbrev pub invariant-loop-place : goal.invariant-loop-place
invariant-loop-place g l = g.P.Coordinate.Wide.WideIntNumber.value l.sum ≡ int_wrap g.P.Coordinate.Wide.WideIntNumber.width (area_up_to (contour_of g.P.Coordinate.IntNumber.value (g.P.ContourPoint.points l.points)) l.place)
