use Rattle.std.proofs.Common.{◌≡◌, ℕ, ◌<◌}
use Rattle.i_shape_core.specs.IntPoint.{contour_of}
use Rattle.i_shape_core.specs.Contour.{point_at}
use Rattle.i_shape_contacts.proofs.plain.are_all_equal.Given as goal

abbrev pub invariant-loop-place : goal.invariant-loop-place
invariant-loop-place g l = (k : ℕ) → k < l.place → point_at (contour_of g.P.Coordinate.IntNumber.value (g.P.ContourPoint.points l.points)) k ≡ point_at (contour_of g.P.Coordinate.IntNumber.value (g.P.ContourPoint.points l.points)) 0
