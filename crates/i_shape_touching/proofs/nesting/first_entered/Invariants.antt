use Rattle.std.proofs.Common.{ℕ, ◌<◌}
use Rattle.i_shape_core.specs.IntPoint.{contour_of}
use Rattle.i_shape_touching.specs.Touching.{EntersHole}
use Rattle.i_shape_touching.proofs.nesting.first_entered.Given as goal

abbrev pub invariant-loop-other : goal.invariant-loop-other
invariant-loop-other g l = (j : ℕ) → j < l.other → EntersHole l.offsets (contour_of g.P.Coordinate.IntNumber.value (g.P.ContourPoint.points l.points)) l.hole j → ⊥
