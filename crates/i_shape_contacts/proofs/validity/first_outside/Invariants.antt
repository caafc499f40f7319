use Rattle.std.proofs.Common.{ℕ, ◌<◌}
use Rattle.i_shape_core.specs.IntPoint.{contour_of}
use Rattle.i_shape_contacts.specs.Validity.{IsHoleOutside}
use Rattle.i_shape_contacts.proofs.validity.first_outside.Given as goal

abbrev pub invariant-loop-hole : goal.invariant-loop-hole
invariant-loop-hole g l = (k : ℕ) → k < l.hole → IsHoleOutside l.offsets (contour_of g.P.Coordinate.IntNumber.value (g.P.ContourPoint.points l.points)) k → ⊥
