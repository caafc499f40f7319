use Rattle.std.proofs.Common.{ℕ, ◌<◌}
use Rattle.i_shape_core.specs.IntPoint.{contour_of}
use Rattle.i_shape_contacts.specs.Validity.{IsDegenerateRing}
use Rattle.i_shape_contacts.proofs.validity.first_degenerate.Given as goal

abbrev pub invariant-loop-ring : goal.invariant-loop-ring
invariant-loop-ring g l = (k : ℕ) → k < l.ring → IsDegenerateRing l.offsets (contour_of g.P.Coordinate.IntNumber.value (g.P.ContourPoint.points l.points)) k → ⊥
