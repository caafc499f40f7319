use Rattle.std.proofs.Common.{ℕ, ◌<◌, ◌-◌, length}
use Rattle.i_shape_core.specs.IntPoint.{contour_of}
use Rattle.i_shape_contacts.specs.Validity.{IsHoleWithin}
use Rattle.i_shape_contacts.proofs.validity.first_around.Given as goal

abbrev pub invariant-loop-other : goal.invariant-loop-other
invariant-loop-other g l = record {
  past : 0 < l.other;
  none : (j : ℕ) → j < l.other → IsHoleWithin l.offsets (contour_of g.P.Coordinate.IntNumber.value (g.P.ContourPoint.points l.points)) l.hole j → ⊥;
}

abbrev pub decreases-loop-other : goal.decreases-loop-other
decreases-loop-other g l = length l.offsets - l.other
