use Rattle.std.proofs.Common.{ℕ, ◌<◌}
use Rattle.i_shape_core.specs.IntPoint.{contour_of}
use Rattle.i_shape_contacts.specs.Contacts.{IsContactBy}
use Rattle.i_shape_contacts.proofs.plain.contact_after.Given as goal

abbrev pub invariant-loop-second : goal.invariant-loop-second
invariant-loop-second g l = (k : ℕ) → k < l.second → IsContactBy (g.C.Course.follows l.course) (contour_of g.P.Coordinate.IntNumber.value (g.P.ContourPoint.points l.points)) l.first k → ⊥
