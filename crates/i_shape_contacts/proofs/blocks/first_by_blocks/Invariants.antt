use Rattle.std.proofs.Common.{ℕ, ◌<◌}
use Rattle.i_shape_core.specs.IntPoint.{contour_of}
use Rattle.i_shape_contacts.specs.Contacts.{IsContactBy}
use Rattle.i_shape_contacts.proofs.blocks.first_by_blocks.Given as goal

abbrev pub invariant-loop-first : goal.invariant-loop-first
invariant-loop-first g l = (i j : ℕ) → i < l.first → IsContactBy (g.C.Course.follows l.course) (contour_of g.P.Coordinate.IntNumber.value (g.P.ContourPoint.points l.points)) i j → ⊥
