use Rattle.std.proofs.Common.{ℕ, ◌<◌, ◌≤◌, ◌*◌, ◌-◌, length}
use Rattle.i_shape_core.specs.IntPoint.{contour_of}
use Rattle.i_shape_contacts.specs.Contacts.{IsContactBy}
use Rattle.i_shape_contacts.proofs.blocks.contact_after.Given as goal

abbrev pub invariant-loop-chunk : goal.invariant-loop-chunk
invariant-loop-chunk g l = record {
  most : l.least ≤ length l.points;
  found : l.least < length l.points → IsContactBy (g.C.Course.follows l.course) (contour_of g.P.Coordinate.IntNumber.value (g.P.ContourPoint.points l.points)) l.first l.least;
  none : (m : ℕ) → m < l.chunk * 8 → m < length (contour_of g.P.Coordinate.IntNumber.value (g.P.ContourPoint.points l.points)) → IsContactBy (g.C.Course.follows l.course) (contour_of g.P.Coordinate.IntNumber.value (g.P.ContourPoint.points l.points)) l.first (g.O.Order.edge_at l.order m) → l.least ≤ g.O.Order.edge_at l.order m;
}

abbrev pub decreases-loop-chunk : goal.decreases-loop-chunk
decreases-loop-chunk g l = length l.blocks - l.chunk
