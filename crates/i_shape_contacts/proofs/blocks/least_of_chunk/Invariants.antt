use Rattle.std.proofs.Common.{◌≡◌, ◌<◌, ◌≤◌, ℕ}
use Rattle.i_shape_core.specs.IntPoint.{contour_of}
use Rattle.i_shape_contacts.specs.Contacts.{IsContactBy}
use Rattle.i_shape_contacts.proofs.blocks.least_of_chunk.Given as goal

abbrev pub invariant-loop-rank : goal.invariant-loop-rank
invariant-loop-rank g l = record {
  most : l.least ≤ l.fn.most;
  found : (l.least ≡ l.fn.most → ⊥) → IsContactBy (g.C.Course.follows l.course) (contour_of g.P.Coordinate.IntNumber.value (g.P.ContourPoint.points l.points)) l.first l.least;
  tried : (m : ℕ) → l.from ≤ m → m < l.rank → IsContactBy (g.C.Course.follows l.course) (contour_of g.P.Coordinate.IntNumber.value (g.P.ContourPoint.points l.points)) l.first (g.O.Order.edge_at l.order m) → l.least ≤ g.O.Order.edge_at l.order m;
}
