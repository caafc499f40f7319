use Rattle.std.proofs.Common.{ℕ, ◌<◌, ◌≤◌}
use Rattle.i_shape_core.specs.IntPoint.{contour_of}
use Rattle.i_shape_contacts.specs.Steps.Boxes.{HoldsEdge}
use Rattle.i_shape_contacts.proofs.blocks.bounds_of_chunk.Given as goal

abbrev pub invariant-loop-rank : goal.invariant-loop-rank
invariant-loop-rank g l = (k : ℕ) → l.from ≤ k → k < l.rank → HoldsEdge g.P.Coordinate.IntNumber.value (g.C.Course.follows l.course) l.bounds (contour_of g.P.Coordinate.IntNumber.value (g.P.ContourPoint.points l.points)) (g.O.Order.edge_at l.order k)
