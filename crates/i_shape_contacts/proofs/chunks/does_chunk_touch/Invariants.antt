use Rattle.std.proofs.Common.{ℕ, ◌≡◌, ◌<◌, ◌≤◌, ◌+◌}
use Rattle.i_shape_core.specs.IntPoint.{contour_of}
use Rattle.i_shape_contacts.specs.Steps.Boxes.{HoldsEdge}
use Rattle.i_shape_contacts.specs.Steps.Chunks.{NoneTouch}
use Rattle.i_shape_contacts.proofs.chunks.does_chunk_touch.Given as goal

abbrev pub invariant-loop-rank : goal.invariant-loop-rank
invariant-loop-rank g l = record {
  none : NoneTouch (g.C.Course.follows l.course) (contour_of g.P.Coordinate.IntNumber.value (g.P.ContourPoint.points l.points)) (g.O.Order.edge_at l.order) l.from l.rank l.from l.rank;
  is : (m : ℕ) → m + 1 ≡ l.rank → l.before ≡ g.O.Order.edge_at l.order m;
  held : (m : ℕ) → l.from ≤ m → m + 1 < l.rank → HoldsEdge g.P.Coordinate.IntNumber.value (g.C.Course.follows l.course) l.bounds (contour_of g.P.Coordinate.IntNumber.value (g.P.ContourPoint.points l.points)) (g.O.Order.edge_at l.order m);
  last : HoldsEdge g.P.Coordinate.IntNumber.value (g.C.Course.follows l.course) l.last (contour_of g.P.Coordinate.IntNumber.value (g.P.ContourPoint.points l.points)) l.before;
}
