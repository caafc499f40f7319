use Rattle.i_shape_core.specs.IntPoint.{contour_of}
use Rattle.i_shape_contacts.specs.Steps.Chunks.{NoneTouch}
use Rattle.i_shape_contacts.proofs.chunks.touches_ranks.Given as goal

abbrev pub invariant-loop-rank : goal.invariant-loop-rank
invariant-loop-rank g l = NoneTouch (g.C.Course.follows l.course) (contour_of g.P.Coordinate.IntNumber.value (g.P.ContourPoint.points l.points)) (g.O.Order.edge_at l.order) l.from l.to l.start l.rank
