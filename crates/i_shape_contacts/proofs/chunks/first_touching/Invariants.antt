use Rattle.std.proofs.Common.{◌*◌, length}
use Rattle.i_shape_core.specs.IntPoint.{contour_of}
use Rattle.i_shape_contacts.specs.Steps.Chunks.{NoneBehind}
use Rattle.i_shape_contacts.proofs.chunks.first_touching.Given as goal

abbrev pub invariant-loop-chunk : goal.invariant-loop-chunk
invariant-loop-chunk g l = NoneBehind (g.C.Course.follows l.course) (contour_of g.P.Coordinate.IntNumber.value (g.P.ContourPoint.points l.points)) (g.O.Order.edge_at l.order) (length l.points) (l.chunk * 8)
