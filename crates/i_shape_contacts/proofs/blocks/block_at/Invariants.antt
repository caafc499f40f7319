use Rattle.std.proofs.Common.{◌<◌, ◌*◌, ◌-◌, length}
use Rattle.i_shape_core.specs.IntPoint.{contour_of}
use Rattle.i_shape_contacts.specs.Steps.Boxes.{HoldsRanks}
use Rattle.i_shape_contacts.proofs.blocks.block_at.Given as goal

abbrev pub invariant-loop-next : goal.invariant-loop-next
invariant-loop-next g l = record {
  further : l.chunk < l.next;
  holds : HoldsRanks g.P.Coordinate.IntNumber.value (g.C.Course.follows l.fn.course) l.bounds (contour_of g.P.Coordinate.IntNumber.value (g.P.ContourPoint.points l.fn.points)) (g.O.Order.edge_at l.fn.order) (l.chunk * 8) (l.next * 8);
}

abbrev pub decreases-loop-next : goal.decreases-loop-next
decreases-loop-next g l = length l.blocks - l.next
