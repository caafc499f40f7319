use Rattle.std.proofs.Common.{◌<◌, ◌*◌, ◌-◌, length}
use Rattle.i_shape_core.specs.IntPoint.{contour_of}
use Rattle.i_shape_contacts.specs.Steps.Chunks.{NoneWithin}
use Rattle.i_shape_contacts.proofs.chunks.touches_behind.Given as goal

abbrev pub invariant-loop-other : goal.invariant-loop-other
invariant-loop-other g l = record {
  past : l.fn.chunk < l.other;
  none : NoneWithin (g.C.Course.follows l.course) (contour_of g.P.Coordinate.IntNumber.value (g.P.ContourPoint.points l.points)) (g.O.Order.edge_at l.order) (l.fn.chunk * 8) l.to l.start (l.other * 8);
}

abbrev pub decreases-loop-other : goal.decreases-loop-other
decreases-loop-other g l = length l.blocks - l.other
