use Rattle.std.proofs.Common.{◌≤◌, length}
use Rattle.i_shape_core.specs.IntPoint.{contour_of}
use Rattle.i_shape_contacts.specs.Steps.Boxes.{AreBlocks, CountsChunks}
use Rattle.i_shape_contacts.proofs.blocks.blocks_of.Given as goal

abbrev pub invariant-loop-chunk : goal.invariant-loop-chunk
invariant-loop-chunk g l = record {
  count : CountsChunks (length l.blocks.items) (length l.points);
  within : l.chunk ≤ length l.blocks.items;
  blocks : AreBlocks g.P.Coordinate.IntNumber.value (g.C.Course.follows l.course) (contour_of g.P.Coordinate.IntNumber.value (g.P.ContourPoint.points l.points)) (g.O.Order.edge_at l.order) l.chunk l.blocks.items;
}

abbrev pub decreases-loop-chunk : goal.decreases-loop-chunk
decreases-loop-chunk g l = l.chunk
