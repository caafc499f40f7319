use Rattle.std.proofs.Common.{◌<◌, ◌≤◌, length}
use Rattle.i_shape_core.specs.IntPoint.{contour_of}
use Rattle.i_shape_contacts.specs.Steps.Rings.{AreRingBlocks}
use Rattle.i_shape_contacts.proofs.rings.blocks_of.Given as goal

abbrev pub invariant-loop-ring : goal.invariant-loop-ring
invariant-loop-ring g l = record {
  few : l.ring < length l.offsets;
  within : l.ring ≤ length l.blocks.items;
  blocks : AreRingBlocks g.P.Coordinate.IntNumber.value l.offsets (contour_of g.P.Coordinate.IntNumber.value (g.P.ContourPoint.points l.points)) l.ring l.blocks.items;
}

abbrev pub decreases-loop-ring : goal.decreases-loop-ring
decreases-loop-ring g l = l.ring
