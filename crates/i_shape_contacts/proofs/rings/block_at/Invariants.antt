use Rattle.std.proofs.Common.{ℕ, ◌<◌, ◌≤◌, ◌+◌, ◌-◌, length}
use Rattle.i_shape_core.specs.IntPoint.{contour_of}
use Rattle.i_shape_contacts.specs.Steps.Rings.{HoldsRing}
use Rattle.i_shape_contacts.proofs.rings.block_at.Given as goal

abbrev pub invariant-loop-next : goal.invariant-loop-next
invariant-loop-next g l = record {
  further : l.ring < l.next;
  holds : (j : ℕ) → l.ring ≤ j → j < l.next → j + 1 < length l.offsets → HoldsRing g.P.Coordinate.IntNumber.value l.offsets (contour_of g.P.Coordinate.IntNumber.value (g.P.ContourPoint.points l.points)) l.bounds j;
}

abbrev pub decreases-loop-next : goal.decreases-loop-next
decreases-loop-next g l = length l.blocks - l.next
