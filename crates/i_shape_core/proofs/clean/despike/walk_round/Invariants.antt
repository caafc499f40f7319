use Rattle.std.proofs.Common.{◌≡◌, ◌+◌, ◌*◌, length}
use Rattle.i_shape_core.proofs.Common.{contour_of, point_of, IsBack, IsRingState}
use Rattle.i_shape_core.proofs.Walks.RingStates.{IsHeld}
use Rattle.i_shape_core.proofs.clean.despike.walk_round.Given as goal

abbrev pub invariant-loop-before : goal.invariant-loop-before
invariant-loop-before g l =
    let value = g.P.Coordinate.IntNumber.value in
    let whole = contour_of value l.initial.probe.contour in
    record {
      contour : l.probe.contour ≡ l.initial.probe.contour;
      state : IsRingState IsBack whole l.ring l.probe.visits;
      held : IsHeld whole l.ring.places (point_of value l.before) (point_of value l.here) (point_of value l.after);
      room : l.ring.room ≡ l.initial.ring.room;
    }

abbrev pub decreases-loop-before : goal.decreases-loop-before
decreases-loop-before g l = 2 * length l.ring.places + l.ring.untested
