use Rattle.std.proofs.Common.{◌≡◌, ◌+◌, ◌*◌, ◌≤◌, length}
use Rattle.i_shape_core.proofs.Common.{contour_of, IsZeroTurn, IsStacked}
use Rattle.i_shape_core.proofs.clean.simplifier.close.Given as goal

abbrev pub invariant-loop-left : goal.invariant-loop-left
invariant-loop-left g l =
    let c = contour_of g.P.Coordinate.IntNumber.value l.initial.probe.contour in
    record {
      contour : l.probe.contour ≡ l.initial.probe.contour;
      stacked : IsStacked IsZeroTurn c l.left (length c);
      fewer : length l.left ≤ length l.stack;
      most : l.probe.visits + 2 * length l.left ≤ 3 * length c;
      least : length c ≤ l.probe.visits + 2;
    }

abbrev pub decreases-loop-left : goal.decreases-loop-left
decreases-loop-left g l = length l.left
