use Rattle.std.proofs.Common.{◌≡◌, ◌+◌}
use Rattle.i_shape_core.proofs.Common.{contour_of, point_at, AreAfter}
use Rattle.i_shape_core.proofs.form.canonical.next_rival.Given as goal

abbrev pub invariant-loop-place : goal.invariant-loop-place
invariant-loop-place g l =
    let c = contour_of g.P.Coordinate.IntNumber.value l.initial.comparer.contour in
    record {
      contour : l.comparer.contour ≡ l.initial.comparer.contour;
      after : AreAfter c (point_at c l.kept) l.from l.place;
      counted : l.comparer.comparisons + l.from ≡ l.initial.comparer.comparisons + l.place;
    }
