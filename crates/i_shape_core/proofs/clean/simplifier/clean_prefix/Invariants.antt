use Rattle.std.proofs.Common.{◌≡◌, ◌+◌}
use Rattle.std.specs.List.{range_with_len}
use Rattle.i_shape_core.proofs.Common.{contour_of, IsZeroTurn, IsStacked}
use Rattle.i_shape_core.proofs.clean.simplifier.clean_prefix.Given as goal

abbrev pub invariant-loop-place : goal.invariant-loop-place
invariant-loop-place g l = record {
  contour : l.probe.contour ≡ l.initial.probe.contour;
  clean : IsStacked IsZeroTurn (contour_of g.P.Coordinate.IntNumber.value l.initial.probe.contour) (range_with_len 0 l.place) l.place;
  visits : l.probe.visits + 2 ≡ l.place;
}
