use Rattle.std.proofs.Common.{◌≡◌, ◌<◌, ℕ}
use Rattle.i_shape_core.proofs.Common.{contour_of, IsBack, IsRemovable}
use Rattle.i_shape_core.proofs.clean.despike.first_back.Given as goal

abbrev pub invariant-loop-place : goal.invariant-loop-place
invariant-loop-place g l = record {
  contour : l.probe.contour ≡ l.fn.probe.contour;
  visits : l.probe.visits ≡ l.place;
  earlier : (k : ℕ) → k < l.place → IsRemovable IsBack (contour_of g.P.Coordinate.IntNumber.value l.fn.probe.contour) k → ⊥;
}
