use Rattle.std.proofs.Common.{◌≡◌, filter}
use Rattle.i_shape.proofs.Common.{shapes_of, has_points}
use Rattle.i_shape.proofs.InPlace.Left.{SoFar}
use Rattle.i_shape.proofs.int.in_place.remove_collapsed_shapes.Given as goal

abbrev pub invariant-loop-shape : goal.invariant-loop-shape
invariant-loop-shape g l = SoFar (λ s t. t ≡ filter has_points s) (shapes_of g.I.IntNumber.value l.initial.shape-items) (shapes_of g.I.IntNumber.value l.shape-items) l.shape-index
