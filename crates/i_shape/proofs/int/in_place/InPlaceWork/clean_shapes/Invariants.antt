use Rattle.std.proofs.Common.{ℕ}
use Rattle.i_shape.proofs.Common.{shapes_of, AreLeftOf, HasRoom}
use Rattle.i_shape.proofs.InPlace.Left.{SoFar}
use Rattle.i_shape.proofs.int.in_place.InPlaceWork.clean_shapes.Given as goal

abbrev pub invariant-loop-shape : goal.invariant-loop-shape
invariant-loop-shape g l = record {
  left : SoFar (AreLeftOf g.C.ContourCleaner.meaning.answers) (shapes_of g.I.IntNumber.value l.initial.shape-items) (shapes_of g.I.IntNumber.value l.shape-items) l.shape-index;
  keeps_room : (n : ℕ) → HasRoom g.C.ContourCleaner.has_room l.initial.self n → HasRoom g.C.ContourCleaner.has_room l.self n;
}
