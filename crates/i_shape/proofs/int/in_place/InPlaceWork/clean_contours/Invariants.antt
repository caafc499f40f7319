use Rattle.std.proofs.Common.{ℕ}
use Rattle.i_shape.proofs.Common.{shape_of, IsLeftOf, HasRoom}
use Rattle.i_shape.proofs.InPlace.Left.{SoFar}
use Rattle.i_shape.proofs.int.in_place.InPlaceWork.clean_contours.Given as goal

abbrev pub invariant-loop-contour : goal.invariant-loop-contour
invariant-loop-contour g l = record {
  left : SoFar (IsLeftOf g.C.ContourCleaner.meaning.answers) (shape_of g.I.IntNumber.value l.initial.contour-items) (shape_of g.I.IntNumber.value l.contour-items) l.contour-index;
  keeps_room : (n : ℕ) → HasRoom g.C.ContourCleaner.has_room l.initial.self n → HasRoom g.C.ContourCleaner.has_room l.self n;
}
