use Rattle.std.proofs.Common.{take}
use Rattle.i_shape.proofs.Common.{shape_of, EachContour}
use Rattle.i_shape.proofs.int.cleaning.is_clean_shape.Given as goal

abbrev pub invariant-loop-contour : goal.invariant-loop-contour
invariant-loop-contour g l = EachContour g.C.ContourCleaner.meaning.clean (shape_of g.I.IntNumber.value (take l.contour-index l.shape))
