use Rattle.std.proofs.Common.{take, length, Contains}
use Rattle.i_shape.proofs.Common.{shape_of, LongestUnclean}
use Rattle.i_shape.proofs.int.in_place.longest_unclean.Given as goal

abbrev pub invariant-loop-contour : goal.invariant-loop-contour
invariant-loop-contour g l = LongestUnclean (Contains (shape_of g.I.IntNumber.value (take l.contour-index l.shape))) g.C.ContourCleaner.meaning.clean length l.longest
