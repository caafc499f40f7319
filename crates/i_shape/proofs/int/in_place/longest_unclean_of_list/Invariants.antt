use Rattle.std.proofs.Common.{take, length, Contains}
use Rattle.i_shape.proofs.Common.{concatenated, shapes_of, LongestUnclean}
use Rattle.i_shape.proofs.int.in_place.longest_unclean_of_list.Given as goal

abbrev pub invariant-loop-shape : goal.invariant-loop-shape
invariant-loop-shape g l = LongestUnclean (Contains (concatenated (shapes_of g.I.IntNumber.value (take l.shape-index l.shapes)))) g.C.ContourCleaner.meaning.clean length l.longest
