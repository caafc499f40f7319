use Rattle.std.proofs.Common.{take}
use Rattle.i_shape.proofs.Common.{shapes_of, EachShape}
use Rattle.i_shape.proofs.int.cleaning.is_clean_list.Given as goal

abbrev pub invariant-loop-shape : goal.invariant-loop-shape
invariant-loop-shape g l = EachShape g.C.ContourCleaner.meaning.clean (shapes_of g.I.IntNumber.value (take l.shape-index l.shapes))
