use Rattle.std.proofs.Common.{take}
use Rattle.i_shape.proofs.Common.{shapes_of, ListClean}
use Rattle.i_shape.proofs.int.cleaning.clean_list.Given as goal

abbrev pub invariant-loop-shape : goal.invariant-loop-shape
invariant-loop-shape g l =
    let value = g.I.IntNumber.value in
    ListClean g.C.ContourCleaner.meaning.answers (shapes_of value (take l.shape-index l.shapes)) (shapes_of value l.kept.items)
