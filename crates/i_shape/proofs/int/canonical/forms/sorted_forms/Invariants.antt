use Rattle.std.proofs.Common.{take}
use Rattle.i_shape.proofs.Common.{shape_of, Survivors}
use Rattle.i_shape.proofs.int.canonical.forms.sorted_forms.Given as goal

abbrev pub invariant-loop-contour : goal.invariant-loop-contour
invariant-loop-contour g l =
    let value = g.I.IntNumber.value in
    Survivors g.C.ContourCleaner.meaning.answers (shape_of value (take l.contour-index l.contours)) (shape_of value l.sorted.items)
