use Rattle.std.proofs.Common.{◌≡◌, ◌++◌, List, take}
use Rattle.i_shape.proofs.Common.{Point, Survivors, shape_of}
use Rattle.i_shape.proofs.int.cleaning.append_holes.Given as goal

abbrev pub invariant-loop-contour : goal.invariant-loop-contour
invariant-loop-contour g l =
    let value = g.I.IntNumber.value in
    (more : List (List Point)) × Survivors g.C.ContourCleaner.meaning.answers (shape_of value (take l.contour-index l.contours)) more
    × (shape_of value l.kept.items ≡ shape_of value l.initial.kept.items ++ more)
