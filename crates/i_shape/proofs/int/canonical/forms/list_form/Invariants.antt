use Rattle.std.proofs.Common.{take}
use Rattle.i_shape.proofs.Common.{shapes_of, Survivors, ShapeForm}
use Rattle.i_shape.proofs.int.canonical.forms.list_form.Given as goal

abbrev pub invariant-loop-shape : goal.invariant-loop-shape
invariant-loop-shape g l =
    let value = g.I.IntNumber.value in
    Survivors (ShapeForm g.C.ContourCleaner.meaning.answers) (shapes_of value (take l.shape-index l.shapes)) (shapes_of value l.forms.items)
