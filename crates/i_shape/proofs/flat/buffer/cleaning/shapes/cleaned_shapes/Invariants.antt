use Rattle.std.proofs.Common.{map, take}
use Rattle.i_shape.proofs.Common.{HoldsShapes, shapes_in, named_shapes, ListClean}
use Rattle.i_shape.proofs.Buffers.CleanedShapes.{named_at}
use Rattle.i_shape.proofs.flat.buffer.cleaning.shapes.cleaned_shapes.Given as goal

abbrev pub invariant-loop-range : goal.invariant-loop-range
invariant-loop-range g l = record {
  held : HoldsShapes l.kept (shapes_in l.kept);
  clean : ListClean g.C.ContourCleaner.meaning.answers (map (named_at g.T.IntNumber.value l.points l.contour_ranges) (take l.range-index l.shape_ranges)) (named_shapes g.T.IntNumber.value l.kept);
}
