use Rattle.std.proofs.Common.{map, take, All}
use Rattle.i_shape.proofs.Buffers.CleanedShapes.{named_at}
use Rattle.i_shape.proofs.flat.buffer.cleaning.shapes.are_clean_shapes.Given as goal

abbrev pub invariant-loop-range : goal.invariant-loop-range
invariant-loop-range g l = All (All g.C.ContourCleaner.meaning.clean) (map (named_at g.T.IntNumber.value l.points l.contour_ranges) (take l.range-index l.shape_ranges))
