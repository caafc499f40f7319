use Rattle.std.proofs.Common.{map, take, All}
use Rattle.i_shape.proofs.Buffers.CleanedContours.{contour_at}
use Rattle.i_shape.proofs.flat.buffer.cleaning.parts.are_clean.Given as goal

abbrev pub invariant-loop-range : goal.invariant-loop-range
invariant-loop-range g l = All g.C.ContourCleaner.meaning.clean (map (contour_at g.T.IntNumber.value l.points) (take l.range-index l.ranges))
