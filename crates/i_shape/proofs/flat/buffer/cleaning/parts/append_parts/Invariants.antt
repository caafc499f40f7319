use Rattle.std.proofs.Common.{map, take, List}
use Rattle.i_shape.proofs.Common.{IntPoint, Survivors, contours_of, Grows}
use Rattle.i_shape.proofs.Buffers.CleanedContours.{contour_at}
use Rattle.i_shape.proofs.flat.buffer.cleaning.parts.append_parts.Given as goal

abbrev pub invariant-loop-range : goal.invariant-loop-range
invariant-loop-range g l =
    let value = g.T.IntNumber.value in
    (more : List (List (IntPoint g.row.T.Denot))) × Survivors g.C.ContourCleaner.meaning.answers (map (contour_at value l.source) (take l.range-index l.named)) (contours_of value more)
    × Grows l.initial.points.items l.points.items l.initial.ranges.items l.ranges.items more
