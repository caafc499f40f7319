use Rattle.i_shape_core.specs.Reading.{read}
use Rattle.i_shape_core.specs.Rings.{LongestUncleanRing}
use Rattle.i_shape_core.proofs.clean.batch.longest_unclean.Given as goal

abbrev pub invariant-loop-place : goal.invariant-loop-place
invariant-loop-place g l = LongestUncleanRing g.C.ContourCleaner.meaning.clean (read g.P.Coordinate.IntNumber.value g.P.ContourPoint.points) l.points l.offsets l.place l.longest
