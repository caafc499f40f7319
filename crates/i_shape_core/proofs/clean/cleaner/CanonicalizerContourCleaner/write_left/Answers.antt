use Rattle.std.proofs.Common.{arith}
use Rattle.i_shape_core.proofs.Plane.PointLists.{read-length}
use Rattle.i_shape_core.proofs.CleanerAnswers.Written.{canonical_written, nothing_canonical}
use Rattle.i_shape_core.proofs.clean.cleaner.CanonicalizerContourCleaner.write_left.Goals as goal

pub returns-then-count-gt0-clause-written : goal.returns-then-count-gt0-clause-written
returns-then-count-gt0-clause-written g c =
    let counts = read-length g.P.Coordinate.IntNumber.value g.P.ContourPoint.point g.P.ContourPoint.points g.P.ContourPoint.each in
    let left = c.walk_into-count.ensures in
    canonical_written g.P.Coordinate.IntNumber.width _ counts c.args.contour.now c.args.out.now c.walk_into-count.new.out c.rotate_to_least.new.contour c.walk_into-count.result c.if-count-gt0.true
    (omega (arith, left.written.fewer, c.requires.room, left.len)) left.written c.rotate_to_least.ensures.len c.rotate_to_least.ensures.least c.rotate_to_least.ensures.rotated

pub returns-else-count-gt0-clause-written : goal.returns-else-count-gt0-clause-written
returns-else-count-gt0-clause-written g c =
    let counts = read-length g.P.Coordinate.IntNumber.value g.P.ContourPoint.point g.P.ContourPoint.points g.P.ContourPoint.each in
    nothing_canonical g.P.Coordinate.IntNumber.width _ counts c.args.contour.now c.args.out.now c.walk_into-count.new.out c.walk_into-count.result (omega (arith, c.if-count-gt0.false)) c.walk_into-count.ensures.written
