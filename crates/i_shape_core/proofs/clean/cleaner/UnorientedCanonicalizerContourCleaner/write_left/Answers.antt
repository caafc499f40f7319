use Rattle.std.proofs.Common.{arith}
use Rattle.i_shape_core.proofs.Plane.PointLists.{read-length}
use Rattle.i_shape_core.proofs.CleanerAnswers.Written.{unoriented_written, nothing_unoriented}
use Rattle.i_shape_core.proofs.clean.cleaner.UnorientedCanonicalizerContourCleaner.write_left.Goals as goal

pub returns-then-count-gt0-clause-written : goal.returns-then-count-gt0-clause-written
returns-then-count-gt0-clause-written g c =
    let counts = read-length g.P.Coordinate.IntNumber.value g.P.ContourPoint.point g.P.ContourPoint.points g.P.ContourPoint.each in
    let form = c.write_left-count.ensures in
    unoriented_written g.P.Coordinate.IntNumber.width _ counts c.args.contour.now c.args.out.now c.write_left-count.new.out c.rotate_to_lesser.new.contour c.write_left-count.result c.if-count-gt0.true
    (omega (arith, form.written.fewer, c.requires.room, form.len)) c.requires.points_safe form.written c.rotate_to_lesser.ensures.len c.rotate_to_lesser.ensures.lesser c.rotate_to_lesser.ensures.picked

pub returns-else-count-gt0-clause-written : goal.returns-else-count-gt0-clause-written
returns-else-count-gt0-clause-written g c =
    let counts = read-length g.P.Coordinate.IntNumber.value g.P.ContourPoint.point g.P.ContourPoint.points g.P.ContourPoint.each in
    nothing_unoriented g.P.Coordinate.IntNumber.width _ counts c.args.contour.now c.args.out.now c.write_left-count.new.out c.write_left-count.result (omega (arith, c.if-count-gt0.false)) c.write_left-count.ensures.written
