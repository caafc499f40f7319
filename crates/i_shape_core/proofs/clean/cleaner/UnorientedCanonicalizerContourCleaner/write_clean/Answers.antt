use Rattle.std.proofs.Common.{arith}
use Rattle.i_shape_core.proofs.Plane.PointLists.{read-length}
use Rattle.i_shape_core.proofs.CleanerAnswers.Written.{unoriented_written}
use Rattle.i_shape_core.proofs.clean.cleaner.UnorientedCanonicalizerContourCleaner.write_clean.Goals as goal

pub returns-clause-written : goal.returns-clause-written
returns-clause-written g c =
    let counts = read-length g.P.Coordinate.IntNumber.value g.P.ContourPoint.point g.P.ContourPoint.points g.P.ContourPoint.each in
    let form = c.write_clean-count.ensures in
    unoriented_written g.P.Coordinate.IntNumber.width _ counts c.args.contour.now c.args.out.now c.write_clean-count.new.out c.rotate_to_lesser.new.contour c.write_clean-count.result (omega (arith, form.count, form.enough))
    (omega (arith, form.count, c.requires.room, form.len)) c.requires.points_safe form.written c.rotate_to_lesser.ensures.len c.rotate_to_lesser.ensures.lesser c.rotate_to_lesser.ensures.picked
