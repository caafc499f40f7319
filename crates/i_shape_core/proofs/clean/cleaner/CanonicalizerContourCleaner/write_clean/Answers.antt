use Rattle.std.proofs.Common.{◌≤◌, length, Some, arith, length-take-le}
use Rattle.i_shape_core.proofs.Common.{contour_of}
use Rattle.i_shape_core.specs.Cleaning.{simplifying}
use Rattle.i_shape_core.proofs.Lists.Sublists.{sublist_refl}
use Rattle.i_shape_core.specs.Reading.{read}
use Rattle.i_shape_core.proofs.Plane.PointLists.{read-length}
use Rattle.i_shape_core.proofs.Walks.Found.{simple_stays}
use Rattle.i_shape_core.proofs.CleanerAnswers.Kept.{simple_kept}
use Rattle.i_shape_core.proofs.CleanerAnswers.Written.{whole_written, canonical_written}
use Rattle.i_shape_core.proofs.clean.cleaner.CanonicalizerContourCleaner.write_clean.Goals as goal

pub rotate_to_least-requires : goal.rotate_to_least-requires
rotate_to_least-requires g c =
    let within : c.write_whole-count.result ≤ length c.write_whole-count.new.out = omega (arith, c.write_whole-count.ensures.count, c.write_whole-count.ensures.len, c.requires.room) in
    omega (arith, length-take-le c.write_whole-count.result c.write_whole-count.new.out within, read-length g.P.Coordinate.IntNumber.value g.P.ContourPoint.point g.P.ContourPoint.points g.P.ContourPoint.each c.args.contour.now, c.requires.clean.enough, c.write_whole-count.ensures.count)

pub returns-clause-written : goal.returns-clause-written
returns-clause-written g c =
    let counts = read-length g.P.Coordinate.IntNumber.value g.P.ContourPoint.point g.P.ContourPoint.points g.P.ContourPoint.each in
    let given = contour_of g.P.Coordinate.IntNumber.value (g.P.ContourPoint.points c.args.contour.now) in
    let whole = whole_written simplifying g.P.Coordinate.IntNumber.width (read g.P.Coordinate.IntNumber.value g.P.ContourPoint.points) c.args.contour.now c.args.out.now c.write_whole-count.new.out c.write_whole-count.result c.write_whole-count.ensures.count c.write_whole-count.ensures.items
    c.write_whole-count.ensures.rest (omega (arith, c.requires.clean.enough)) (sublist_refl c.args.contour.now) (simple_stays given c.requires.clean) (simple_kept given (Some given) (simple_stays given c.requires.clean)) c.requires.points_safe in
    canonical_written g.P.Coordinate.IntNumber.width _ counts c.args.contour.now c.args.out.now c.write_whole-count.new.out c.rotate_to_least.new.contour c.write_whole-count.result
    (omega (arith, counts c.args.contour.now, c.requires.clean.enough, c.write_whole-count.ensures.count)) (omega (arith, c.write_whole-count.ensures.count, c.requires.room, c.write_whole-count.ensures.len))
    whole c.rotate_to_least.ensures.len c.rotate_to_least.ensures.least c.rotate_to_least.ensures.rotated

pub returns-clause-enough : goal.returns-clause-enough
returns-clause-enough g c = omega (arith, read-length g.P.Coordinate.IntNumber.value g.P.ContourPoint.point g.P.ContourPoint.points g.P.ContourPoint.each c.args.contour.now, c.requires.clean.enough)
