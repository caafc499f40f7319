use Rattle.std.proofs.Common.{Some, arith}
use Rattle.i_shape_core.proofs.Common.{contour_of}
use Rattle.i_shape_core.specs.Cleaning.{simplifying}
use Rattle.i_shape_core.proofs.Lists.Sublists.{sublist_refl}
use Rattle.i_shape_core.proofs.Plane.PointLists.{read-length}
use Rattle.i_shape_core.proofs.Walks.Found.{simple_stays}
use Rattle.i_shape_core.proofs.CleanerAnswers.Kept.{simple_kept}
use Rattle.i_shape_core.proofs.CleanerAnswers.Written.{whole_written}
use Rattle.i_shape_core.proofs.clean.cleaner.ContourSimplifierContourCleaner.write_clean.Goals as goal

pub returns-clause-written : goal.returns-clause-written
returns-clause-written g c =
    let given = contour_of g.P.Coordinate.IntNumber.value (g.P.ContourPoint.points c.args.contour.now) in
    whole_written simplifying g.P.Coordinate.IntNumber.width _ c.args.contour.now c.args.out.now c.write_whole.new.out c.write_whole.result c.write_whole.ensures.count c.write_whole.ensures.items c.write_whole.ensures.rest
    (omega (arith, c.requires.clean.enough)) (sublist_refl c.args.contour.now) (simple_stays given c.requires.clean) (simple_kept given (Some given) (simple_stays given c.requires.clean)) c.requires.points_safe

pub returns-clause-enough : goal.returns-clause-enough
returns-clause-enough g c = omega (arith, read-length g.P.Coordinate.IntNumber.value g.P.ContourPoint.point g.P.ContourPoint.points g.P.ContourPoint.each c.args.contour.now, c.requires.clean.enough)
