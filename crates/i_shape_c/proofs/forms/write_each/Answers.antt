use Rattle.std.proofs.Common.{arith}
use Rattle.i_shape_c.specs.Points.{point_by}
use Rattle.i_shape_c.proofs.Batches.{on_err}
use Rattle.i_shape_c.proofs.HolesSorted.{no_forms}
use Rattle.i_shape_c.proofs.forms.write_each.Goals as goal

pub returns-then-contours-eq1-clause-ok : goal.returns-then-contours-eq1-clause-ok
returns-then-contours-eq1-clause-ok g c =
    no_forms g.C.ContourCleaner.meaning g.P.Coordinate.IntNumber.width (point_by g.P.Coordinate.IntNumber.value g.P.ContourPoint.point) c.args.points.now c.args.contours.now c.args.shapes.now c.args.out_points.now c.args.out_contours.now
    c.if-contours-eq1.true (omega (arith, c.if-contours-eq1.true, c.requires.room.offsets_room))

pub returns-clause-memory : goal.returns-clause-memory
returns-clause-memory g c = on_err c.write_sorted.result c.if-contours-eq1.false
