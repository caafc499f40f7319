use Rattle.std.proofs.Common.{arith}
use Rattle.i_shape_core.proofs.Common.{Point, point_of}
use Rattle.i_shape_c.specs.Polygons.{parts}
use Rattle.i_shape_c.proofs.FeaturesSorted.{appended_left, appended_empty}
use Rattle.i_shape_c.proofs.features.append_or_empty.Goals as goal

pub returns-then-appended-counts-clause-left : goal.returns-then-appended-counts-clause-left
returns-then-appended-counts-clause-left g c =
    let at : g.row.P.Denot → Point = λ p. point_of g.P.Coordinate.IntNumber.value (g.P.ContourPoint.point p) in
    let step = c.append_polygon-appended in
    appended_left g.C.ContourCleaner.meaning.answers at (parts c.args.points.now c.args.rings.now) c.args.out_points.now step.new.out_points c.args.out_contours.now step.new.out_contours c.args.out_shapes.now step.new.out_shapes c.args.counts step.result step.ensures.left
    (omega (arith, c.if-appended-counts.true))

pub returns-clause-left : goal.returns-clause-left
returns-clause-left g c =
    let at : g.row.P.Denot → Point = λ p. point_of g.P.Coordinate.IntNumber.value (g.P.ContourPoint.point p) in
    let step = c.append_polygon-appended in
    appended_empty g.C.ContourCleaner.meaning.answers at (parts c.args.points.now c.args.rings.now) c.args.out_points.now step.new.out_points c.args.out_contours.now step.new.out_contours c.args.out_shapes.now step.new.out_shapes c.args.counts step.result step.ensures.left
    (omega (arith, c.if-appended-counts.false)) c.requires.shapes_room
