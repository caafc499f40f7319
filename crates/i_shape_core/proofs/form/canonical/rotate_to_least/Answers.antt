use Rattle.std.proofs.Common.{sym, take, drop, ap, length, arith, take-append-drop, length-append, length-take, length-drop}
use Rattle.i_shape_core.proofs.Plane.PointLists.{points-rotated}
use Rattle.i_shape_core.proofs.LeastRotation.Readings.{contour-started}
use Rattle.i_shape_core.proofs.form.canonical.rotate_to_least.Goals as goal

pub returns-clause-least : goal.returns-clause-least
returns-clause-least g c =
    contour-started g.P.Coordinate.IntNumber.value _ _ _
    (points-rotated g.P.ContourPoint.point g.P.ContourPoint.points g.P.ContourPoint.each c.args.contour.now c.rotate_left.new.self c.least_start-start.result c.rotate_left.ensures.after)
    c.least_start-start.ensures.least

pub returns-clause-rotated : goal.returns-clause-rotated
returns-clause-rotated g c = record {
  front = take c.least_start-start.result c.args.contour.now;
  back = drop c.least_start-start.result c.args.contour.now;
  before = sym (take-append-drop c.least_start-start.result c.args.contour.now);
  after = c.rotate_left.ensures.after;
}

pub returns-clause-len : goal.returns-clause-len
returns-clause-len g c =
    omega (arith, c.least_start-start.ensures.within, simp (length-append, length-take, length-drop) at (ap length c.rotate_left.ensures.after))
