use Rattle.std.proofs.Common.{◌+◌, ap}
use Rattle.i_shape_core.proofs.LeastRotation.Readings.{count_fits, read-order}
use Rattle.i_shape_core.proofs.form.comparer.Comparer.compare.Goals as goal

pub returns-clause-order : goal.returns-clause-order
returns-clause-order g c =
    let shown = c.self.view_is in
    rw (← shown)
    (read-order g.P.Coordinate.IntNumber.value (g.P.ContourPoint.points c.self.inside.points.now) c.args.first c.args.second c.point.result c.point-2.result _
    (rw (← shown) at c.requires.first_within) (rw (← shown) at c.requires.second_within) c.point.ensures c.point-2.ensures c.compare_points.ensures)

pub returns-clause-contour : goal.returns-clause-contour
returns-clause-contour g c = ap (λ v. v.contour) c.self.view_is

pub returns-clause-comparisons : goal.returns-clause-comparisons
returns-clause-comparisons g c = ap (λ v. v.comparisons + 1) c.self.view_is

pub overflow_add-self : goal.overflow_add-self
overflow_add-self g c = count_fits _ _ (ap (λ v. v.comparisons) c.self.view_is) c.requires.room
