use Rattle.std.proofs.Common.{ap, length, arith}
use Rattle.i_shape_core.proofs.Plane.PointLists.{points-length}
use Rattle.i_shape_core.proofs.form.canonical.least_start.Goals as goal

pub search_starts-requires-clause-some : goal.search_starts-requires-clause-some
search_starts-requires-clause-some g c =
    omega (arith, ap length c.new-comparer.ensures.contour, points-length g.P.ContourPoint.point g.P.ContourPoint.points g.P.ContourPoint.each c.args.contour.now)

pub search_starts-requires-clause-fresh : goal.search_starts-requires-clause-fresh
search_starts-requires-clause-fresh g c = c.new-comparer.ensures.comparisons

pub returns-clause-within : goal.returns-clause-within
returns-clause-within g c =
    omega (arith, c.search_starts.ensures.within, ap length c.new-comparer.ensures.contour, points-length g.P.ContourPoint.point g.P.ContourPoint.points g.P.ContourPoint.each c.args.contour.now)

pub returns-clause-least : goal.returns-clause-least
returns-clause-least g c = rw c.new-comparer.ensures.contour at c.search_starts.ensures.least
