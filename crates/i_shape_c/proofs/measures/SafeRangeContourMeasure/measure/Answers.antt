use Rattle.std.proofs.Common.{refl, IsTrue, false}
use Rattle.i_shape.specs.IntPoint.{point_of, IsSafe}
use Rattle.i_shape_core.proofs.Lists.Mapped.{all_mapped}
use Rattle.i_shape_c.proofs.measures.SafeRangeContourMeasure.measure.Goals as goal

pub returns-then-are_safe : goal.returns-then-are_safe
returns-then-are_safe g c =
    let at = λ (p : g.row.P.Denot). point_of g.P.Coordinate.IntNumber.value (g.P.ContourPoint.point p) in
    (all_mapped (IsSafe g.P.Coordinate.IntNumber.width) at c.args.contour.now).0 (c.if-are_safe.ensures.0 refl)

pub returns-else-are_safe : goal.returns-else-are_safe
returns-else-are_safe g c = λ safe.
    let at = λ (p : g.row.P.Denot). point_of g.P.Coordinate.IntNumber.value (g.P.ContourPoint.point p) in
    let told : IsTrue false = c.if-are_safe.ensures.1 ((all_mapped (IsSafe g.P.Coordinate.IntNumber.width) at c.args.contour.now).1 safe) in
    cc
