use Rattle.i_shape_core.specs.IntPoint.{point_of, IsSafe}
use Rattle.i_shape_core.proofs.Lists.Mapped.{next_told, whole_told}
use Rattle.i_shape_core.proofs.measure.safe_range.are_safe.Goals as goal

pub loop-given-preserved : goal.loop-given-preserved
loop-given-preserved g c =
    next_told (λ p. IsSafe g.P.Coordinate.IntNumber.width (point_of g.P.Coordinate.IntNumber.value (g.P.ContourPoint.point p))) c.args.points.now c.loop-given.given-index c.given-item.result c.loop-given.are_safe
    c.is_in_safe_range-are_safe.result c.loop-given-test.true c.given-item.is c.loop-given.invariant (rw c.to_point.ensures at c.is_in_safe_range-are_safe.ensures)

pub returns : goal.returns
returns g c =
    whole_told (λ p. IsSafe g.P.Coordinate.IntNumber.width (point_of g.P.Coordinate.IntNumber.value (g.P.ContourPoint.point p))) c.args.points.now c.loop-given.given-index c.loop-given.are_safe c.loop-given-test.false c.loop-given.invariant
