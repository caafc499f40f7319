use Rattle.std.proofs.Common.{◌∙◌, not, sym, ap, option_map, Some}
use Rattle.i_shape_core.proofs.Common.{point_of, is_same}
use Rattle.i_shape_core.proofs.Plane.PointLists.{points-found}
use Rattle.i_shape_core.proofs.turn.repeats.last_other.Goals as goal

pub returns-in-Some : goal.returns-in-Some
returns-in-Some g c =
    let value = g.P.Coordinate.IntNumber.value in
    let found = points-found g.P.ContourPoint.point g.P.ContourPoint.points g.P.ContourPoint.each (λ other. not (is_same (point_of value c.args.point) (point_of value other))) c.args.points.now in
    ap (λ p. Some p) c.to_point.ensures ∙ ap (option_map g.P.ContourPoint.point) c.in-Some.ensures ∙ sym found

pub returns-in-None : goal.returns-in-None
returns-in-None g c =
    let value = g.P.Coordinate.IntNumber.value in
    let found = points-found g.P.ContourPoint.point g.P.ContourPoint.points g.P.ContourPoint.each (λ other. not (is_same (point_of value c.args.point) (point_of value other))) c.args.points.now in
    ap (option_map g.P.ContourPoint.point) c.in-None.ensures ∙ sym found
