use Rattle.std.proofs.Common.{◌∙◌, sym, ap, rules}
use Rattle.i_shape_core.proofs.Plane.PointLists.{points-length, points-read}
use Rattle.i_shape_core.proofs.form.comparer.Comparer.point.Goals as goal

pub offset_bounds-points-place : goal.offset_bounds-points-place
offset_bounds-points-place g c =
    search (rules, rw (points-length g.P.ContourPoint.point g.P.ContourPoint.points g.P.ContourPoint.each c.self.inside.points.now) at (rw (← c.self.view_is) at c.requires))

pub bounds-points-place : goal.bounds-points-place
bounds-points-place g c = rw (points-length g.P.ContourPoint.point g.P.ContourPoint.points g.P.ContourPoint.each c.self.inside.points.now) at (rw (← c.self.view_is) at c.requires)

pub returns : goal.returns
returns g c =
    let points = c.self.inside.points.now in
    let inside = rw (points-length g.P.ContourPoint.point g.P.ContourPoint.points g.P.ContourPoint.each points) at (rw (← c.self.view_is) at c.requires) in
    rw (← c.self.view_is)
    (c.to_point.ensures ∙ ap g.P.ContourPoint.point c.index-points-place.is
    ∙ sym (points-read g.P.ContourPoint.point g.P.ContourPoint.points g.P.ContourPoint.each points c.args.place c.index-points-place.result c.to_point.result inside))
