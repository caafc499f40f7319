use Rattle.std.proofs.Common.{rules}
use Rattle.i_shape_core.proofs.Plane.PointLists.{points-length}
use Rattle.i_shape_core.proofs.Walks.Turning.{placed}
use Rattle.i_shape_core.proofs.clean.probe.Probe.hold.Goals as goal

pub offset_bounds-points-place : goal.offset_bounds-points-place
offset_bounds-points-place g c =
    search (rules, rw (points-length g.P.ContourPoint.point g.P.ContourPoint.points g.P.ContourPoint.each c.self.inside.points.now) at (rw (← c.self.view_is) at c.requires))

pub bounds-points-place : goal.bounds-points-place
bounds-points-place g c = rw (points-length g.P.ContourPoint.point g.P.ContourPoint.points g.P.ContourPoint.each c.self.inside.points.now) at (rw (← c.self.view_is) at c.requires)

pub invariant_of-result : goal.invariant_of-result
invariant_of-result g c =
    let points = c.self.inside.points.now in
    let within = rw (points-length g.P.ContourPoint.point g.P.ContourPoint.points g.P.ContourPoint.each points) at (rw (← c.self.view_is) at c.requires) in
    (placed g.P.ContourPoint.point g.P.ContourPoint.points g.P.ContourPoint.each g.I.IntNumber.width g.I.IntNumber.value points c.args.place c.index-points-place.result c.to_point.result c.self.invariant c.to_point.ensures within c.index-points-place.is).safe

pub returns : goal.returns
returns g c =
    let points = c.self.inside.points.now in
    let within = rw (points-length g.P.ContourPoint.point g.P.ContourPoint.points g.P.ContourPoint.each points) at (rw (← c.self.view_is) at c.requires) in
    rw (← c.self.view_is) (placed g.P.ContourPoint.point g.P.ContourPoint.points g.P.ContourPoint.each g.I.IntNumber.width g.I.IntNumber.value points c.args.place c.index-points-place.result c.to_point.result c.self.invariant c.to_point.ensures within c.index-points-place.is).at
