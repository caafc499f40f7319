use Rattle.std.proofs.Common.{sym}
use Rattle.i_shape_core.proofs.Plane.PointLists.{points-length}
use Rattle.i_shape_core.proofs.clean.probe.Probe.len.Goals as goal

pub returns : goal.returns
returns g c = rw (← c.self.view_is) (sym (points-length g.P.ContourPoint.point g.P.ContourPoint.points g.P.ContourPoint.each c.self.inside.points.now))
