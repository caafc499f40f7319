use Rattle.i_shape_core.proofs.Plane.PointLists.{points-length}
use Rattle.i_shape_core.proofs.clean.probe.Probe.turn.Goals as goal

pub turn_at-requires-clause-previous_within : goal.turn_at-requires-clause-previous_within
turn_at-requires-clause-previous_within g c = rw (points-length g.P.ContourPoint.point g.P.ContourPoint.points g.P.ContourPoint.each c.self.inside.points.now) at (rw (← c.self.view_is) at c.requires.previous_within)

pub turn_at-requires-clause-place_within : goal.turn_at-requires-clause-place_within
turn_at-requires-clause-place_within g c = rw (points-length g.P.ContourPoint.point g.P.ContourPoint.points g.P.ContourPoint.each c.self.inside.points.now) at (rw (← c.self.view_is) at c.requires.place_within)

pub turn_at-requires-clause-next_within : goal.turn_at-requires-clause-next_within
turn_at-requires-clause-next_within g c = rw (points-length g.P.ContourPoint.point g.P.ContourPoint.points g.P.ContourPoint.each c.self.inside.points.now) at (rw (← c.self.view_is) at c.requires.next_within)

pub returns-clause-turn : goal.returns-clause-turn
returns-clause-turn g c = rw (← c.self.view_is) c.turn_at.ensures
