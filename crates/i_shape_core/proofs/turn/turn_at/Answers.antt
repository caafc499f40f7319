use Rattle.i_shape_core.proofs.Walks.Turning.{placed}
use Rattle.i_shape_core.proofs.turn.turn_at.Goals as goal

pub turn_of-requires-clause-a_safe : goal.turn_of-requires-clause-a_safe
turn_of-requires-clause-a_safe g c =
    (placed g.P.ContourPoint.point g.P.ContourPoint.points g.P.ContourPoint.each g.P.Coordinate.IntNumber.width g.P.Coordinate.IntNumber.value c.args.points.now c.args.previous c.index-points-previous.result c.to_point.result c.requires.safe c.to_point.ensures c.requires.previous_within c.index-points-previous.is).safe

pub turn_of-requires-clause-b_safe : goal.turn_of-requires-clause-b_safe
turn_of-requires-clause-b_safe g c =
    (placed g.P.ContourPoint.point g.P.ContourPoint.points g.P.ContourPoint.each g.P.Coordinate.IntNumber.width g.P.Coordinate.IntNumber.value c.args.points.now c.args.place c.index-points-place.result c.to_point-2.result c.requires.safe c.to_point-2.ensures c.requires.place_within c.index-points-place.is).safe

pub turn_of-requires-clause-c_safe : goal.turn_of-requires-clause-c_safe
turn_of-requires-clause-c_safe g c =
    (placed g.P.ContourPoint.point g.P.ContourPoint.points g.P.ContourPoint.each g.P.Coordinate.IntNumber.width g.P.Coordinate.IntNumber.value c.args.points.now c.args.next c.index-points-next.result c.to_point-3.result c.requires.safe c.to_point-3.ensures c.requires.next_within c.index-points-next.is).safe

pub returns : goal.returns
returns g c =
    let p0 = placed g.P.ContourPoint.point g.P.ContourPoint.points g.P.ContourPoint.each g.P.Coordinate.IntNumber.width g.P.Coordinate.IntNumber.value c.args.points.now c.args.previous c.index-points-previous.result c.to_point.result c.requires.safe c.to_point.ensures c.requires.previous_within c.index-points-previous.is in
    let p1 = placed g.P.ContourPoint.point g.P.ContourPoint.points g.P.ContourPoint.each g.P.Coordinate.IntNumber.width g.P.Coordinate.IntNumber.value c.args.points.now c.args.place c.index-points-place.result c.to_point-2.result c.requires.safe c.to_point-2.ensures c.requires.place_within c.index-points-place.is in
    let p2 = placed g.P.ContourPoint.point g.P.ContourPoint.points g.P.ContourPoint.each g.P.Coordinate.IntNumber.width g.P.Coordinate.IntNumber.value c.args.points.now c.args.next c.index-points-next.result c.to_point-3.result c.requires.safe c.to_point-3.ensures c.requires.next_within c.index-points-next.is in
    rw (← p0.at, ← p1.at, ← p2.at) c.turn_of.ensures
