use Rattle.i_shape_core.proofs.Walks.Turning.{placed}
use Rattle.i_shape_contacts.proofs.plain.point_of_place.Goals as goal

pub returns : goal.returns
returns g c =
    let it = placed g.P.ContourPoint.point g.P.ContourPoint.points g.P.ContourPoint.each g.P.Coordinate.IntNumber.width g.P.Coordinate.IntNumber.value c.args.points.now c.args.place c.index-points-place.result c.to_point.result c.requires.safe c.to_point.ensures c.requires.within c.index-points-place.is in
    record { at = it.at; safe = it.safe }
