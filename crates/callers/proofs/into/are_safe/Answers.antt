use Rattle.i_shape.proofs.CallerLemmas.{points_safe}
use Rattle.callers.proofs.into.are_safe.Goals as goal

pub returns : goal.returns
returns g c =
    let same = points_safe g.P.Coordinate.IntNumber.width g.P.Coordinate.IntNumber.value g.P.ContourPoint.point g.P.ContourPoint.points g.P.ContourPoint.each c.args.points.now in
    (λ told. same.0 (c.each_is_safe.ensures.0 told), λ safe. c.each_is_safe.ensures.1 (same.1 safe))
