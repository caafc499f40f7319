use Rattle.std.proofs.lemmas.Bool.Decides.{Decides-and}
use Rattle.i_shape.proofs.Lists.Equality.{pairs_decided, ranges_decided}
use Rattle.i_shape.proofs.laws.float_contours_buffers_equal.Goals as goal

pub returns : goal.returns
returns g c =
    let a = c.args._a.now in
    let b = c.args._b.now in
    let points = pairs_decided g.P.PartialEq.eq a.points.items b.points.items in
    Decides-and _ _ points (ranges_decided a.ranges.items b.ranges.items)
