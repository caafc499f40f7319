use Rattle.std.proofs.Common.{sym}
use Rattle.std.proofs.lemmas.Bool.Decides.{Decides-and}
use Rattle.i_shape_core.proofs.Plane.Contours.{values_decided}
use Rattle.i_shape.proofs.Lists.Equality.{lists_decided, ranges_decided}
use Rattle.i_shape.proofs.laws.contours_buffers_equal.Goals as goal

pub returns : goal.returns
returns g c =
    let number = g.met.T.IntNumber in
    let a = c.args._a.now in
    let b = c.args._b.now in
    let points = lists_decided _ (values_decided g.T.IntNumber.value _ number.equality number.injective) a.points.items b.points.items in
    let both = Decides-and _ _ points (ranges_decided a.ranges.items b.ranges.items) in
    (λ t. let h = both.0 t in record { points = sym h.0; ranges = sym h.1 }, λ same. both.1 (sym same.points, sym same.ranges))
