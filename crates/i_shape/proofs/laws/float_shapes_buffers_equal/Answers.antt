use Rattle.std.proofs.lemmas.Bool.Decides.{Decides-and}
use Rattle.i_shape.proofs.Lists.Equality.{pairs_decided, ranges_decided}
use Rattle.i_shape.proofs.laws.float_shapes_buffers_equal.Goals as goal

pub returns : goal.returns
returns g c =
    let a = c.args._a.now in
    let b = c.args._b.now in
    let points = pairs_decided g.P.PartialEq.eq a.points.items b.points.items in
    let ranges = Decides-and _ _ (ranges_decided a.contour_ranges.items b.contour_ranges.items) (ranges_decided a.shape_ranges.items b.shape_ranges.items) in
    let all = Decides-and _ _ points ranges in
    (λ t. let h = all.0 t in (h.0, h.1.0, h.1.1), λ h. all.1 (h.0, (h.1, h.2)))
