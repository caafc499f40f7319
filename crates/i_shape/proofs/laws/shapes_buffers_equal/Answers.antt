use Rattle.std.proofs.Common.{sym}
use Rattle.std.proofs.lemmas.Bool.Decides.{Decides-and}
use Rattle.i_shape_core.proofs.Plane.Contours.{values_decided}
use Rattle.i_shape.proofs.Lists.Equality.{lists_decided, ranges_decided}
use Rattle.i_shape.proofs.laws.shapes_buffers_equal.Goals as goal

pub returns : goal.returns
returns g c =
    let number = g.met.T.IntNumber in
    let a = c.args._a.now in
    let b = c.args._b.now in
    let points = lists_decided _ (values_decided g.T.IntNumber.value _ number.equality number.injective) a.points.items b.points.items in
    let ranges = Decides-and _ _ (ranges_decided a.contour_ranges.items b.contour_ranges.items) (ranges_decided a.shape_ranges.items b.shape_ranges.items) in
    let all = Decides-and _ _ points ranges in (
      λ t. let h = all.0 t in record { points = sym h.0; contour_ranges = sym h.1.0; shape_ranges = sym h.1.1 },
      λ same. all.1 (sym same.points, (sym same.contour_ranges, sym same.shape_ranges)),
    )
