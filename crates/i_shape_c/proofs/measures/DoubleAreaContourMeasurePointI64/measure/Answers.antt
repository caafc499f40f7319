use Rattle.std.specs.Int.{w128}
use Rattle.std.proofs.lemmas.Int.{to_z-of_z}
use Rattle.i_shape_c.specs.Points.{point_i64}
use Rattle.i_shape_c.proofs.Areas.{area_or_zero}
use Rattle.i_shape_c.proofs.measures.DoubleAreaContourMeasurePointI64.measure.Goals as goal

pub returns : goal.returns
returns c =
    let area = area_or_zero w128 point_i64 c.args.contour.now c.area_two.result c.area_two.ensures.some c.area_two.ensures.area in
    let told = rw (to_z-of_z w128 c.unwrap_or.result (record { sfits = c.unwrap_or.type_inv })) at c.of.ensures in
    rw (← area, ← c.unwrap_or.ensures) told
