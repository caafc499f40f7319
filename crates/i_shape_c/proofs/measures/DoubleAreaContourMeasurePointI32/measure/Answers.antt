use Rattle.std.proofs.Common.{w64}
use Rattle.std.proofs.lemmas.Int.{to_z-of_z}
use Rattle.i_shape_c.specs.Points.{point_i32}
use Rattle.i_shape_c.proofs.Areas.{area_or_zero}
use Rattle.i_shape_c.proofs.measures.DoubleAreaContourMeasurePointI32.measure.Goals as goal

pub returns : goal.returns
returns c =
    rw (to_z-of_z w64 c.unwrap_or.result (record { sfits = c.unwrap_or.type_inv }), c.unwrap_or.ensures)
    (area_or_zero w64 point_i32 c.args.contour.now c.area_two.result c.area_two.ensures.some c.area_two.ensures.area)
