use Rattle.std.proofs.Common.{◌∙◌, ap}
use Rattle.i_shape_core.proofs.Arithmetic.Comparisons.{le-tells}
use Rattle.i_shape_core.proofs.contour.RefSliceIntPointContourExtension.is_clockwise_ordered.Goals as goal

pub returns : goal.returns
returns g c =
    let wide = g.met.I.Wide.WideIntNumber in
    let compared = le-tells c.le.result _ (g.I.Wide.WideIntNumber.value c.area_of.result) (g.I.Wide.WideIntNumber.value c.ZERO.result) c.le.ensures (wide.partial_order _ _) in
    rw (c.area_of.ensures, ap g.I.Wide.WideIntNumber.value c.ZERO.ensures ∙ wide.zero_value) at compared
