use Rattle.std.proofs.Common.{◌∙◌, ap}
use Rattle.i_shape_core.proofs.Sums.AreaWalk.{half-fits}
use Rattle.i_shape.proofs.int.area.Area.area.Goals as goal

pub divide-requires-clause-fits : goal.divide-requires-clause-fits
divide-requires-clause-fits g c =
    let wide = g.met.I.Wide.WideIntNumber in
    half-fits g.I.Wide.WideIntNumber.width _ _ _ c.area_two.ensures (ap g.I.Wide.WideIntNumber.value c.TWO.ensures ∙ wide.two_value)
