use Rattle.std.proofs.Common.{◌∙◌, ap, ap₂}
use Rattle.i_shape_core.specs.IntPoint.{point_of}
use Rattle.i_shape_core.specs.Point.{Point, cross_of}
use Rattle.i_shape_core.proofs.Arithmetic.Coordinates.{lt-tells, safe_points-apart}
use Rattle.i_shape_touching.proofs.MiddleTests.{left_told, negative_fits}
use Rattle.i_shape_touching.proofs.middle.is_left.Goals as goal

pub sub-requires-2 : goal.sub-requires-2
sub-requires-2 g c =
    let number = g.met.I.IntNumber in
    let value = g.I.IntNumber.value in
    safe_points-apart g.I.IntNumber.width number.some_bits number.bits_split (point_of value c.args.middle.second) (point_of value c.args.low) c.requires.second_safe c.requires.low_safe

pub returns : goal.returns
returns g c =
    let number = g.met.I.IntNumber in
    let wide = g.met.I.Wide.WideIntNumber in
    let value = g.I.IntNumber.value in
    let at = point_of value in
    let low = at c.args.low in
    let high = at c.args.high in
    let p = at c.args.middle.first in
    let q = at c.args.middle.second in
    let first = c.cross_product-first.ensures ∙ ap₂ (λ (v w : Point). cross_of v w) c.sub-way.ensures c.sub.ensures in
    let second = c.cross_product-second.ensures ∙ ap₂ (λ (v w : Point). cross_of v w) c.sub-way.ensures c.sub-2.ensures in
    let zero = ap g.I.Wide.WideIntNumber.value c.ZERO-zero.ensures ∙ wide.zero_value in
    let none = negative_fits g.I.IntNumber.width g.I.Wide.WideIntNumber.width number.wide_bits number.some_bits number.bits_split low high q c.requires.low_safe c.requires.high_safe c.requires.second_safe
    _ _ _ second zero c.wrapping_sub.ensures in
    left_told c.lt.result low high p q _ _ _ first second none (lt-tells _ _ _ _ c.lt.ensures (wide.partial_order _ _))
