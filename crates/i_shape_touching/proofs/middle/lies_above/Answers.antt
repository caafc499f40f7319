use Rattle.std.proofs.Common.{◌∙◌, int_lt, ap₂, ℤ}
use Rattle.i_shape_core.proofs.Arithmetic.Coordinates.{lt-tells}
use Rattle.i_shape_touching.proofs.MiddleTests.{less-tells, sum_wide}
use Rattle.i_shape_touching.proofs.middle.lies_above.Goals as goal

pub returns : goal.returns
returns g c =
    let number = g.met.I.IntNumber in
    let wide = g.met.I.Wide.WideIntNumber in
    let w = g.I.IntNumber.width in
    let W = g.I.Wide.WideIntNumber.width in
    let sum = sum_wide w W number.wide_bits _ _ _ _ _ c.to_wide-first.ensures.range c.to_wide-second.ensures.range c.to_wide-first.ensures.same c.to_wide-second.ensures.same c.wrapping_add.ensures in
    let twice = sum_wide w W number.wide_bits _ _ _ _ _ c.to_wide-y.ensures.range c.to_wide-y.ensures.range c.to_wide-y.ensures.same c.to_wide-y.ensures.same c.wrapping_add-2.ensures in
    less-tells c.lt.result (g.I.Wide.WideIntNumber.value c.wrapping_add.result) (g.I.Wide.WideIntNumber.value c.wrapping_add-2.result) (lt-tells _ _ _ _ c.lt.ensures (wide.partial_order _ _)) ∙ ap₂ (λ (x y : ℤ). int_lt x y) sum twice
