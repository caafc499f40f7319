use Rattle.std.proofs.Common.{◌∙◌, pos, negsuc, cond, Bool, sym, ap}
use Rattle.i_shape_touching.specs.Steps.Middles.{twice_point, twice_middle}
use Rattle.i_shape_core.proofs.Arithmetic.Comparisons.{below-tells}
use Rattle.i_shape_touching.proofs.MiddleTests.{adds_if_above, adds_if_below, adds_downwards, adds_upwards}
use Rattle.i_shape_touching.proofs.middle.edge_winding.Goals as goal

pub returns-then-is_end_above : goal.returns-then-is_end_above
returns-then-is_end_above g c =
    let value = g.I.IntNumber.value in
    adds_if_above (twice_middle value c.args.middle) (twice_point value c.args.start) (twice_point value c.args.end) (sym c.lies_above.ensures ∙ c.if-lies_above.true) (sym c.lies_above-is_end_above.ensures ∙ c.if-is_end_above.true)

pub returns-then-is_left : goal.returns-then-is_left
returns-then-is_left g c =
    let value = g.I.IntNumber.value in
    ap (λ (t : Bool). cond t (negsuc 0) (pos 0)) (sym c.if-is_left.true)
    ∙ adds_downwards (twice_middle value c.args.middle) (twice_point value c.args.start) (twice_point value c.args.end) c.is_left.result (sym c.lies_above.ensures ∙ c.if-lies_above.true) (sym c.lies_above-is_end_above.ensures ∙ c.if-is_end_above.false) (below-tells _ _ c.is_left.ensures)

pub returns-else-is_left : goal.returns-else-is_left
returns-else-is_left g c =
    let value = g.I.IntNumber.value in
    ap (λ (t : Bool). cond t (negsuc 0) (pos 0)) (sym c.if-is_left.false)
    ∙ adds_downwards (twice_middle value c.args.middle) (twice_point value c.args.start) (twice_point value c.args.end) c.is_left.result (sym c.lies_above.ensures ∙ c.if-lies_above.true) (sym c.lies_above-is_end_above.ensures ∙ c.if-is_end_above.false) (below-tells _ _ c.is_left.ensures)

pub returns-then-is_left-2 : goal.returns-then-is_left-2
returns-then-is_left-2 g c =
    let value = g.I.IntNumber.value in
    ap (λ (t : Bool). cond t (pos 1) (pos 0)) (sym c.if-is_left-2.true)
    ∙ adds_upwards (twice_middle value c.args.middle) (twice_point value c.args.start) (twice_point value c.args.end) c.is_left-then-is_end_above-2.result (sym c.lies_above.ensures ∙ c.if-lies_above.false) (sym c.lies_above-is_end_above.ensures ∙ c.if-is_end_above-2.true) (below-tells _ _ c.is_left-then-is_end_above-2.ensures)

pub returns-else-is_left-2 : goal.returns-else-is_left-2
returns-else-is_left-2 g c =
    let value = g.I.IntNumber.value in
    ap (λ (t : Bool). cond t (pos 1) (pos 0)) (sym c.if-is_left-2.false)
    ∙ adds_upwards (twice_middle value c.args.middle) (twice_point value c.args.start) (twice_point value c.args.end) c.is_left-then-is_end_above-2.result (sym c.lies_above.ensures ∙ c.if-lies_above.false) (sym c.lies_above-is_end_above.ensures ∙ c.if-is_end_above-2.true) (below-tells _ _ c.is_left-then-is_end_above-2.ensures)

pub returns-else-is_end_above-2 : goal.returns-else-is_end_above-2
returns-else-is_end_above-2 g c =
    let value = g.I.IntNumber.value in
    adds_if_below (twice_middle value c.args.middle) (twice_point value c.args.start) (twice_point value c.args.end) (sym c.lies_above.ensures ∙ c.if-lies_above.false) (sym c.lies_above-is_end_above.ensures ∙ c.if-is_end_above-2.false)
