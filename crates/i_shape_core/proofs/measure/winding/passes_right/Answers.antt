use Rattle.std.proofs.Common.{◌≡◌, ◌∙◌, pos, int_lt, cond}
use Rattle.i_shape_core.proofs.Common.{point_of, cross}
use Rattle.i_shape_core.proofs.Arithmetic.Comparisons.{gt-tells, below-tells}
use Rattle.i_shape_core.proofs.Sums.InsideWalk.{right_told}
use Rattle.i_shape_core.proofs.measure.winding.passes_right.Goals as goal
use Rattle.i_shape_core.proofs.measure.winding.passes_right.Goals.{then-is_start_above, else-is_start_above}

pub returns-then-is_start_above-is_end_above : goal.returns-then-is_start_above-is_end_above
returns-then-is_start_above-is_end_above g c =
    let value = g.I.IntNumber.value in
    let start = point_of value c.args.start in
    let end = point_of value c.args.end in
    let s = c.gt-is_start_above.result in
    let told = right_told (point_of value c.args.point) start end _ _
    (gt-tells _ _ (value c.args.start.y) (value c.args.point.y) c.gt-is_start_above.ensures (g.met.I.IntNumber.partial_order _ _)) (gt-tells _ _ (value c.args.end.y) (value c.args.point.y) c.gt-is_end_above.ensures (g.met.I.IntNumber.partial_order _ _)) in
    let turn : c.is_clockwise.result ≡ int_lt (cross (cond s end start) (point_of value c.args.point) (cond s start end)) (pos 0) = elim c.if-is_start_above.branch [
      | then-is_start_above w ↦ rw w.if-is_start_above.true (below-tells _ _ (rw w.low-is at c.is_clockwise.ensures))
      | else-is_start_above w ↦ rw w.if-is_start_above.false (below-tells _ _ (rw w.low-is at c.is_clockwise.ensures))
    ] in
    turn ∙ rw c.if-is_start_above-is_end_above.true at told

pub returns-else-is_start_above-is_end_above : goal.returns-else-is_start_above-is_end_above
returns-else-is_start_above-is_end_above g c =
    let value = g.I.IntNumber.value in
    let told = right_told (point_of value c.args.point) (point_of value c.args.start) (point_of value c.args.end) _ _
    (gt-tells _ _ (value c.args.start.y) (value c.args.point.y) c.gt-is_start_above.ensures (g.met.I.IntNumber.partial_order _ _)) (gt-tells _ _ (value c.args.end.y) (value c.args.point.y) c.gt-is_end_above.ensures (g.met.I.IntNumber.partial_order _ _)) in
    c.if-is_start_above-is_end_above.false ∙ rw c.if-is_start_above-is_end_above.false at told
