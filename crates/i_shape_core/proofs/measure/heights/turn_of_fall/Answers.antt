use Rattle.std.proofs.Common.{◌∙◌, pos, negsuc, cond, Bool, sym, ap}
use Rattle.i_shape_core.specs.IntPoint.{point_of}
use Rattle.i_shape_core.proofs.Arithmetic.Comparisons.{below-tells}
use Rattle.i_shape_core.proofs.Sums.Heights.{fall_adds}
use Rattle.i_shape_core.proofs.measure.heights.turn_of_fall.Goals as goal

pub returns-then-is_clockwise : goal.returns-then-is_clockwise
returns-then-is_clockwise g c =
    let at = point_of g.I.IntNumber.value in
    sym (fall_adds (at c.args.point) (at c.args.start) (at c.args.end) c.is_clockwise.result c.requires.starts c.requires.ends (below-tells _ _ c.is_clockwise.ensures) ∙ ap (λ (t : Bool). cond t (negsuc 0) (pos 0)) c.if-is_clockwise.true)

pub returns-else-is_clockwise : goal.returns-else-is_clockwise
returns-else-is_clockwise g c =
    let at = point_of g.I.IntNumber.value in
    sym (fall_adds (at c.args.point) (at c.args.start) (at c.args.end) c.is_clockwise.result c.requires.starts c.requires.ends (below-tells _ _ c.is_clockwise.ensures) ∙ ap (λ (t : Bool). cond t (negsuc 0) (pos 0)) c.if-is_clockwise.false)
