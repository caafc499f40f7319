use Rattle.i_shape_core.specs.IntPoint.{point_of}
use Rattle.i_shape_core.proofs.Arithmetic.Comparisons.{gt-tells}
use Rattle.i_shape_core.proofs.Sums.WindingWalk.{adds_nothing, adds_one, takes_one}
use Rattle.i_shape_core.proofs.measure.winding.edge_winding.Goals as goal

pub returns-then-not-passes_right : goal.returns-then-not-passes_right
returns-then-not-passes_right g c = adds_nothing (point_of g.I.IntNumber.value c.args.point) (point_of g.I.IntNumber.value c.args.start) (point_of g.I.IntNumber.value c.args.end) _ c.passes_right.ensures c.if-not-passes_right.true

pub returns-then-gt : goal.returns-then-gt
returns-then-gt g c =
    let number = g.met.I.IntNumber in
    let told = gt-tells _ _ (g.I.IntNumber.value c.args.end.y) (g.I.IntNumber.value c.args.point.y) c.gt.ensures (number.partial_order _ _) in
    adds_one (point_of g.I.IntNumber.value c.args.point) (point_of g.I.IntNumber.value c.args.start) (point_of g.I.IntNumber.value c.args.end) _ _ c.passes_right.ensures c.if-not-passes_right.false told c.if-gt.true

pub returns-else-gt : goal.returns-else-gt
returns-else-gt g c =
    let number = g.met.I.IntNumber in
    let told = gt-tells _ _ (g.I.IntNumber.value c.args.end.y) (g.I.IntNumber.value c.args.point.y) c.gt.ensures (number.partial_order _ _) in
    takes_one (point_of g.I.IntNumber.value c.args.point) (point_of g.I.IntNumber.value c.args.start) (point_of g.I.IntNumber.value c.args.end) _ _ c.passes_right.ensures c.if-not-passes_right.false told c.if-gt.false
