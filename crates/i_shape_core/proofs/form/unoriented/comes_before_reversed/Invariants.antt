use Rattle.std.proofs.Common.{◌≡◌, reverse}
use Rattle.i_shape_core.proofs.Common.{contour_of, started_at}
use Rattle.i_shape_core.proofs.Forms.LesserWay.{AgreeUpTo}
use Rattle.i_shape_core.proofs.form.unoriented.comes_before_reversed.Given as goal

abbrev pub invariant-loop-step : goal.invariant-loop-step
invariant-loop-step g l =
    let c = contour_of g.P.Coordinate.IntNumber.value (g.P.ContourPoint.points l.contour) in
    record {
      contour : l.comparer.contour ≡ g.P.ContourPoint.points l.contour;
      agree : AgreeUpTo (started_at c l.start) (reverse c) l.step;
      counted : l.comparer.comparisons ≡ l.step;
    }
