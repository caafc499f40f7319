use Rattle.std.proofs.Common.{◌≡◌, ◌+◌, ◌∙◌, arith, below_more}
use Rattle.i_shape_core.proofs.Common.{contour_of, point_at}
use Rattle.i_shape_core.proofs.form.canonical.compare_runs.Goals as goal

pub loop-step-preserved : goal.loop-step-preserved
loop-step-preserved g c =
    let inv = c.loop-step.invariant in
    let whole = contour_of g.P.Coordinate.IntNumber.value c.args.comparer.now.contour in
    record {
      contour = c.compare.ensures.contour ∙ inv.contour;
      agree = below_more (λ t. point_at whole (c.args.ours + t) ≡ point_at whole (c.args.theirs + t)) c.loop-step.step inv.agree
          (rw c.in-Equal.is at (rw inv.contour at c.compare.ensures.order));
      counted = omega (arith, inv.counted, c.compare.ensures.comparisons);
    }
