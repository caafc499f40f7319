use Rattle.std.proofs.Common.{◌∙◌, arith}
use Rattle.i_shape_core.proofs.Common.{contour_of, point_at}
use Rattle.i_shape_core.proofs.LeastRotation.Search.{after-more}
use Rattle.i_shape_core.proofs.form.canonical.next_rival.Goals as goal

pub loop-place-preserved : goal.loop-place-preserved
loop-place-preserved g c =
    let inv = c.loop-place.invariant in
    let whole = contour_of g.P.Coordinate.IntNumber.value c.args.comparer.now.contour in
    record {
      contour = c.compare.ensures.contour ∙ inv.contour;
      after = after-more whole (point_at whole c.args.kept) c.args.from c.loop-place.place inv.after
          (rw c.in-Less.is at (rw inv.contour at c.compare.ensures.order));
      counted = omega (arith, inv.counted, c.compare.ensures.comparisons);
    }
