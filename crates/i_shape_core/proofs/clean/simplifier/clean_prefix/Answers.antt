use Rattle.std.proofs.Common.{◌≡◌, arith, refl, subst, ◌∙◌, ℕ}
use Rattle.std.specs.List.{range_with_len}
use Rattle.i_shape_core.proofs.Common.{contour_of, IsZeroTurn, IsStacked}
use Rattle.i_shape_core.proofs.Plane.Contours.{length-contour}
use Rattle.i_shape_core.proofs.Walks.StackReads.{fails_by_test}
use Rattle.i_shape_core.proofs.Walks.Prefixes.{prefix_starts, prefix_more}
use Rattle.i_shape_core.proofs.clean.simplifier.clean_prefix.Goals as goal

pub loop-place-init : goal.loop-place-init
loop-place-init g c = record {
  contour = refl;
  clean = prefix_starts IsZeroTurn _ (omega (arith, c.requires.enough, length-contour g.P.Coordinate.IntNumber.value c.args.probe.contour));
  visits = omega (arith, c.requires.fresh);
}

pub loop-place-preserved : goal.loop-place-preserved
loop-place-preserved g c =
    let same = c.loop-place.invariant.contour in
    record {
      contour = c.is_zero_at.ensures.contour ∙ same;
      clean = prefix_more IsZeroTurn _ c.loop-place.place (omega (arith, c.loop-place.auto.place))
          (omega (arith, c.loop-place-test.true, c.len-count.ensures, length-contour g.P.Coordinate.IntNumber.value c.args.probe.contour))
          c.loop-place.invariant.clean (fails_by_test c.is_zero_at.result (rw same at c.is_zero_at.ensures.test) c.if-is_zero_at.false);
      visits = omega (arith, c.is_zero_at.ensures.visits, c.loop-place.invariant.visits);
    }

pub returns-clause-clean : goal.returns-clause-clean
returns-clause-clean g c =
    let last : c.loop-place.place ≡ c.len-count.result = omega (arith, c.requires.enough, c.len-count.ensures, c.loop-place-test.false, c.loop-place.auto.place-end) in
    subst (λ (k : ℕ). IsStacked IsZeroTurn (contour_of g.P.Coordinate.IntNumber.value c.args.probe.contour) (range_with_len 0 k) k) last c.loop-place.invariant.clean
