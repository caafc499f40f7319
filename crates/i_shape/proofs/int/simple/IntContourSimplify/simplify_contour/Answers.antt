use Rattle.std.proofs.Common.{rules, arith, ap}
use Rattle.std.proofs.lemmas.Grind.{common_steps}
use Rattle.i_shape.proofs.Common.{contour_of, IsSimple, SimpleAnswer}
use Rattle.i_shape_core.proofs.CleanerAnswers.Kept.{keeps_itself, collapsed_flat}
use Rattle.i_shape_core.proofs.Walks.Found.{simple_stays}
use Rattle.i_shape_core.proofs.Plane.Contours.{refuted_by_test}
use Rattle.i_shape.proofs.InPlace.Contours.{contour_stays, contour_collapses}
use Rattle.i_shape.proofs.int.simple.IntContourSimplify.simplify_contour.Goals as goal

pub returns-then-is_simple-clause-gives : goal.returns-then-is_simple-clause-gives
returns-then-is_simple-clause-gives g c =
    let simple = rw c.as_slice.ensures.value at (c.is_simple.ensures.0 c.if-is_simple.true) in
    contour_stays IsSimple SimpleAnswer (contour_of g.I.IntNumber.value c.args.self.now.items) simple (simple_stays _ simple) simple.enough

pub returns-in_err-contour-clause-gives : goal.returns-in_err-contour-clause-gives
returns-in_err-contour-clause-gives g c = record {
  cleans = grind (arith, common_steps);
  kept = keeps_itself _;
  short = search rules;
}

pub returns-in-None-clause-gives : goal.returns-in-None-clause-gives
returns-in-None-clause-gives g c =
    let value = g.I.IntNumber.value in
    let told = rw c.as_slice.ensures.value at c.is_simple.ensures in
    let ends = (rw (c.in-None.is, c.as_slice-2.ensures.value) at c.in_ok-contour.ensures.answer).cleaned.answer in
    contour_collapses IsSimple SimpleAnswer (contour_of value c.args.self.now.items) (contour_of value c.clear.new.self.items)
    (refuted_by_test c.is_simple.result told (λ h. h, λ h. h) c.if-is_simple.false) ends (collapsed_flat _ ends) (ap (contour_of value) c.clear.ensures.items)
