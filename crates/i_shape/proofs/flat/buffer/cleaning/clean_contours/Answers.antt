use Rattle.std.proofs.Common.{rules, ◌≡◌, ap, ◌∙◌, IsTrue, Err, All}
use Rattle.std.proofs.lemmas.Result.{err_from_is_err_and}
use Rattle.i_shape.proofs.Common.{TooManyPoints, Survivors, contours_in}
use Rattle.i_shape.proofs.Lists.Surviving.{survivors_stay}
use Rattle.i_shape.proofs.Shapes.Kept.{survivors_keep, survivors_safe}
use Rattle.i_shape.proofs.flat.buffer.cleaning.clean_contours.Goals as goal

pub returns-then-are_clean-clause-gives : goal.returns-then-are_clean-clause-gives
returns-then-are_clean-clause-gives g c =
    let all = rw (c.as_slice.ensures.value, c.as_slice-2.ensures.value) at (c.are_clean.ensures.0 c.if-are_clean.true) in record {
      cleaned = survivors_stay g.C.ContourCleaner.meaning.clean g.C.ContourCleaner.meaning.answers g.met.C.InPlaceCleaner.stays (contours_in g.T.IntNumber.value c.args.buffer.now) all;
      clean = search rules;
      kept = search rules;
      unchanged = search rules;
      end_to_end = search rules;
      readable = c.requires.readable;
      safe = c.requires.safe;
    }

pub returns-then-are_clean-clause-too_many : goal.returns-then-are_clean-clause-too_many
returns-then-are_clean-clause-too_many g c =
    let all = rw (c.as_slice.ensures.value, c.as_slice-2.ensures.value) at (c.are_clean.ensures.0 c.if-are_clean.true) in
    (λ e. absurd (cc), λ h. absurd (h.1 all))

pub returns-in_err-buffer-clause-gives : goal.returns-in_err-buffer-clause-gives
returns-in_err-buffer-clause-gives g c =
    let error = err_from_is_err_and c.from_residual.result c.from_residual.ensures.1 in
    let same : c.from_residual.result ≡ Err error.0 = error.1 in record {
      cleaned = search rules;
      clean = (λ e. absurd (cc), λ all. let told : IsTrue c.are_clean.result = c.are_clean.ensures.1 (rw (c.as_slice.ensures.value, c.as_slice-2.ensures.value) all) in absurd (cc));
      kept = search rules;
      unchanged = search rules;
      end_to_end = search rules;
      readable = c.requires.readable;
      safe = c.requires.safe;
    }

pub returns-in_err-buffer-clause-too_many : goal.returns-in_err-buffer-clause-too_many
returns-in_err-buffer-clause-too_many g c =
    let dirty : All g.C.ContourCleaner.meaning.clean (contours_in g.T.IntNumber.value c.args.buffer.now) → ⊥ =
    λ all. let told : IsTrue c.are_clean.result = c.are_clean.ensures.1 (rw (c.as_slice.ensures.value, c.as_slice-2.ensures.value) all) in absurd (cc) in
    let told = rw c.as_slice-4.ensures.value at c.in_err-buffer.ensures.too_many in
    let error = err_from_is_err_and c.from_residual.result c.from_residual.ensures.1 in
    let same : c.from_residual.result ≡ Err c.in_err-buffer.field-0.0 = error.1 ∙ ap Err error.2 in (
      λ e. let cause : c.in_err-buffer.field-0.0 ≡ TooManyPoints = cc in (told.0 (ap Err cause), dirty),
      λ h. let is_err = told.1 h.0 in let cause : c.in_err-buffer.field-0.0 ≡ TooManyPoints = cc in same ∙ ap Err cause,
    )

pub returns-clause-gives : goal.returns-clause-gives
returns-clause-gives g c =
    let compact : Survivors g.C.ContourCleaner.meaning.answers (contours_in g.T.IntNumber.value c.args.buffer.now) (contours_in g.T.IntNumber.value c.in_ok-buffer.field-0) = search rules in record {
      cleaned = compact;
      clean = (λ e. absurd (cc), λ all. let told : IsTrue c.are_clean.result = c.are_clean.ensures.1 (rw (c.as_slice.ensures.value, c.as_slice-2.ensures.value) all) in absurd (cc));
      kept = survivors_keep g.C.ContourCleaner.meaning.answers g.met.C.InPlaceCleaner.kept _ _ compact;
      unchanged = search rules;
      end_to_end = search rules;
      readable = search rules;
      safe = survivors_safe g.C.ContourCleaner.meaning.answers g.T.IntNumber.width (g.met.C.CleanerLaws.stays_safe g.T.IntNumber.width) _ _ compact c.requires.safe;
    }
