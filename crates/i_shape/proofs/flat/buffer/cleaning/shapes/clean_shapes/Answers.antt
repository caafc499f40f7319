use Rattle.std.proofs.Common.{rules, ◌≡◌, ap, ◌∙◌, IsTrue, Err}
use Rattle.std.proofs.lemmas.Result.{err_from_is_err_and}
use Rattle.i_shape.proofs.Common.{TooManyPoints, ShapeClean, EachContour, EachShape, named_shapes}
use Rattle.i_shape.proofs.Lists.Surviving.{survivors_stay}
use Rattle.i_shape.proofs.Shapes.Kept.{shape_stays, list_keeps, list_safe}
use Rattle.i_shape.proofs.flat.buffer.cleaning.shapes.clean_shapes.Goals as goal

pub returns-then-are_clean_shapes-clause-gives : goal.returns-then-are_clean_shapes-clause-gives
returns-then-are_clean_shapes-clause-gives g c =
    let all = rw (c.as_slice.ensures.value, c.as_slice-2.ensures.value, c.as_slice-3.ensures.value) at (c.are_clean_shapes.ensures.0 c.if-are_clean_shapes.true) in
    let stays =
    survivors_stay (EachContour g.C.ContourCleaner.meaning.clean) (ShapeClean g.C.ContourCleaner.meaning.answers) (shape_stays g.C.ContourCleaner.meaning.clean g.C.ContourCleaner.meaning.answers g.met.C.InPlaceCleaner.stays)
    (named_shapes g.T.IntNumber.value c.args.buffer.now) all in record {
      cleaned = stays;
      clean = search rules;
      kept = list_keeps g.C.ContourCleaner.meaning.answers g.met.C.InPlaceCleaner.kept _ _ stays;
      unchanged = search rules;
      end_to_end = search rules;
      readable = c.requires.readable;
      safe = c.requires.safe;
    }

pub returns-then-are_clean_shapes-clause-too_many : goal.returns-then-are_clean_shapes-clause-too_many
returns-then-are_clean_shapes-clause-too_many g c =
    let all = rw (c.as_slice.ensures.value, c.as_slice-2.ensures.value, c.as_slice-3.ensures.value) at (c.are_clean_shapes.ensures.0 c.if-are_clean_shapes.true) in
    (λ e. absurd (cc), λ h. absurd (h.1 all))

pub returns-in_err-buffer-clause-gives : goal.returns-in_err-buffer-clause-gives
returns-in_err-buffer-clause-gives g c =
    let error = err_from_is_err_and c.from_residual.result c.from_residual.ensures.1 in
    let same : c.from_residual.result ≡ Err error.0 = error.1 in record {
      cleaned = search rules;
      clean = (λ e. absurd (cc), λ all. let told : IsTrue c.are_clean_shapes.result = c.are_clean_shapes.ensures.1 (rw (c.as_slice.ensures.value, c.as_slice-2.ensures.value, c.as_slice-3.ensures.value) all) in absurd (cc));
      kept = search rules;
      unchanged = search rules;
      end_to_end = search rules;
      readable = c.requires.readable;
      safe = c.requires.safe;
    }

pub returns-in_err-buffer-clause-too_many : goal.returns-in_err-buffer-clause-too_many
returns-in_err-buffer-clause-too_many g c =
    let dirty : EachShape g.C.ContourCleaner.meaning.clean (named_shapes g.T.IntNumber.value c.args.buffer.now) → ⊥ =
    λ all. let told : IsTrue c.are_clean_shapes.result = c.are_clean_shapes.ensures.1 (rw (c.as_slice.ensures.value, c.as_slice-2.ensures.value, c.as_slice-3.ensures.value) all) in absurd (cc) in
    let told = rw (c.as_slice-5.ensures.value, c.as_slice-6.ensures.value) at c.in_err-buffer.ensures.too_many in
    let error = err_from_is_err_and c.from_residual.result c.from_residual.ensures.1 in
    let same : c.from_residual.result ≡ Err c.in_err-buffer.field-0.0 = error.1 ∙ ap Err error.2 in (
      λ e. let cause : c.in_err-buffer.field-0.0 ≡ TooManyPoints = cc in (told.0 (ap Err cause), dirty),
      λ h. let is_err = told.1 h.0 in let cause : c.in_err-buffer.field-0.0 ≡ TooManyPoints = cc in same ∙ ap Err cause,
    )

pub returns-clause-gives : goal.returns-clause-gives
returns-clause-gives g c =
    let clean = rw (c.as_slice-4.ensures.value, c.as_slice-5.ensures.value, c.as_slice-6.ensures.value) at c.in_ok-buffer.ensures.cleaned in record {
      cleaned = clean;
      clean = (λ e. absurd (cc), λ all. let told : IsTrue c.are_clean_shapes.result = c.are_clean_shapes.ensures.1 (rw (c.as_slice.ensures.value, c.as_slice-2.ensures.value, c.as_slice-3.ensures.value) all) in absurd (cc));
      kept = list_keeps g.C.ContourCleaner.meaning.answers g.met.C.InPlaceCleaner.kept _ _ clean;
      unchanged = search rules;
      end_to_end = search rules;
      readable = search rules;
      safe = list_safe g.C.ContourCleaner.meaning.answers g.T.IntNumber.width (g.met.C.CleanerLaws.stays_safe g.T.IntNumber.width) _ _ clean c.requires.safe;
    }
