use Rattle.std.proofs.Common.{◌≡◌, Err, ap, arith}
use Rattle.std.proofs.lemmas.Result.{err_from_is_err_and}
use Rattle.i_shape.specs.Paths.{paths_of_shape}
use Rattle.i_shape.specs.declared.ShapeError.TheVariants.{TooManyPoints}
use Rattle.i_shape.proofs.CallerLemmas.{safe_held, points_held, compact_read}
use Rattle.callers.proofs.pipeline.cleaned_contours.Goals as goal

pub simplify_contours-requires-clause-safe : goal.simplify_contours-requires-clause-safe
simplify_contours-requires-clause-safe g c =
    safe_held g.I.IntNumber.width g.I.IntNumber.value c.set_with_shape.new.self c.args.contours.now c.in_ok-set_with_shape.ensures.ok c.requires

pub returns-in_err-simplify_contours-clause-too_many : goal.returns-in_err-simplify_contours-clause-too_many
returns-in_err-simplify_contours-clause-too_many g c =
    let count = points_held c.set_with_shape.new.self (paths_of_shape c.args.contours.now) c.in_ok-set_with_shape.ensures.ok in
    let told = c.in_err-simplify_contours.ensures.too_many in
    let error = err_from_is_err_and c.from_residual-in_err-simplify_contours.result c.from_residual-in_err-simplify_contours.ensures.1 in (
      λ e.
          let cause : c.in_err-simplify_contours.field-0.0 ≡ TooManyPoints = cc in
          let many = (told.0 (ap Err cause)).0 in
          omega (arith, many, count),
      λ h. absurd (let e = c.in_ok-set_with_shape.ensures.too_many.1 h in cc),
    )

pub returns-clause-compact : goal.returns-clause-compact
returns-clause-compact g c =
    compact_read g.I.IntNumber.value c.args.contours.now c.set_with_shape.new.self c.simplify_contours.new.self c.to_contours.result
    c.in_ok-set_with_shape.ensures.ok c.in_ok-simplify_contours.ensures.gives.cleaned c.to_contours.ensures.ok
