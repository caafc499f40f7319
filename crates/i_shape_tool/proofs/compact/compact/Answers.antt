use Rattle.std.proofs.lemmas.Result.{err_from_is_err_and}
use Rattle.i_shape_tool.specs.Points.{contours_in}
use Rattle.i_shape_tool.specs.Text.{lines_of}
use Rattle.i_shape_tool.proofs.Running.Gathering.{safe_gathered, refused_to_clean, refused_to_show}
use Rattle.i_shape_tool.proofs.compact.compact.Goals as goal

pub simplify_contours-requires-clause-safe : goal.simplify_contours-requires-clause-safe
simplify_contours-requires-clause-safe c = safe_gathered (lines_of c.args.text.now) (contours_in c.in_ok-contours.contours) c.in_ok-contours.ensures.gathered

pub returns-in_err-simplify_contours-clause-err : goal.returns-in_err-simplify_contours-clause-err
returns-in_err-simplify_contours-clause-err c =
    let p = err_from_is_err_and c.from_residual-in_err-simplify_contours.result c.from_residual-in_err-simplify_contours.ensures.1 in
    rw (p.1, p.2)
    (refused_to_clean c.args.text.now c.in_ok-contours.contours c.in_ok-contours.ensures.gathered (λ simple. let unchanged = c.in_err-simplify_contours.ensures.gives.clean.1 simple in absurd cc))

pub returns-in_err-show_contours-clause-err : goal.returns-in_err-show_contours-clause-err
returns-in_err-show_contours-clause-err c =
    let p = err_from_is_err_and c.from_residual-in_err-show_contours.result c.from_residual-in_err-show_contours.ensures.1 in
    rw (p.1, p.2)
    (refused_to_show c.args.text.now c.in_ok-contours.contours c.in_ok-contours.ensures.gathered (contours_in c.simplify_contours.new.self) c.in_ok-simplify_contours.ensures.gives.cleaned (λ none. let shown = c.in_err-show_contours.ensures.none none in absurd cc))
