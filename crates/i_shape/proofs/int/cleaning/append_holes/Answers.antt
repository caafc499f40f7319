use Rattle.std.proofs.Common.{◌++◌, ◌∙◌, ap, append_assoc, append-nil, sym, [], All, option_to_list, take_all}
use Rattle.i_shape.proofs.Common.{contour_of, IsSafe, shape_of}
use Rattle.i_shape_core.proofs.Lists.Survivors.{survivors-none}
use Rattle.i_shape.proofs.Lists.Surviving.{mapped-read, survivors-more}
use Rattle.i_shape.proofs.int.cleaning.append_holes.Goals as goal

pub append_contour-requires : goal.append_contour-requires
append_contour-requires g c =
    rw c.as_slice.ensures.value (mapped-read (λ v. contour_of g.I.IntNumber.value v.items) (All (IsSafe g.I.IntNumber.width)) c.args.contours.now c.loop-contour.contour-index c.contour-item.result c.loop-contour-test.true c.contour-item.is c.requires)

pub loop-contour-init : goal.loop-contour-init
loop-contour-init g c = ([], survivors-none g.C.ContourCleaner.meaning.answers, sym (append-nil (shape_of g.I.IntNumber.value c.args.kept.now.items)))

pub loop-contour-preserved : goal.loop-contour-preserved
loop-contour-preserved g c =
    let value = g.I.IntNumber.value in
    let inv = c.loop-contour.invariant in
    let step = c.in_ok-append_contour.ensures.ok in (
      inv.0 ++ option_to_list step.0,
      survivors-more (λ v. contour_of value v.items) g.C.ContourCleaner.meaning.answers c.args.contours.now c.loop-contour.contour-index c.contour-item.result inv.0 step.0 c.loop-contour-test.true c.contour-item.is inv.1 (rw c.as_slice.ensures.value at step.1),
      step.2 ∙ ap (λ w. w ++ option_to_list step.0) inv.2 ∙ append_assoc (shape_of value c.args.kept.now.items) inv.0 (option_to_list step.0),
    )

pub returns-clause-ok : goal.returns-clause-ok
returns-clause-ok g c =
    let inv = c.loop-contour.invariant in
    let whole = take_all c.loop-contour.contour-index c.args.contours.now c.loop-contour-test.false in
    (inv.0, rw whole at inv.1, inv.2)
