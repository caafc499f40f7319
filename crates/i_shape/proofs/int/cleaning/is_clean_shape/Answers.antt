use Rattle.std.proofs.Common.{refl, sym, ◌∙◌, All, take_all}
use Rattle.std.proofs.lemmas.Bool.{false≢true}
use Rattle.i_shape.proofs.Common.{contour_of, IsSafe}
use Rattle.i_shape.proofs.Lists.Surviving.{mapped-read, mapped-more}
use Rattle.i_shape.proofs.int.cleaning.is_clean_shape.Goals as goal

pub is_clean-requires : goal.is_clean-requires
is_clean-requires g c =
    rw c.as_slice.ensures.value (mapped-read (λ v. contour_of g.I.IntNumber.value v.items) (All (IsSafe g.I.IntNumber.width)) c.args.shape.now c.loop-contour.contour-index c.contour-item.result c.loop-contour-test.true c.contour-item.is c.requires)

pub returns-then-not-is_clean : goal.returns-then-not-is_clean
returns-then-not-is_clean g c =
    let value = g.I.IntNumber.value in
    let clean = g.C.ContourCleaner.meaning.clean in (
      λ f. absurd (cc),
      λ all. absurd (false≢true (sym c.if-not-is_clean.true ∙ c.is_clean.ensures.1 (rw c.as_slice.ensures.value (mapped-read (λ v. contour_of value v.items) clean c.args.shape.now c.loop-contour.contour-index c.contour-item.result c.loop-contour-test.true c.contour-item.is all)))),
    )

pub loop-contour-preserved : goal.loop-contour-preserved
loop-contour-preserved g c =
    let value = g.I.IntNumber.value in
    let clean = g.C.ContourCleaner.meaning.clean in
    mapped-more (λ v. contour_of value v.items) clean c.args.shape.now c.loop-contour.contour-index c.contour-item.result c.loop-contour-test.true c.contour-item.is c.loop-contour.invariant (rw c.as_slice.ensures.value at (c.is_clean.ensures.0 c.if-not-is_clean.false))

pub returns : goal.returns
returns g c =
    let whole = take_all c.loop-contour.contour-index c.args.shape.now c.loop-contour-test.false in
    (λ t. rw whole at c.loop-contour.invariant, λ all. refl)
