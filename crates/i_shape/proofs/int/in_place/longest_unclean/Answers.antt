use Rattle.std.proofs.Common.{◌≡◌, List, length, max, unwrap_or, arith, All}
use Rattle.std.proofs.lemmas.List.{take_all, length-map}
use Rattle.i_shape.proofs.Common.{IntPoint, contour_of, point_of, IsSafe}
use Rattle.i_shape_core.proofs.Walks.StackReads.{fails_by_test}
use Rattle.i_shape.proofs.Lists.Surviving.{mapped-read, mapped-taken}
use Rattle.i_shape.proofs.InPlace.Longest.{none_longest, clean_more, unclean_more}
use Rattle.i_shape.proofs.int.in_place.longest_unclean.Goals as goal

pub loop-contour-init : goal.loop-contour-init
loop-contour-init g c = none_longest g.C.ContourCleaner.meaning.clean

pub is_clean-requires : goal.is_clean-requires
is_clean-requires g c =
    rw c.as_slice.ensures.value (mapped-read (λ v. contour_of g.I.IntNumber.value v.items) (All (IsSafe g.I.IntNumber.width)) c.args.shape.now c.loop-contour.contour-index c.contour-item.result c.loop-contour-test.true c.contour-item.is c.requires)

pub loop-contour-preserved-then-is_clean : goal.loop-contour-preserved-then-is_clean
loop-contour-preserved-then-is_clean g c =
    rw (mapped-taken (λ v. contour_of g.I.IntNumber.value v.items) c.args.shape.now c.loop-contour.contour-index c.contour-item.result c.loop-contour-test.true c.contour-item.is)
    (clean_more g.C.ContourCleaner.meaning.clean _ _ c.loop-contour.longest c.loop-contour.invariant (rw c.as_slice.ensures.value at (c.is_clean.ensures.0 c.if-is_clean.true)))

pub loop-contour-preserved : goal.loop-contour-preserved
loop-contour-preserved g c =
    let value = g.I.IntNumber.value in
    let Clean : List (IntPoint g.row.I.Denot) → Type 0 = λ w. g.C.ContourCleaner.meaning.clean (contour_of value w) in
    let contour = c.contour-item.result in
    let fails : Clean contour.items → ⊥ = λ pass. fails_by_test c.is_clean.result c.is_clean.ensures c.if-is_clean.false (rw c.as_slice.ensures.value pass) in
    let count : c.max.result ≡ max (length (contour_of value contour.items)) (unwrap_or c.loop-contour.longest 0) = omega (arith, c.max.ensures, c.len.ensures, contour.ok.0, length-map contour.items (point_of value), c.unwrap_or.ensures) in
    rw (count, mapped-taken (λ v. contour_of value v.items) c.args.shape.now c.loop-contour.contour-index contour c.loop-contour-test.true c.contour-item.is)
    (unclean_more g.C.ContourCleaner.meaning.clean _ _ c.loop-contour.longest c.loop-contour.invariant fails)

pub returns : goal.returns
returns g c =
    let whole = take_all c.loop-contour.contour-index c.args.shape.now c.loop-contour-test.false in
    rw whole at c.loop-contour.invariant
