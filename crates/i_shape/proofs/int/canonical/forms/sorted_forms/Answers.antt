use Rattle.std.proofs.Common.{All, take_all}
use Rattle.std.specs.Cmp.Lexicographic.{slice_cmp}
use Rattle.std.proofs.lemmas.Cmp.{on_total, lists_total}
use Rattle.std.proofs.lemmas.List.Sorted.{IsPermutation-map}
use Rattle.i_shape_core.proofs.Forms.ContourOrder.{point_cmp, points_told, points_total, contours_told, contour_told}
use Rattle.i_shape.proofs.Shapes.SortedOrders.{sorted_pairs}
use Rattle.i_shape.proofs.Common.{point_of, contour_of, IsSafe, IsAtMost, shape_of}
use Rattle.i_shape.proofs.Lists.Surviving.{mapped-read, survivors-more}
use Rattle.i_shape.proofs.int.canonical.forms.sorted_forms.Goals as goal

pub append_contour-requires : goal.append_contour-requires
append_contour-requires g c =
    let value = g.I.IntNumber.value in
    rw c.as_slice.ensures.value (mapped-read (λ v. contour_of value v.items) (All (IsSafe g.I.IntNumber.width)) c.args.contours.now c.loop-contour.contour-index c.contour-item.result c.loop-contour-test.true c.contour-item.is c.requires)

pub loop-contour-preserved : goal.loop-contour-preserved
loop-contour-preserved g c =
    let value = g.I.IntNumber.value in
    let step = c.in_ok-append_contour.ensures.ok in
    rw step.2 (survivors-more (λ v. contour_of value v.items) g.C.ContourCleaner.meaning.answers c.args.contours.now c.loop-contour.contour-index c.contour-item.result (shape_of value c.loop-contour.sorted.items) step.0 c.loop-contour-test.true c.contour-item.is c.loop-contour.invariant (rw c.as_slice.ensures.value at step.1))

pub returns-clause-answer : goal.returns-clause-answer
returns-clause-answer g c =
    let value = g.I.IntNumber.value in
    let cmp = point_cmp value g.I.Ord.cmp g.met.I.IntNumber.order in
    let told = points_told value g.I.Ord.cmp g.met.I.IntNumber.order in
    let total = points_total value g.I.Ord.cmp g.met.I.IntNumber.order g.met.I.Ord.total in
    let whole = take_all c.loop-contour.contour-index c.args.contours.now c.loop-contour-test.false in (
      shape_of value c.loop-contour.sorted.items,
      rw whole at c.loop-contour.invariant,
      IsPermutation-map (λ v. contour_of value v.items) _ _ c.sort_unstable.ensures.permutation,
      sorted_pairs _ (λ v. contour_of value v.items) IsAtMost (on_total (λ v. v.items) (lists_total total)) (λ x y h. contour_told (slice_cmp cmp) (contour_of value) (contours_told cmp (point_of value) told) x.items y.items h) _ c.sort_unstable.ensures.sorted,
    )
