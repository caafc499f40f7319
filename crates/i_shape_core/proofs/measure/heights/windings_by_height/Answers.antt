use Rattle.std.proofs.Common.{rules, ◌≡◌, ◌∙◌, ◌<◌, ◌^◌, ℕ, ℤ, List, length, map, get_or, replicate, arith, sym, ap, subst, pos, w64, FitsSigned, All, IsPermutation}
use Rattle.i_shape_core.proofs.Common.{winding, contour_of, IsSafe}
use Rattle.i_shape_core.specs.Heights.{asked_points, asks, AllFit}
use Rattle.i_shape_core.specs.declared.measure.heights.Asked.{Asked}
use Rattle.i_shape_core.proofs.Plane.PointLists.{points-length, read-length}
use Rattle.i_shape_core.proofs.Lists.Appended.{front_taken}
use Rattle.i_shape_core.proofs.Sums.Heights.{all-safe, all-within, asked-length, zero-read, zero-fits, winding_fits, total_from_added}
use Rattle.i_shape_core.proofs.measure.heights.windings_by_height.Goals as goal

pub add_contour-requires-clause-asked_safe : goal.add_contour-requires-clause-asked_safe
add_contour-requires-clause-asked_safe g c =
    let value = g.P.Coordinate.IntNumber.value in
    let width = g.P.Coordinate.IntNumber.width in
    subst (λ (qs : List (Asked _)). All (IsSafe width) (asked_points value qs)) (sym c.deref.ensures.value)
    (all-safe width value (g.Q.ContourPoint.points c.args.points.now) c.in_ok-asked.asked.items c.in_ok-asked.ensures.all c.requires.points_safe)

pub add_contour-requires-clause-fit : goal.add_contour-requires-clause-fit
add_contour-requires-clause-fit g c =
    let zeros : c.deref_mut.result.now ≡ replicate c.len.result (pos 0) = search rules in
    λ k. subst (λ (z : ℤ). FitsSigned w64 z) (sym (ap (λ (ts : List ℤ). get_or ts k (pos 0)) zeros ∙ zero-read c.len.result k)) zero-fits

pub write_totals-requires-clause-fit : goal.write_totals-requires-clause-fit
write_totals-requires-clause-fit g c =
    let kept : c.deref-3.result.now ≡ c.add_contour.new.totals = c.deref-3.ensures.value ∙ front_taken _ c.add_contour.new.totals _ (c.add_contour.ensures.room ∙ c.deref_mut.ensures.len) in
    subst AllFit (sym kept) c.add_contour.ensures.fit

pub write_totals-requires-clause-within : goal.write_totals-requires-clause-within
write_totals-requires-clause-within g c =
    let points = g.Q.ContourPoint.points in
    let count = points-length g.Q.ContourPoint.point points g.Q.ContourPoint.each c.args.points.now in
    subst (λ (qs : List (Asked _)). All (λ q. q.place < length c.args.out.now) qs) (sym c.deref-2.ensures.value)
    (all-within (points c.args.points.now) c.in_ok-asked.asked.items (length c.args.out.now) (omega (arith, count, c.requires.room)) c.in_ok-asked.ensures.all)

pub returns-clause-answer : goal.returns-clause-answer
returns-clause-answer g c =
    let value = g.P.Coordinate.IntNumber.value in
    let points = g.Q.ContourPoint.points in
    let whole = g.P.ContourPoint.points c.args.contour.now in
    let count = points-length g.Q.ContourPoint.point points g.Q.ContourPoint.each c.args.points.now in
    let many = read-length value g.P.ContourPoint.point g.P.ContourPoint.points g.P.ContourPoint.each c.args.contour.now in
    let few : length (contour_of value whole) < 2 ^ 64 = rw many (search rules) in
    let f = winding (contour_of value whole) in
    let zeros : c.deref_mut.result.now ≡ replicate c.len.result (pos 0) = search rules in
    let none : (k : ℕ) → get_or c.deref_mut.result.now k (pos 0) ≡ pos 0 = λ k. ap (λ (ts : List ℤ). get_or ts k (pos 0)) zeros ∙ zero-read c.len.result k in
    let kept : c.deref-3.result.now ≡ c.add_contour.new.totals = c.deref-3.ensures.value ∙ front_taken _ c.add_contour.new.totals _ (c.add_contour.ensures.room ∙ c.deref_mut.ensures.len) in
    let many_totals : length c.add_contour.new.totals ≡ length (asked_points value c.deref.result.now) = c.add_contour.ensures.room ∙ search rules ∙ sym (asked-length value c.deref.result.now) in
    let total = total_from_added (asked_points value c.deref.result.now) f c.deref_mut.result.now c.add_contour.new.totals many_totals none c.add_contour.ensures.fit (λ p. winding_fits (contour_of value whole) p few) c.add_contour.ensures.added in
    let same : c.deref.result.now ≡ c.deref-2.result.now = c.deref.ensures.value ∙ sym c.deref-2.ensures.value in
    let told = kept ∙ total ∙ ap (λ (qs : List (Asked _)). map f (asked_points value qs)) same in
    let moved = subst (λ (qs : List (Asked _)). IsPermutation (asks 0 (points c.args.points.now)) qs) (sym c.deref-2.ensures.value) c.in_ok-asked.ensures.all in
    rw (sym count) (c.write_totals.ensures.written (points c.args.points.now) f moved told)
