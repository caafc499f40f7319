use Rattle.std.proofs.Common.{◌<◌, ◌≤◌, ◌+◌, ◌-◌, ◌↔◌, ℕ, List, length, false, IsTrue, inl, inr, refl, arith}
use Rattle.i_shape_core.proofs.Common.{Point, IsRemovable, Test, point_at, contour_of}
use Rattle.i_shape_core.proofs.Plane.Contours.{length-contour}
use Rattle.i_shape_core.proofs.Plane.PointLists.{points-length, read-length}
use Rattle.i_shape_core.proofs.Removal.Places.{Follows}
use Rattle.i_shape_core.proofs.Lists.FirstPlaces.{removable_between, one_more, none_removable}
use Rattle.i_shape_core.proofs.Walks.StackReads.{fails_by_test}
use Rattle.i_shape_core.proofs.clean.scan.has_none.Goals as goal

-- if some turn passes T, false is the result of the test that none does
spoiled : (T : Test) (c : List Point) (b k a : ℕ) → b < length c → k < length c → Follows (length c) b k → Follows (length c) k a → T (point_at c b) (point_at c k) (point_at c a) → IsTrue false ↔ ((3 ≤ length c) × ((k : ℕ) → IsRemovable T c k → ⊥))
spoiled T c b k a i j before after here = (λ t. absurd (cc), λ none. absurd (none.1 k (removable_between c b k a none.0 i j before after here)))

pub returns-then-points-lt3 : goal.returns-then-points-lt3
returns-then-points-lt3 g c =
    let points = g.P.ContourPoint.points in
    let count = points-length g.P.ContourPoint.point points g.P.ContourPoint.each c.args.points.now in
    (λ t. absurd (cc), λ s. absurd (omega (arith, s.0, count, length-contour g.P.Coordinate.IntNumber.value (points c.args.points.now))))

pub returns-then-is_at : goal.returns-then-is_at
returns-then-is_at g c =
    let points = g.P.ContourPoint.points c.args.points.now in
    let value = g.P.Coordinate.IntNumber.value in
    let whole = contour_of value points in
    let all = read-length value g.P.ContourPoint.point g.P.ContourPoint.points g.P.ContourPoint.each c.args.points.now in
    let last : ℕ = length c.args.points.now - 1 in
    spoiled g.T.TurnTest.test whole last 0 1 (omega (arith, all, c.if-points-lt3.false)) (omega (arith, all, c.if-points-lt3.false)) (inr (omega (arith, all, c.if-points-lt3.false), refl)) (inl (omega (arith, all, c.if-points-lt3.false), refl))
    (c.is_at.ensures.0 c.if-is_at.true)

pub returns-then-is_at-2 : goal.returns-then-is_at-2
returns-then-is_at-2 g c =
    let points = g.P.ContourPoint.points c.args.points.now in
    let value = g.P.Coordinate.IntNumber.value in
    let whole = contour_of value points in
    let all = read-length value g.P.ContourPoint.point g.P.ContourPoint.points g.P.ContourPoint.each c.args.points.now in
    let last : ℕ = length c.args.points.now - 1 in
    spoiled g.T.TurnTest.test whole (last - 1) last 0 (omega (arith, all, c.if-points-lt3.false)) (omega (arith, all, c.if-points-lt3.false)) (inl (omega (arith, all, c.if-points-lt3.false), omega (arith, c.if-points-lt3.false)))
    (inr (omega (arith, all, c.if-points-lt3.false), refl)) (c.is_at-2.ensures.0 c.if-is_at-2.true)

pub returns-then-is_at-3 : goal.returns-then-is_at-3
returns-then-is_at-3 g c =
    let points = g.P.ContourPoint.points c.args.points.now in
    let value = g.P.Coordinate.IntNumber.value in
    let whole = contour_of value points in
    let all = read-length value g.P.ContourPoint.point g.P.ContourPoint.points g.P.ContourPoint.each c.args.points.now in
    let last : ℕ = length c.args.points.now - 1 in
    let place : ℕ = c.loop-place.place in
    spoiled g.T.TurnTest.test whole place (place + 1) (place + 2) (omega (arith, all, c.loop-place-test.true)) (omega (arith, all, c.loop-place-test.true)) (inl (omega (arith, all, c.loop-place-test.true), refl))
    (inl (omega (arith, all, c.loop-place-test.true), omega arith)) (c.is_at-in-loop-place.ensures.0 c.if-is_at-3.true)

pub loop-place-init : goal.loop-place-init
loop-place-init g c = λ k less here. c.count_turning-place.ensures.turning k (omega arith) less (g.met.T.TurnTest.weaker _ _ _ here)

pub loop-place-preserved : goal.loop-place-preserved
loop-place-preserved g c =
    one_more g.T.TurnTest.test (contour_of g.P.Coordinate.IntNumber.value (g.P.ContourPoint.points c.args.points.now)) c.loop-place.place c.loop-place.invariant
    (fails_by_test c.is_at-in-loop-place.result c.is_at-in-loop-place.ensures c.if-is_at-3.false)

pub returns : goal.returns
returns g c =
    let points = g.P.ContourPoint.points c.args.points.now in
    let value = g.P.Coordinate.IntNumber.value in
    let whole = contour_of value points in
    let all = read-length value g.P.ContourPoint.point g.P.ContourPoint.points g.P.ContourPoint.each c.args.points.now in
    let last : ℕ = length c.args.points.now - 1 in (
      λ t. (
        omega (arith, all, c.if-points-lt3.false),
        none_removable whole c.loop-place.place last (omega (arith, all, c.if-points-lt3.false)) (omega (arith, all, c.if-points-lt3.false)) (omega (arith, c.loop-place-test.false)) c.loop-place.invariant
            (fails_by_test c.is_at.result c.is_at.ensures c.if-is_at.false) (fails_by_test c.is_at-2.result c.is_at-2.ensures c.if-is_at-2.false),
      ),
      λ s. refl,
    )
