use Rattle.std.proofs.Common.{rules, ◌∙◌, ◌++◌, [], ◌∷◌, List, arith, sym, ap, subst, take_all, IsPermutation}
use Rattle.std.proofs.lemmas.Fn.{always_returns_same}
use Rattle.i_shape_core.proofs.Plane.PointLists.{points-length, points-item}
use Rattle.i_shape_core.specs.Heights.{asks}
use Rattle.i_shape_core.specs.declared.measure.heights.Asked.{Asked}
use Rattle.i_shape_core.proofs.Sums.Heights.{asks-more, rising_from_sorted}
use Rattle.i_shape_core.proofs.measure.heights.by_height.Goals as goal

pub loop-place-preserved : goal.loop-place-preserved
loop-place-preserved g c =
    let point = g.Q.ContourPoint.point in
    let points = g.Q.ContourPoint.points in
    let each = g.Q.ContourPoint.each in
    let whole = c.args.points.now in
    let count = points-length point points each whole in
    let read = points-item point points each whole c.loop-place.place c.index-points-place.result c.to_point-point.result c.to_point-point.ensures c.loop-place-test.true c.index-points-place.is in
    record {
      asked = c.push_reserved.ensures.items ∙ ap (λ (qs : List (Asked _)). qs ++ record { point = c.to_point-point.result; place = c.loop-place.place } ∷ []) c.loop-place.invariant.asked
          ∙ sym (asks-more (points whole) c.loop-place.place c.to_point-point.result (omega (arith, count, c.loop-place-test.true)) read);
      len = omega (arith, c.loop-place.invariant.len);
      room = omega (arith, c.loop-place.invariant.room, c.push_reserved.ensures.capacity);
    }

pub returns-clause-all : goal.returns-clause-all
returns-clause-all g c =
    let point = g.Q.ContourPoint.point in
    let points = g.Q.ContourPoint.points in
    let whole = c.args.points.now in
    let count = points-length point points g.Q.ContourPoint.each whole in
    let all = c.loop-place.invariant.asked ∙ ap (asks 0) (take_all c.loop-place.place (points whole) (omega (arith, count, c.loop-place-test.false))) in
    subst (λ qs. IsPermutation qs c.sort_unstable_by_key.new.self.items) all c.sort_unstable_by_key.ensures.permutation

pub returns-clause-rising : goal.returns-clause-rising
returns-clause-rising g c =
    let number = g.met.Q.Coordinate.IntNumber in
    rising_from_sorted g.Q.Coordinate.IntNumber.value g.Q.Coordinate.Ord.cmp number.order c.sort_unstable_by_key.new.self.items
    (c.sort_unstable_by_key.ensures.sorted (λ q. q.point.y) (always_returns_same _ _ _ (λ a r f k. search rules)))
