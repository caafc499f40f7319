use Rattle.std.proofs.Common.{◌≡◌, All, length, take, subst, arith, rules}
use Rattle.std.proofs.lemmas.List.{take_all}
use Rattle.std.proofs.lemmas.List.Elements.{All-more}
use Rattle.i_shape.specs.IntPoint.{point_of}
use Rattle.i_shape_contacts.specs.Steps.Boxes.{Holds}
use Rattle.i_shape_c.proofs.Holding.{all_follow}
use Rattle.i_shape_c.proofs.holders.bounds_of.Goals as goal

pub returns-then-is_empty : goal.returns-then-is_empty
returns-then-is_empty g c = let none : length c.args.points.now ≡ 0 = search rules in λ k d h. absurd (omega (arith, none, h))

pub loop-place-preserved : goal.loop-place-preserved
loop-place-preserved g c =
    let value = g.P.Coordinate.IntNumber.value in
    let at = λ (p : g.row.P.Denot). point_of value (g.P.ContourPoint.point p) in
    let place = c.loop-place.place in
    let within = c.loop-place-test.true in
    let list = c.args.points.now in
    let before = all_follow (λ p. Holds value c.loop-place.bounds (at p)) (λ p. Holds value c.joined-bounds.result (at p)) (take place list) (λ p h. c.joined-bounds.ensures.first (at p) h) c.loop-place.invariant in
    let here = c.joined-bounds.ensures.second (at c.index-points-place.result) (subst (λ p. Holds value c.bounds_between-in-loop-place.result (point_of value p)) c.to_point-point.ensures c.bounds_between-in-loop-place.ensures.first) in
    All-more (λ p. Holds value c.joined-bounds.result (at p)) list place c.index-points-place.result within before (subst (λ p. Holds value c.joined-bounds.result (at p)) c.index-points-place.is here)

pub returns : goal.returns
returns g c =
    let value = g.P.Coordinate.IntNumber.value in
    subst (All (λ p. Holds value c.loop-place.bounds (point_of value (g.P.ContourPoint.point p)))) (take_all c.loop-place.place c.args.points.now (omega (arith, c.loop-place-test.false))) c.loop-place.invariant
