use Rattle.std.proofs.Common.{◌≡◌, ◌+ℤ◌, ◌^◌, ◌<◌, ◌∙◌, FitsSigned, List, length, w64, to_z, of_z, ap, arith, rules}
use Rattle.std.proofs.lemmas.Int.{to_z-of_z}
use Rattle.std.proofs.Math.IntN.{+ℤ_idl}
use Rattle.i_shape_core.specs.Point.{Point}
use Rattle.i_shape_core.specs.Winding.{winding}
use Rattle.i_shape_core.proofs.Common.{point_of, level}
use Rattle.i_shape_core.proofs.Plane.PointLists.{points-length, item_read, last_read}
use Rattle.i_shape_core.proofs.Plane.SafeParts.{item_safe}
use Rattle.i_shape_core.proofs.Sums.WindingWalk.{near_first, near_step, no_points, walk_edge, walk_over, total_fits, total_added}
use Rattle.i_shape_touching.specs.Steps.Middles.{doubled, twice_middle}
use Rattle.i_shape_touching.proofs.MiddleTests.{twice_ring}
use Rattle.i_shape_touching.proofs.middle.winding_about_middle.Goals as goal

pub returns-in_default : goal.returns-in_default
returns-in_default g c =
    let value = g.P.Coordinate.IntNumber.value in
    let point = g.P.ContourPoint.point in
    let points = g.P.ContourPoint.points in
    let whole = c.args.ring.now in
    let count = points-length point points g.P.ContourPoint.each whole in
    no_points (doubled value) (twice_middle value c.args.middle) (points whole) (omega (arith, count, c.in_default.ensures.item.3))
    ∙ ap (λ (r : List Point). winding r (twice_middle value c.args.middle)) (twice_ring value (points whole))

pub loop-given-init : goal.loop-given-init
loop-given-init g c = record {
  before_safe = item_safe g.P.Coordinate.IntNumber.width g.P.Coordinate.IntNumber.value g.P.ContourPoint.point g.P.ContourPoint.points g.P.ContourPoint.each _ _ _ _ c.requires.ring_safe c.to_point-before.ensures (omega (arith, c.in-Some.ensures.item.3.0)) c.in-Some.ensures.item.1;
  near = near_first _;
  told = +ℤ_idl _;
}

pub edge_winding-total-requires-clause-end_safe : goal.edge_winding-total-requires-clause-end_safe
edge_winding-total-requires-clause-end_safe g c = item_safe g.P.Coordinate.IntNumber.width g.P.Coordinate.IntNumber.value g.P.ContourPoint.point g.P.ContourPoint.points g.P.ContourPoint.each _ _ _ _ c.requires.ring_safe c.to_point-end.ensures c.loop-given-test.true c.given-item.is

pub overflow_add-total : goal.overflow_add-total
overflow_add-total g c =
    let value = g.P.Coordinate.IntNumber.value in
    let point = g.P.ContourPoint.point in
    let points = g.P.ContourPoint.points in
    let whole = c.args.ring.now in
    let count = points-length point points g.P.ContourPoint.each whole in
    let last = last_read g.P.ContourPoint.point g.P.ContourPoint.points g.P.ContourPoint.each whole c.in-Some.last.now c.to_point-before.result c.to_point-before.ensures c.in-Some.ensures.item.1 (omega (arith, c.in-Some.ensures.item.3.0)) in
    let item = item_read g.P.ContourPoint.point g.P.ContourPoint.points g.P.ContourPoint.each whole c.loop-given.given-index c.given-item.result c.to_point-end.result c.to_point-end.ensures c.loop-given-test.true c.given-item.is in
    let room : length (points whole) < 2 ^ 64 = rw count (search rules) in
    let turn : FitsSigned w64 c.edge_winding-total.result = record { sfits = c.edge_winding-total.type_inv } in
    let fits = total_fits (doubled value) (twice_middle value c.args.middle) (points whole) c.loop-given.given-index c.loop-given.before c.to_point-before.result c.to_point-end.result (to_z w64 c.loop-given.total-bits) c.edge_winding-total.result
    last.1 item.0 room item.1 c.edge_winding-total.ensures c.loop-given.invariant.near in
    rw (to_z-of_z w64 c.edge_winding-total.result turn) fits

pub loop-given-preserved : goal.loop-given-preserved
loop-given-preserved g c =
    let value = g.P.Coordinate.IntNumber.value in
    let twice = doubled value in
    let point = g.P.ContourPoint.point in
    let points = g.P.ContourPoint.points in
    let whole = c.args.ring.now in
    let count = points-length point points g.P.ContourPoint.each whole in
    let last = last_read g.P.ContourPoint.point g.P.ContourPoint.points g.P.ContourPoint.each whole c.in-Some.last.now c.to_point-before.result c.to_point-before.ensures c.in-Some.ensures.item.1 (omega (arith, c.in-Some.ensures.item.3.0)) in
    let item = item_read g.P.ContourPoint.point g.P.ContourPoint.points g.P.ContourPoint.each whole c.loop-given.given-index c.given-item.result c.to_point-end.result c.to_point-end.ensures c.loop-given-test.true c.given-item.is in
    let room : length (points whole) < 2 ^ 64 = rw count (search rules) in
    let turn : FitsSigned w64 c.edge_winding-total.result = record { sfits = c.edge_winding-total.type_inv } in
    let p = twice_middle value c.args.middle in
    let fits = total_fits twice p (points whole) c.loop-given.given-index c.loop-given.before c.to_point-before.result c.to_point-end.result (to_z w64 c.loop-given.total-bits) c.edge_winding-total.result
    last.1 item.0 room item.1 c.edge_winding-total.ensures c.loop-given.invariant.near in
    let sum : to_z w64 (of_z w64 (to_z w64 c.loop-given.total-bits +ℤ to_z w64 (of_z w64 c.edge_winding-total.result))) ≡ to_z w64 c.loop-given.total-bits +ℤ c.edge_winding-total.result =
    total_added w64 (to_z w64 c.loop-given.total-bits) c.edge_winding-total.result fits turn in
    record {
      before_safe = item_safe g.P.Coordinate.IntNumber.width g.P.Coordinate.IntNumber.value g.P.ContourPoint.point g.P.ContourPoint.points g.P.ContourPoint.each _ _ _ _ c.requires.ring_safe c.to_point-end.ensures c.loop-given-test.true c.given-item.is;
      near = rw (sum, c.edge_winding-total.ensures) (near_step p (point_of twice c.loop-given.before) (point_of twice c.to_point-end.result) c.loop-given.given-index (level p (point_of twice c.to_point-before.result)) (to_z w64 c.loop-given.total-bits) c.loop-given.invariant.near);
      told = rw sum (walk_edge twice p (points whole) c.loop-given.given-index c.loop-given.before c.to_point-end.result (to_z w64 c.loop-given.total-bits) c.edge_winding-total.result _ item.0 item.1 c.edge_winding-total.ensures c.loop-given.invariant.told);
    }

pub returns : goal.returns
returns g c =
    let value = g.P.Coordinate.IntNumber.value in
    let point = g.P.ContourPoint.point in
    let points = g.P.ContourPoint.points in
    let whole = c.args.ring.now in
    let count = points-length point points g.P.ContourPoint.each whole in
    let last = last_read g.P.ContourPoint.point g.P.ContourPoint.points g.P.ContourPoint.each whole c.in-Some.last.now c.to_point-before.result c.to_point-before.ensures c.in-Some.ensures.item.1 (omega (arith, c.in-Some.ensures.item.3.0)) in
    walk_over (doubled value) (twice_middle value c.args.middle) (points whole) c.loop-given.given-index c.loop-given.before c.to_point-before.result _ (omega (arith, count, c.loop-given-test.false)) last.0 last.1 c.loop-given.invariant.told
    ∙ ap (λ (r : List Point). winding r (twice_middle value c.args.middle)) (twice_ring value (points whole))
