use Rattle.std.proofs.Common.{◌≡◌, ◌+ℤ◌, ◌^◌, ◌<◌, FitsSigned, length, w64, to_z, of_z, sym, subst₂, arith, rules}
use Rattle.std.proofs.lemmas.Int.{to_z-of_z}
use Rattle.std.proofs.Math.IntN.{+ℤ_idl}
use Rattle.i_shape_core.proofs.Common.{point_of, contour_of, level, IsWithinHalf}
use Rattle.i_shape_core.proofs.Plane.PointLists.{points-length, item_read, last_read, read-length}
use Rattle.i_shape_core.proofs.Plane.SafeParts.{item_safe}
use Rattle.i_shape_core.proofs.Sums.WindingWalk.{winding_half, near_first, near_step, no_points, walk_edge, walk_over, total_fits, total_added}
use Rattle.i_shape_core.proofs.measure.winding.winding_about.Goals as goal

pub returns-in_default-clause-answer : goal.returns-in_default-clause-answer
returns-in_default-clause-answer g c =
    let value = g.P.Coordinate.IntNumber.value in
    let point = g.P.ContourPoint.point in
    let points = g.P.ContourPoint.points in
    let whole = c.args.contour.now in
    let count = points-length point points g.P.ContourPoint.each whole in
    no_points value (point_of value c.args.point) (points whole) (omega (arith, count, c.in_default.ensures.item.3))

pub loop-given-init : goal.loop-given-init
loop-given-init g c = record {
  before_safe = item_safe g.P.Coordinate.IntNumber.width g.P.Coordinate.IntNumber.value g.P.ContourPoint.point g.P.ContourPoint.points g.P.ContourPoint.each _ _ _ _ c.requires.points_safe c.to_point-before.ensures (omega (arith, c.in-Some.ensures.item.3.0)) c.in-Some.ensures.item.1;
  near = near_first _;
  told = +ℤ_idl _;
}

pub edge_winding-total-requires-clause-end_safe : goal.edge_winding-total-requires-clause-end_safe
edge_winding-total-requires-clause-end_safe g c = item_safe g.P.Coordinate.IntNumber.width g.P.Coordinate.IntNumber.value g.P.ContourPoint.point g.P.ContourPoint.points g.P.ContourPoint.each _ _ _ _ c.requires.points_safe c.to_point-end.ensures c.loop-given-test.true c.given-item.is

pub overflow_add-total : goal.overflow_add-total
overflow_add-total g c =
    let value = g.P.Coordinate.IntNumber.value in
    let point = g.P.ContourPoint.point in
    let points = g.P.ContourPoint.points in
    let whole = c.args.contour.now in
    let count = points-length point points g.P.ContourPoint.each whole in
    let last = last_read g.P.ContourPoint.point g.P.ContourPoint.points g.P.ContourPoint.each whole c.in-Some.last.now c.to_point-before.result c.to_point-before.ensures c.in-Some.ensures.item.1 (omega (arith, c.in-Some.ensures.item.3.0)) in
    let item = item_read g.P.ContourPoint.point g.P.ContourPoint.points g.P.ContourPoint.each whole c.loop-given.given-index c.given-item.result c.to_point-end.result c.to_point-end.ensures c.loop-given-test.true c.given-item.is in
    let room : length (points whole) < 2 ^ 64 = rw count (search rules) in
    let turn : FitsSigned w64 c.edge_winding-total.result = record { sfits = c.edge_winding-total.type_inv } in
    let fits = total_fits value (point_of value c.args.point) (points whole) c.loop-given.given-index c.loop-given.before c.to_point-before.result c.to_point-end.result (to_z w64 c.loop-given.total-bits) c.edge_winding-total.result
    last.1 item.0 room item.1 c.edge_winding-total.ensures c.loop-given.invariant.near in
    rw (to_z-of_z w64 c.edge_winding-total.result turn) fits

pub loop-given-preserved : goal.loop-given-preserved
loop-given-preserved g c =
    let value = g.P.Coordinate.IntNumber.value in
    let point = g.P.ContourPoint.point in
    let points = g.P.ContourPoint.points in
    let whole = c.args.contour.now in
    let count = points-length point points g.P.ContourPoint.each whole in
    let last = last_read g.P.ContourPoint.point g.P.ContourPoint.points g.P.ContourPoint.each whole c.in-Some.last.now c.to_point-before.result c.to_point-before.ensures c.in-Some.ensures.item.1 (omega (arith, c.in-Some.ensures.item.3.0)) in
    let item = item_read g.P.ContourPoint.point g.P.ContourPoint.points g.P.ContourPoint.each whole c.loop-given.given-index c.given-item.result c.to_point-end.result c.to_point-end.ensures c.loop-given-test.true c.given-item.is in
    let room : length (points whole) < 2 ^ 64 = rw count (search rules) in
    let turn : FitsSigned w64 c.edge_winding-total.result = record { sfits = c.edge_winding-total.type_inv } in
    let fits = total_fits value (point_of value c.args.point) (points whole) c.loop-given.given-index c.loop-given.before c.to_point-before.result c.to_point-end.result (to_z w64 c.loop-given.total-bits) c.edge_winding-total.result
    last.1 item.0 room item.1 c.edge_winding-total.ensures c.loop-given.invariant.near in
    let sum : to_z w64 (of_z w64 (to_z w64 c.loop-given.total-bits +ℤ to_z w64 (of_z w64 c.edge_winding-total.result))) ≡ to_z w64 c.loop-given.total-bits +ℤ c.edge_winding-total.result =
    total_added w64 (to_z w64 c.loop-given.total-bits) c.edge_winding-total.result fits turn in
    let p = point_of value c.args.point in
    record {
      before_safe = item_safe g.P.Coordinate.IntNumber.width g.P.Coordinate.IntNumber.value g.P.ContourPoint.point g.P.ContourPoint.points g.P.ContourPoint.each _ _ _ _ c.requires.points_safe c.to_point-end.ensures c.loop-given-test.true c.given-item.is;
      near = rw (sum, c.edge_winding-total.ensures) (near_step p (point_of value c.loop-given.before) (point_of value c.to_point-end.result) c.loop-given.given-index (level p (point_of value c.to_point-before.result)) (to_z w64 c.loop-given.total-bits) c.loop-given.invariant.near);
      told = rw sum (walk_edge value p (points whole) c.loop-given.given-index c.loop-given.before c.to_point-end.result (to_z w64 c.loop-given.total-bits) c.edge_winding-total.result _ item.0 item.1 c.edge_winding-total.ensures c.loop-given.invariant.told);
    }

pub returns-clause-answer : goal.returns-clause-answer
returns-clause-answer g c =
    let value = g.P.Coordinate.IntNumber.value in
    let point = g.P.ContourPoint.point in
    let points = g.P.ContourPoint.points in
    let whole = c.args.contour.now in
    let count = points-length point points g.P.ContourPoint.each whole in
    let last = last_read g.P.ContourPoint.point g.P.ContourPoint.points g.P.ContourPoint.each whole c.in-Some.last.now c.to_point-before.result c.to_point-before.ensures c.in-Some.ensures.item.1 (omega (arith, c.in-Some.ensures.item.3.0)) in
    walk_over value (point_of value c.args.point) (points whole) c.loop-given.given-index c.loop-given.before c.to_point-before.result _ (omega (arith, count, c.loop-given-test.false)) last.0 last.1 c.loop-given.invariant.told

pub returns-in_default-clause-half : goal.returns-in_default-clause-half
returns-in_default-clause-half g c =
    let contour = contour_of g.P.Coordinate.IntNumber.value (g.P.ContourPoint.points c.args.contour.now) in
    let count = read-length g.P.Coordinate.IntNumber.value g.P.ContourPoint.point g.P.ContourPoint.points g.P.ContourPoint.each c.args.contour.now in
    subst₂ IsWithinHalf count (sym (returns-in_default-clause-answer g c)) (winding_half contour (point_of g.P.Coordinate.IntNumber.value c.args.point))

pub returns-clause-half : goal.returns-clause-half
returns-clause-half g c =
    let contour = contour_of g.P.Coordinate.IntNumber.value (g.P.ContourPoint.points c.args.contour.now) in
    let count = read-length g.P.Coordinate.IntNumber.value g.P.ContourPoint.point g.P.ContourPoint.points g.P.ContourPoint.each c.args.contour.now in
    subst₂ IsWithinHalf count (sym (returns-clause-answer g c)) (winding_half contour (point_of g.P.Coordinate.IntNumber.value c.args.point))
