use Rattle.std.proofs.Common.{◌≡◌, ◌∙◌, ◌+◌, ◌<◌, ◌++◌, ◌∷◌, [], length, map, take, drop, ap, ap₂, refl, sym, arith, take_all, w64, FitsSigned}
use Rattle.std.proofs.lemmas.Int.{to_z-of_z}
use Rattle.std.proofs.lemmas.List.{take_more, take_more_set, take-append-drop, drop-set-lt, drop-drop, map-append}
use Rattle.i_shape_core.proofs.Common.{point_of, contour_of, winding}
use Rattle.i_shape_core.proofs.Plane.PointLists.{points-push}
use Rattle.i_shape_core.proofs.Plane.SafeParts.{item_safe}
use Rattle.i_shape_core.proofs.measure.winding.windings_about.Goals as goal

pub loop-place-init : goal.loop-place-init
loop-place-init g c =
    let value = g.P.Coordinate.IntNumber.value in
    let f = winding (contour_of value (g.P.ContourPoint.points c.args.contour.now)) in
    record { told = ap (λ list. map f (contour_of value list)) (sym (g.Q.ContourPoint.each [])); rest = refl }

pub winding_about-requires-clause-point_safe : goal.winding_about-requires-clause-point_safe
winding_about-requires-clause-point_safe g c =
    item_safe g.P.Coordinate.IntNumber.width g.P.Coordinate.IntNumber.value g.Q.ContourPoint.point g.Q.ContourPoint.points g.Q.ContourPoint.each _ _ _ _ c.requires.points_safe c.to_point.ensures c.loop-place-test.true c.index-points-place.is

pub loop-place-preserved : goal.loop-place-preserved
loop-place-preserved g c =
    let value = g.P.Coordinate.IntNumber.value in
    let point = g.Q.ContourPoint.point in
    let points = g.Q.ContourPoint.points in
    let f = winding (contour_of value (g.P.ContourPoint.points c.args.contour.now)) in
    let whole = c.args.points.now in
    let at = c.loop-place.place in
    let read = c.index-points-place.result in
    let room : at < length c.loop-place.out = omega (arith, c.loop-place.auto.out, c.requires.room, c.loop-place-test.true) in
    let longer = take_more whole at read c.loop-place-test.true ∙ ap (λ p. take at whole ++ p ∷ []) (sym c.index-points-place.is) in
    let more = ap (λ list. map f (contour_of value list)) (points-push point points g.Q.ContourPoint.each (take at whole) (take (at + 1) whole) read longer)
    ∙ ap (map f) (map-append (point_of value) (points (take at whole)) (point read ∷ []))
    ∙ map-append f (contour_of value (points (take at whole))) (point_of value (point read) ∷ []) in
    let fits : FitsSigned w64 c.winding_about.result = record { sfits = c.winding_about.type_inv } in
    rw (to_z-of_z w64 c.winding_about.result fits) (record {
      told = take_more_set c.loop-place.out at c.winding_about.result room
          ∙ ap₂ (λ list w. list ++ w ∷ []) c.loop-place.invariant.told (c.winding_about.ensures.answer ∙ ap (λ p. f (point_of value p)) c.to_point.ensures)
          ∙ sym more;
      rest = drop-set-lt (at + 1) c.loop-place.out at c.winding_about.result (omega arith) ∙ sym (drop-drop 1 at c.loop-place.out) ∙ ap (drop 1) c.loop-place.invariant.rest ∙ drop-drop 1 at c.args.out.now;
    })

pub returns : goal.returns
returns g c =
    let all : c.loop-place.place ≡ length c.args.points.now = omega (arith, c.loop-place-test.false, c.loop-place.auto.place-end) in
    let told = rw (take_all c.loop-place.place c.args.points.now (omega (arith, all))) at c.loop-place.invariant.told in
    sym (take-append-drop c.loop-place.place c.loop-place.out) ∙ ap₂ (λ front back. front ++ back) told (c.loop-place.invariant.rest ∙ ap (λ n. drop n c.args.out.now) all)
