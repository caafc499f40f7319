use Rattle.std.proofs.Common.{◌∙◌, ◌+◌, ◌<◌, length, refl, subst, ap, FitsSigned, w64, arith}
use Rattle.std.proofs.lemmas.Int.{to_z-of_z}
use Rattle.i_shape.specs.IntPoint.{point_of}
use Rattle.i_shape_core.proofs.Lists.Rings.{back_more}
use Rattle.i_shape_c.specs.Windings.{contours_winding}
use Rattle.i_shape_c.proofs.Told.{item_more}
use Rattle.i_shape_c.proofs.location.tell_one_by_one.Goals as goal

pub loop-place-preserved : goal.loop-place-preserved
loop-place-preserved g c =
    let value = g.P.Coordinate.IntNumber.value in
    let at = λ (p : g.row.P.Denot). point_of value (g.P.ContourPoint.point p) in
    let place = c.loop-place.place in
    let within = c.loop-place-test.true in
    let room : place < length c.loop-place.out = omega (arith, c.loop-place.auto.out, c.requires.room, within) in
    let Tells = g.T.Telling.tells c.args.rule in
    let fits : FitsSigned w64 c.wind_all-turns.result = record { sfits = c.wind_all-turns.type_inv } in
    let turns = to_z-of_z w64 c.wind_all-turns.result fits ∙ c.wind_all-turns.ensures ∙ ap (λ p. contours_winding at c.args.points.now c.args.offsets.now (point_of value p)) c.to_point.ensures in
    let here = subst (λ z. Tells z c.tell.result) turns c.tell.ensures in
    record {
      each = item_more (λ q. Tells (contours_winding at c.args.points.now c.args.offsets.now (at q))) c.args.about.now c.loop-place.out place c.index-about-place.result c.tell.result within c.index-about-place.is room c.loop-place.invariant.each here;
      rest = back_more c.loop-place.out c.args.out.now place (place + 1) c.tell.result refl c.loop-place.invariant.rest;
    }
