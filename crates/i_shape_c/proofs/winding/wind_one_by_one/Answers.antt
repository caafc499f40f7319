use Rattle.std.proofs.Common.{◌≡◌, ◌∙◌, ◌+◌, ◌<◌, ◌++◌, ◌∷◌, [], length, map, take, drop, ap, ap₂, refl, sym, FitsSigned, w64, arith, take_all}
use Rattle.std.proofs.lemmas.Int.{to_z-of_z}
use Rattle.std.proofs.lemmas.List.{take_more, take_more_set, take-append-drop, map-append}
use Rattle.i_shape.specs.IntPoint.{point_of}
use Rattle.i_shape_c.specs.Windings.{contours_winding}
use Rattle.i_shape_core.proofs.Lists.Rings.{back_more}
use Rattle.i_shape_c.proofs.winding.wind_one_by_one.Goals as goal

pub loop-place-preserved : goal.loop-place-preserved
loop-place-preserved g c =
    let value = g.P.Coordinate.IntNumber.value in
    let about = c.args.about.now in
    let at = c.loop-place.place in
    let read = c.index-about-place.result in
    let f = λ (q : g.row.P.Denot). contours_winding (λ p. point_of value (g.P.ContourPoint.point p)) c.args.points.now c.args.offsets.now (point_of value (g.P.ContourPoint.point q)) in
    let room : at < length c.loop-place.out = omega (arith, c.loop-place.auto.out, c.requires.room, c.loop-place-test.true) in
    let longer = take_more about at read c.loop-place-test.true ∙ ap (λ p. take at about ++ p ∷ []) (sym c.index-about-place.is) in
    let more = ap (map f) longer ∙ map-append f (take at about) (read ∷ []) in
    let fits : FitsSigned w64 c.wind_all.result = record { sfits = c.wind_all.type_inv } in
    rw (to_z-of_z w64 c.wind_all.result fits) (record {
      told = take_more_set c.loop-place.out at c.wind_all.result room
          ∙ ap₂ (λ list w. list ++ w ∷ []) c.loop-place.invariant.told (c.wind_all.ensures ∙ ap (λ p. contours_winding (λ q. point_of value (g.P.ContourPoint.point q)) c.args.points.now c.args.offsets.now (point_of value p)) c.to_point.ensures)
          ∙ sym more;
      rest = back_more c.loop-place.out c.args.out.now at (at + 1) c.wind_all.result refl c.loop-place.invariant.rest;
    })

pub returns : goal.returns
returns g c =
    let all : c.loop-place.place ≡ length c.args.about.now = omega (arith, c.loop-place-test.false, c.loop-place.auto.place-end) in
    let told = rw (take_all c.loop-place.place c.args.about.now (omega (arith, all))) at c.loop-place.invariant.told in
    sym (take-append-drop c.loop-place.place c.loop-place.out) ∙ ap₂ (λ front back. front ++ back) told (c.loop-place.invariant.rest ∙ ap (λ n. drop n c.args.out.now) all)
