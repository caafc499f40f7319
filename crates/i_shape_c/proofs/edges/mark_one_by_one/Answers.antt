use Rattle.std.proofs.Common.{◌≡◌, ◌∙◌, map, ap, sym, subst, IsTrue, arith}
use Rattle.std.proofs.lemmas.List.{get_or-map, length-map}
use Rattle.i_shape_core.proofs.Common.{point_of, point_at, origin}
use Rattle.i_shape_c.specs.Locations.{IsOnContours}
use Rattle.i_shape_c.specs.Marked.{IsThere}
use Rattle.i_shape_c.proofs.Marked.{none_marked, first_on, first_off, first_all}
use Rattle.i_shape_c.proofs.edges.mark_one_by_one.Goals.{then-is_on_contours, else-is_on_contours}
use Rattle.i_shape_c.proofs.edges.mark_one_by_one.Goals as goal

pub loop-place-init : goal.loop-place-init
loop-place-init g c = none_marked c.args.mark _ c.args.out.now (λ k at. let h = at.0 in absurd (omega (arith, h)))

pub loop-place-preserved : goal.loop-place-preserved
loop-place-preserved g c =
    let value = g.P.Coordinate.IntNumber.value in
    let at = λ (p : g.row.P.Denot). point_of value (g.P.ContourPoint.point p) in
    let On = IsOnContours at c.args.points.now c.args.offsets.now in
    let about = c.args.about.now in
    let place = c.loop-place.place in
    let within = c.loop-place-test.true in
    let known = c.loop-place.invariant in
    let same = known.room in
    let read : point_at (map at about) place ≡ point_of value c.to_point.result =
    get_or-map at about place c.index-about-place.result origin within ∙ ap at (sym c.index-about-place.is) ∙ ap (point_of value) (sym c.to_point.ensures) in
    elim c.if-is_on_contours.branch [
      | then-is_on_contours w ↦ rw w.out-is
          (first_on c.args.mark (IsThere On (map at about)) c.args.out.now c.loop-place.out place (omega (arith, same, c.requires.room, within))
          (record { within = omega (arith, within, length-map about at); on = subst On (sym read) (c.is_on_contours.ensures.0 w.if-is_on_contours.true) }) known)
      | else-is_on_contours w ↦ rw w.out-is
          (first_off c.args.mark (IsThere On (map at about)) c.args.out.now c.loop-place.out place
          (λ there. let told : IsTrue c.is_on_contours.result = c.is_on_contours.ensures.1 (subst On read there.on) in let f = w.if-is_on_contours.false in absurd (cc)) known)
    ]

pub returns : goal.returns
returns g c =
    let value = g.P.Coordinate.IntNumber.value in
    let at = λ (p : g.row.P.Denot). point_of value (g.P.ContourPoint.point p) in
    let about = c.args.about.now in
    let past = c.loop-place-test.false in
    first_all c.args.mark (IsThere (IsOnContours at c.args.points.now c.args.offsets.now) (map at about)) c.args.out.now c.loop-place.out c.loop-place.place
    (λ k there. let within = there.within in omega (arith, within, past, length-map about at)) c.loop-place.invariant
