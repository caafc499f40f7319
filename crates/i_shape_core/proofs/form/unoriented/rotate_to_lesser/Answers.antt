use Rattle.std.proofs.Common.{◌≡◌, ◌∙◌, List, reverse, refl, ap, sym, subst}
use Rattle.std.proofs.lemmas.List.{reverse-reverse}
use Rattle.i_shape_core.proofs.Common.{Point, contour_of, IsAtMost, IsLeast, started_at}
use Rattle.i_shape_core.specs.Reading.{read}
use Rattle.i_shape_core.proofs.Plane.PointLists.{points-rotated, points-reversed}
use Rattle.i_shape_core.proofs.LeastRotation.Readings.{contour-rotated}
use Rattle.i_shape_core.proofs.Forms.Backwards.{contour_reversed}
use Rattle.i_shape_core.proofs.Forms.LesserWay.{lesser_rotated, lesser_left}
use Rattle.i_shape_core.proofs.form.unoriented.rotate_to_lesser.Goals as goal

pub returns-then-comes_before_reversed-clause-lesser : goal.returns-then-comes_before_reversed-clause-lesser
returns-then-comes_before_reversed-clause-lesser g c =
    let value = g.P.Coordinate.IntNumber.value in
    let points = g.P.ContourPoint.points in
    let reversed : List Point = contour_of value (points c.reverse.new.self) in
    let rotated : List Point = contour_of value (points c.rotate_left.new.self) in
    let back : reversed ≡ reverse (contour_of value (points c.args.contour.now)) =
    ap (contour_of value) (points-reversed g.P.ContourPoint.point points g.P.ContourPoint.each c.args.contour.now c.reverse.new.self c.reverse.ensures.after) ∙ contour_reversed value (points c.args.contour.now) in
    let started : rotated ≡ started_at reversed c.least_start-start.result =
    contour-rotated value (points c.reverse.new.self) (points c.rotate_left.new.self) c.least_start-start.result (points-rotated g.P.ContourPoint.point points g.P.ContourPoint.each c.reverse.new.self c.rotate_left.new.self c.least_start-start.result c.rotate_left.ensures.after) in
    lesser_rotated (contour_of value (points c.args.contour.now)) reversed rotated back
    (subst (IsLeast reversed) (sym started) c.least_start-start.ensures.least)
    (subst (λ l. IsAtMost (reverse reversed) l → ⊥) (sym started) (c.if-comes_before_reversed.ensures.before refl))

pub returns-else-comes_before_reversed-clause-lesser : goal.returns-else-comes_before_reversed-clause-lesser
returns-else-comes_before_reversed-clause-lesser g c =
    let value = g.P.Coordinate.IntNumber.value in
    let points = g.P.ContourPoint.points in
    let reversed : List Point = contour_of value (points c.reverse.new.self) in
    let back : reversed ≡ reverse (contour_of value (points c.args.contour.now)) =
    ap (contour_of value) (points-reversed g.P.ContourPoint.point points g.P.ContourPoint.each c.args.contour.now c.reverse.new.self c.reverse.ensures.after) ∙ contour_reversed value (points c.args.contour.now) in
    let same : c.reverse-else-comes_before_reversed.new.self ≡ c.args.contour.now =
    c.reverse-else-comes_before_reversed.ensures.after ∙ ap reverse c.reverse.ensures.after ∙ reverse-reverse c.args.contour.now in
    lesser_left (contour_of value (points c.args.contour.now)) reversed (started_at reversed c.least_start-start.result) (contour_of value (points c.reverse-else-comes_before_reversed.new.self)) back
    c.least_start-start.ensures.least (c.if-comes_before_reversed.ensures.not_before refl) (ap (read value points) same)
