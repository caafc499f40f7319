use Rattle.std.proofs.Common.{◌∙◌, ◌^◌, ◌<◌, length, map, ap, refl, w64, rules}
use Rattle.std.proofs.lemmas.Int.{to_z-of_z}
use Rattle.i_shape_core.proofs.Common.{point_of, IsSafe, winding}
use Rattle.i_shape_c.proofs.Boundary.{copied_points, safe_contour}
use Rattle.i_shape_c.proofs.Windings.{half_apart}
use Rattle.i_shape_c.proofs.winding.winding.Goals as goal

pub winding_about-requires-clause-points_safe : goal.winding_about-requires-clause-points_safe
winding_about-requires-clause-points_safe g c =
    safe_contour g.P.Coordinate.IntNumber.width g.P.Coordinate.IntNumber.value g.P.ContourPoint.point c.args.points.now (g.P.ContourPoint.points c.args.points.now) (g.P.ContourPoint.each c.args.points.now) (c.if-not-are_safe.ensures.0 refl)

pub returns : goal.returns
returns g c =
    let value = g.P.Coordinate.IntNumber.value in
    let at = λ (p : g.row.P.Denot). point_of value (g.P.ContourPoint.point p) in
    let few : length c.args.points.now < 2 ^ 64 = search rules in
    let here : IsSafe g.P.Coordinate.IntNumber.width (at c.args.given) = rw (c.to_point-point.ensures) at (c.if-not-is_in_safe_range.ensures.0 refl) in
    rw (to_z-of_z w64 c.winding_about.result (record { sfits = c.winding_about.type_inv })) (record {
      answer = λ safe. c.winding_about.ensures.answer
          ∙ ap (λ points. winding points (point_of value c.to_point-point.result)) (copied_points g.P.Coordinate.IntNumber.width value g.P.ContourPoint.point c.args.points.now (g.P.ContourPoint.points c.args.points.now) (g.P.ContourPoint.each c.args.points.now))
          ∙ ap (λ p. winding (map at c.args.points.now) (point_of value p)) c.to_point-point.ensures;
      unsafe_points = (λ is safe. half_apart (length c.args.points.now) c.winding_about.result few c.winding_about.ensures.half is, λ not_safe. absurd (not_safe (c.if-not-are_safe.ensures.0 refl, here)));
    })
