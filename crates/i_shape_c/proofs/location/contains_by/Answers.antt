use Rattle.std.proofs.Common.{◌≡◌, ◌∙◌, ap, map, sym, subst, refl, IsTrue, false, Option, Some, IfSome, pos, FitsSigned, to_z, of_z, arith, w32, w64}
use Rattle.std.proofs.lemmas.Int.{to_z-of_z}
use Rattle.i_shape.specs.Filling.{IsFilled}
use Rattle.i_shape_core.proofs.Common.{point_of, IsSafe, winding}
use Rattle.i_shape_core.specs.declared.measure.fill_rule.FillRule.{FillRule}
use Rattle.i_shape_c.specs.Cleaned.{AreSafe}
use Rattle.i_shape_c.specs.Locations.{rule_of}
use Rattle.i_shape_c.specs.Tests.{IsTold}
use Rattle.i_shape_c.specs.declared.codes.Refusal.TheVariants.{Unsafe}
use Rattle.i_shape_c.proofs.Boundary.{copied_points, safe_contour}
use Rattle.i_shape_c.proofs.Refusals.{code_of_32, refused, not_refused}
use Rattle.i_shape_c.proofs.Told.{not_none}
use Rattle.i_shape_c.proofs.location.contains_by.Goals.{then-not-is_in_safe_range-via-then-not-is_in_safe_range, then-not-is_in_safe_range-via-else-not-is_in_safe_range+then-not-are_safe}
use Rattle.i_shape_c.proofs.location.contains_by.Goals as goal

pub returns-then-not-is_in_safe_range : goal.returns-then-not-is_in_safe_range
returns-then-not-is_in_safe_range g c =
    let at = λ (p : g.row.P.Denot). point_of g.P.Coordinate.IntNumber.value (g.P.ContourPoint.point p) in
    let known : rule_of c.args.code ≡ Some c.in-Some.rule = ap rule_of (sym (to_z-of_z w32 c.args.code c.ranges.code)) ∙ sym c.rule_of.ensures ∙ c.in-Some.is in
    let unlike : AreSafe g.P.Coordinate.IntNumber.width at c.args.points.now × IsSafe g.P.Coordinate.IntNumber.width (at c.args.given) → ⊥ = λ both. elim c.then-not-is_in_safe_range.branch [
      | then-not-is_in_safe_range-via-then-not-is_in_safe_range w ↦ let told : IsTrue false = w.if-not-is_in_safe_range.ensures.1 (rw (c.to_point-point.ensures) both.1) in cc
      | then-not-is_in_safe_range-via-else-not-is_in_safe_range+then-not-are_safe w ↦ let told : IsTrue false = w.if-not-are_safe.ensures.1 both.0 in cc
    ] in
    rw (c.code-then-not-is_in_safe_range.ensures, code_of_32 Unsafe) (record { answer = omega arith; refuses = refused Unsafe (not_none _ _ known, tt, unlike) })

pub winding_about-requires-clause-points_safe : goal.winding_about-requires-clause-points_safe
winding_about-requires-clause-points_safe g c =
    safe_contour g.P.Coordinate.IntNumber.width g.P.Coordinate.IntNumber.value g.P.ContourPoint.point c.args.points.now (g.P.ContourPoint.points c.args.points.now) (g.P.ContourPoint.each c.args.points.now) (c.if-not-are_safe.ensures.0 refl)

pub returns-then-fills : goal.returns-then-fills
returns-then-fills g c =
    let value = g.P.Coordinate.IntNumber.value in
    let at = λ (p : g.row.P.Denot). point_of value (g.P.ContourPoint.point p) in
    let known : rule_of c.args.code ≡ Some c.in-Some.rule = ap rule_of (sym (to_z-of_z w32 c.args.code c.ranges.code)) ∙ sym c.rule_of.ensures ∙ c.in-Some.is in
    let fits : FitsSigned w64 c.winding_about.result = record { sfits = c.winding_about.type_inv } in
    let turns : to_z w64 (of_z w64 c.winding_about.result) ≡ winding (map at c.args.points.now) (at c.args.given) =
    to_z-of_z w64 c.winding_about.result fits ∙ c.winding_about.ensures.answer
    ∙ ap (λ points. winding points (point_of value c.to_point-point.result)) (copied_points g.P.Coordinate.IntNumber.width value g.P.ContourPoint.point c.args.points.now (g.P.ContourPoint.points c.args.points.now) (g.P.ContourPoint.each c.args.points.now))
    ∙ ap (λ p. winding (map at c.args.points.now) (point_of value p)) c.to_point-point.ensures in
    let here : IsSafe g.P.Coordinate.IntNumber.width (at c.args.given) = rw (c.to_point-point.ensures) at (c.if-not-is_in_safe_range.ensures.0 refl) in
    record {
      answer = subst (λ (o : Option FillRule). IfSome o (λ r. IsTold (IsFilled r (winding (map at c.args.points.now) (at c.args.given))) (pos 1))) (sym known) (subst (IsFilled c.in-Some.rule) turns (c.if-fills.ensures.0 refl));
      refuses = not_refused (not_none _ _ known, tt, (c.if-not-are_safe.ensures.0 refl, here)) 1;
    }

pub returns-else-fills : goal.returns-else-fills
returns-else-fills g c =
    let value = g.P.Coordinate.IntNumber.value in
    let at = λ (p : g.row.P.Denot). point_of value (g.P.ContourPoint.point p) in
    let known : rule_of c.args.code ≡ Some c.in-Some.rule = ap rule_of (sym (to_z-of_z w32 c.args.code c.ranges.code)) ∙ sym c.rule_of.ensures ∙ c.in-Some.is in
    let fits : FitsSigned w64 c.winding_about.result = record { sfits = c.winding_about.type_inv } in
    let turns : to_z w64 (of_z w64 c.winding_about.result) ≡ winding (map at c.args.points.now) (at c.args.given) =
    to_z-of_z w64 c.winding_about.result fits ∙ c.winding_about.ensures.answer
    ∙ ap (λ points. winding points (point_of value c.to_point-point.result)) (copied_points g.P.Coordinate.IntNumber.width value g.P.ContourPoint.point c.args.points.now (g.P.ContourPoint.points c.args.points.now) (g.P.ContourPoint.each c.args.points.now))
    ∙ ap (λ p. winding (map at c.args.points.now) (point_of value p)) c.to_point-point.ensures in
    let here : IsSafe g.P.Coordinate.IntNumber.width (at c.args.given) = rw (c.to_point-point.ensures) at (c.if-not-is_in_safe_range.ensures.0 refl) in
    record {
      answer = subst (λ (o : Option FillRule). IfSome o (λ r. IsTold (IsFilled r (winding (map at c.args.points.now) (at c.args.given))) (pos 0))) (sym known)
          (λ fills. let told : IsTrue false = c.if-fills.ensures.1 (subst (IsFilled c.in-Some.rule) (sym turns) fills) in cc);
      refuses = not_refused (not_none _ _ known, tt, (c.if-not-are_safe.ensures.0 refl, here)) 0;
    }
