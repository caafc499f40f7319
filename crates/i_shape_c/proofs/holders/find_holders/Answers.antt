use Rattle.std.proofs.Common.{◌≡◌, ◌∙◌, refl, ap, sym, subst, Option, Some, IfSome, w32}
use Rattle.std.proofs.lemmas.Int.{to_z-of_z}
use Rattle.i_shape.specs.IntPoint.{point_of}
use Rattle.i_shape_core.specs.declared.measure.fill_rule.FillRule.{FillRule}
use Rattle.i_shape_c.specs.Holders.{holders_query, IsHolder, HoldersAnswer}
use Rattle.i_shape_c.specs.Locations.{rule_of, AreTold}
use Rattle.i_shape_c.specs.Polygons.{polygon_arrays}
use Rattle.i_shape_c.proofs.Refusals.{each_code, code_of_32, as_is, refusal_as, refused, not_refused}
use Rattle.i_shape_c.proofs.Told.{not_none}
use Rattle.i_shape_c.proofs.holders.find_holders.Goals as goal

pub returns-in-Some-refusal_of : goal.returns-in-Some-refusal_of
returns-in-Some-refusal_of g c =
    let at = λ (p : g.row.P.Denot). point_of g.P.Coordinate.IntNumber.value (g.P.ContourPoint.point p) in
    let known : rule_of c.args.code ≡ Some c.in-Some.rule = ap rule_of (sym (to_z-of_z w32 c.args.code c.ranges.code)) ∙ sym c.rule_of.ensures ∙ c.in-Some.is in
    let r = c.in-Some-refusal_of.refusal in
    rw (c.code-in-Some-refusal_of.ensures, code_of_32 r) (record {
      answer = each_code (HoldersAnswer at (holders_query (polygon_arrays c.args.points.now c.args.contours.now c.args.shapes.now) c.args.about.now c.args.code) c.args.out.now c.args.out.now) r (λ n few. (few, refl));
      refuses = refused r (refusal_as (Some r) (λ parted. (not_none _ _ known, parted), λ both. both.1) as_is as_is c.in-Some-refusal_of.ensures);
    })

pub returns : goal.returns
returns g c =
    let at = λ (p : g.row.P.Denot). point_of g.P.Coordinate.IntNumber.value (g.P.ContourPoint.point p) in
    let known : rule_of c.args.code ≡ Some c.in-Some.rule = ap rule_of (sym (to_z-of_z w32 c.args.code c.ranges.code)) ∙ sym c.rule_of.ensures ∙ c.in-Some.is in
    let fit = c.in_default-refusal_of.ensures in
    record {
      answer = subst (λ (o : Option FillRule). IfSome o (λ r. AreTold (IsHolder at (polygon_arrays c.args.points.now c.args.contours.now c.args.shapes.now) r) at c.args.about.now c.args.out.now c.write_holders.new.out)) (sym known) c.write_holders.ensures;
      refuses = not_refused ((not_none _ _ known, fit.0), fit.1, fit.2) 0;
    }
