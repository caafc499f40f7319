use Rattle.std.proofs.Common.{refl, sym, subst, IsTrue, false}
use Rattle.i_shape_c.specs.declared.codes.Refusal.TheVariants.{Unsafe}
use Rattle.i_shape_c.proofs.Boundary.{copied_points, safe_contour}
use Rattle.i_shape_c.proofs.Refusals.{code_of_32}
use Rattle.i_shape_c.proofs.predicates.test_contour.Goals as goal

pub test-requires-clause-points_safe : goal.test-requires-clause-points_safe
test-requires-clause-points_safe g c =
    safe_contour g.P.Coordinate.IntNumber.width g.P.Coordinate.IntNumber.value g.P.ContourPoint.point c.args.points.now (g.P.ContourPoint.points c.args.points.now) (g.P.ContourPoint.each c.args.points.now) (c.if-not-are_safe.ensures.0 refl)

pub returns-then-test : goal.returns-then-test
returns-then-test g c =
    let same = copied_points g.P.Coordinate.IntNumber.width g.P.Coordinate.IntNumber.value g.P.ContourPoint.point c.args.points.now (g.P.ContourPoint.points c.args.points.now) (g.P.ContourPoint.each c.args.points.now) in
    record { answer = subst (g.T.ContourTest.holds c.args.test) same (c.if-test.ensures.0 refl); unsafe_points = (λ is. absurd (cc), λ not_safe. absurd (not_safe (c.if-not-are_safe.ensures.0 refl))) }

pub returns-else-test : goal.returns-else-test
returns-else-test g c =
    let same = copied_points g.P.Coordinate.IntNumber.width g.P.Coordinate.IntNumber.value g.P.ContourPoint.point c.args.points.now (g.P.ContourPoint.points c.args.points.now) (g.P.ContourPoint.each c.args.points.now) in
    record {
      answer = λ holds. let told : IsTrue false = c.if-test.ensures.1 (subst (g.T.ContourTest.holds c.args.test) (sym same) holds) in cc;
      unsafe_points = (λ is. absurd (cc), λ not_safe. absurd (not_safe (c.if-not-are_safe.ensures.0 refl)));
    }

pub returns-then-not-are_safe : goal.returns-then-not-are_safe
returns-then-not-are_safe g c =
    rw (c.code.ensures, code_of_32 Unsafe) (record { answer = tt; unsafe_points = (λ is safe. let told : IsTrue false = c.if-not-are_safe.ensures.1 safe in cc, λ unlike. refl) })
