use Rattle.std.proofs.Common.{refl, sym, subst, IsTrue, false}
use Rattle.i_shape_c.proofs.Boundary.{copied_points, safe_contour}
use Rattle.i_shape_c.proofs.measures.TestedContourMeasure.measure.Goals as goal

pub test-requires-clause-points_safe : goal.test-requires-clause-points_safe
test-requires-clause-points_safe g c =
    safe_contour g.P.Coordinate.IntNumber.width g.P.Coordinate.IntNumber.value g.P.ContourPoint.point c.args.contour.now (g.P.ContourPoint.points c.args.contour.now) (g.P.ContourPoint.each c.args.contour.now) c.requires.points

pub returns-then-test : goal.returns-then-test
returns-then-test g c =
    let same = copied_points g.P.Coordinate.IntNumber.width g.P.Coordinate.IntNumber.value g.P.ContourPoint.point c.args.contour.now (g.P.ContourPoint.points c.args.contour.now) (g.P.ContourPoint.each c.args.contour.now) in
    subst (g.T.ContourTest.holds c.args.self.test) same (c.if-test.ensures.0 refl)

pub returns-else-test : goal.returns-else-test
returns-else-test g c = λ holds.
    let same = copied_points g.P.Coordinate.IntNumber.width g.P.Coordinate.IntNumber.value g.P.ContourPoint.point c.args.contour.now (g.P.ContourPoint.points c.args.contour.now) (g.P.ContourPoint.each c.args.contour.now) in
    let told : IsTrue false = c.if-test.ensures.1 (subst (g.T.ContourTest.holds c.args.self.test) (sym same) holds) in
    cc
