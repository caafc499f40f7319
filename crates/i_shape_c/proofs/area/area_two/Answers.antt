use Rattle.std.proofs.Common.{ap, ◌∙◌}
use Rattle.std.specs.Int.{int_wrap}
use Rattle.i_shape.specs.Edges.{shoelace}
use Rattle.i_shape_c.proofs.Boundary.{copied_points}
use Rattle.i_shape_c.proofs.area.area_two.Goals as goal

pub returns-clause-area : goal.returns-clause-area
returns-clause-area g c =
    let given = c.args.points.now in
    let same = copied_points g.P.Coordinate.IntNumber.width g.P.Coordinate.IntNumber.value g.P.ContourPoint.point given (g.P.ContourPoint.points given) (g.P.ContourPoint.each given) in
    c.area_of.ensures ∙ ap (λ ps. int_wrap g.P.Coordinate.Wide.WideIntNumber.width (shoelace ps)) same
