use Rattle.i_shape.specs.IntPoint.{point_of}
use Rattle.i_shape_c.specs.Marked.{IsMarked}
use Rattle.i_shape_c.specs.Steps.AskedFor.{IsAskedFor}
use Rattle.i_shape_c.proofs.Marked.{IsOnBefore}
use Rattle.i_shape_c.proofs.edges.mark_contours.Given as goal

abbrev pub invariant-loop-place : goal.invariant-loop-place
invariant-loop-place g l =
    let value = g.P.Coordinate.IntNumber.value in
    IsMarked (IsAskedFor value (IsOnBefore (λ p. point_of value (g.P.ContourPoint.point p)) l.points l.offsets l.place) l.asked) l.mark l.fn.out l.out
