use Rattle.std.proofs.Common.{All, take}
use Rattle.i_shape.specs.IntPoint.{point_of}
use Rattle.i_shape_contacts.specs.Steps.Boxes.{Holds}
use Rattle.i_shape_c.proofs.holders.bounds_of.Given as goal

abbrev pub invariant-loop-place : goal.invariant-loop-place
invariant-loop-place g l =
    let value = g.P.Coordinate.IntNumber.value in
    All (λ p. Holds value l.bounds (point_of value (g.P.ContourPoint.point p))) (take l.place l.points)
