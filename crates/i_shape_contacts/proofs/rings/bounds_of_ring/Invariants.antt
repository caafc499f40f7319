use Rattle.std.proofs.Common.{All, take}
use Rattle.i_shape_core.specs.IntPoint.{contour_of}
use Rattle.i_shape_contacts.specs.Steps.Boxes.{Holds}
use Rattle.i_shape_contacts.proofs.rings.bounds_of_ring.Given as goal

abbrev pub invariant-loop-place : goal.invariant-loop-place
invariant-loop-place g l = All (Holds g.P.Coordinate.IntNumber.value l.bounds) (take l.place (contour_of g.P.Coordinate.IntNumber.value (g.P.ContourPoint.points l.ring)))
