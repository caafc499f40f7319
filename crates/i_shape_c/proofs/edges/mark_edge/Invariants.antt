use Rattle.std.proofs.Common.{◌-◌, length}
use Rattle.i_shape.specs.IntPoint.{point_of}
use Rattle.i_shape.specs.Boundary.{IsBetween}
use Rattle.i_shape_c.specs.Marked.{IsMarked}
use Rattle.i_shape_c.proofs.Marked.{IsAskedBefore}
use Rattle.i_shape_c.proofs.edges.mark_edge.Given as goal

abbrev pub invariant-loop-at : goal.invariant-loop-at
invariant-loop-at g l =
    let value = g.I.IntNumber.value in
    IsMarked (IsAskedBefore value (λ p. IsBetween (point_of value l.start) p (point_of value l.end)) l.asked l.at) l.mark l.fn.out l.out

abbrev pub decreases-loop-at : goal.decreases-loop-at
decreases-loop-at g l = length l.asked - l.at
