use Rattle.std.proofs.Common.{◌<◌, map}
use Rattle.i_shape.specs.IntPoint.{point_of}
use Rattle.i_shape_c.specs.Locations.{IsOnContours}
use Rattle.i_shape_c.specs.Marked.{IsMarked, IsThere}
use Rattle.i_shape_c.proofs.edges.mark_one_by_one.Given as goal

abbrev pub invariant-loop-place : goal.invariant-loop-place
invariant-loop-place g l =
    let at = λ (p : g.row.P.Denot). point_of g.P.Coordinate.IntNumber.value (g.P.ContourPoint.point p) in
    IsMarked (λ k. (k < l.place) × IsThere (IsOnContours at l.points l.offsets) (map at l.about) k) l.mark l.fn.out l.out
