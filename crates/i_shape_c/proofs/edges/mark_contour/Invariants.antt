use Rattle.std.proofs.Common.{◌≡◌, ◌<◌, length}
use Rattle.i_shape_core.proofs.Common.{point_of, contour_of, IsSafe, point_at, place_before}
use Rattle.i_shape_c.specs.Marked.{IsMarked}
use Rattle.i_shape_c.specs.Steps.AskedFor.{IsAskedFor}
use Rattle.i_shape_c.proofs.Marked.{EndsBefore}
use Rattle.i_shape_c.proofs.edges.mark_contour.Given as goal

abbrev pub invariant-loop-given : goal.invariant-loop-given
invariant-loop-given g l =
    let value = g.P.Coordinate.IntNumber.value in
    let c = contour_of value (g.P.ContourPoint.points l.contour) in
    record {
      start_safe : IsSafe g.P.Coordinate.IntNumber.width (point_of value l.start);
      from : l.given-index < length c → point_of value l.start ≡ point_at c (place_before (length c) l.given-index);
      marked : IsMarked (IsAskedFor value (λ p. EndsBefore c p l.given-index) l.asked) l.mark l.fn.out l.out;
    }
