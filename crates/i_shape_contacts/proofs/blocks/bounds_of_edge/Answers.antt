use Rattle.std.proofs.Common.{ℕ, subst, sym}
use Rattle.i_shape_core.specs.IntPoint.{contour_of}
use Rattle.i_shape_core.specs.Contour.{point_at}
use Rattle.i_shape_core.proofs.Plane.PointLists.{read-length}
use Rattle.i_shape_contacts.specs.Steps.Boxes.{Holds}
use Rattle.i_shape_contacts.proofs.blocks.bounds_of_edge.Goals as goal

pub returns : goal.returns
returns g c =
    let value = g.P.Coordinate.IntNumber.value in
    let list = contour_of value (g.P.ContourPoint.points c.args.points.now) in
    let count = read-length value g.P.ContourPoint.point g.P.ContourPoint.points g.P.ContourPoint.each c.args.points.now in
    record {
      start = rw c.point_of_place.ensures.at at c.bounds_between.ensures.first;
      end = λ n f. subst (λ (m : ℕ). Holds value c.bounds_between.result (point_at list m)) (sym (c.next-next.ensures.only n f)) (rw c.point_of_place-2.ensures.at at c.bounds_between.ensures.second);
    }
