use Rattle.std.proofs.Common.{ap}
use Rattle.i_shape_core.specs.Point.{Point}
use Rattle.i_shape_touching.specs.Steps.Pieces.{mark_of}
use Rattle.i_shape_touching.proofs.MarkSteps.{two_pushed, read_at, mark}
use Rattle.i_shape_touching.proofs.marks.push_ends.Goals as goal

pub returns : goal.returns
returns g c =
    let value = g.P.Coordinate.IntNumber.value in
    let point = g.P.ContourPoint.point in
    let points = g.P.ContourPoint.points in
    let each = g.P.ContourPoint.each in
    let k = c.args.edge in
    let start = read_at value point points each c.args.points.now k c.index-points-edge.result c.to_point-start.result c.to_point-start.ensures c.requires.within c.index-points-edge.is in
    let end = read_at value point points each c.args.points.now c.next-next.result c.index-points-next.result c.to_point-end.result c.to_point-end.ensures (rw (← c.requires.divides.all) c.next-next.ensures.within) c.index-points-next.is in
    record {
      next = c.next-next.result;
      follows = c.next-next.ensures.is;
      added = two_pushed (mark_of value) c.args.marks.now.items c.push.new.self.items c.push-2.new.self.items _ _ _ _ c.in_ok-push.ensures.items c.in_ok-push-2.ensures.items
          (ap (λ (p : Point). mark k p) start) (ap (λ (p : Point). mark k p) end);
    }
