use Rattle.std.proofs.Common.{arith, refl, ◌∙◌}
use Rattle.i_shape_core.proofs.Plane.PointLists.{read-length}
use Rattle.i_shape_touching.proofs.TouchPoints.{edge_unique}
use Rattle.i_shape_touching.proofs.touches.is_touch.Goals as goal

pub ring_of_edge-ring-requires-clause-within : goal.ring_of_edge-ring-requires-clause-within
ring_of_edge-ring-requires-clause-within g c =
    let within = c.requires.contact.within in
    let order = c.requires.contact.order in
    let all = c.requires.divides.all in
    let count = read-length g.P.Coordinate.IntNumber.value g.P.ContourPoint.point g.P.ContourPoint.points g.P.ContourPoint.each c.args.points.now in
    omega (arith, within, order, count, all)

pub ring_of_edge-other-requires-clause-within : goal.ring_of_edge-other-requires-clause-within
ring_of_edge-other-requires-clause-within g c =
    let within = c.requires.contact.within in
    let all = c.requires.divides.all in
    let count = read-length g.P.Coordinate.IntNumber.value g.P.ContourPoint.point g.P.ContourPoint.points g.P.ContourPoint.each c.args.points.now in
    omega (arith, within, count, all)

pub returns-in-Touch : goal.returns-in-Touch
returns-in-Touch g c =
    let offsets = c.args.offsets.now in
    let divides = c.requires.divides.divides in (
      λ t. record {
        touch = c.in-Touch.ensures.touch.0 refl;
        differ = λ r f s. c.if-ring-other.false (edge_unique offsets c.args.contact.first _ r divides c.ring_of_edge-ring.ensures f ∙ edge_unique offsets c.args.contact.second r _ divides s c.ring_of_edge-other.ensures);
      },
      λ w. refl,
    )
