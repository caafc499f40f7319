use Rattle.i_shape_core.proofs.Plane.Contours.{points_decided}
use Rattle.i_shape_contacts.proofs.segments.are_equal.Goals as goal

pub returns : goal.returns
returns g c = rw c.eq.ensures (points_decided g.I.IntNumber.value _ g.met.I.IntNumber.equality c.args.a c.args.b)
