use Rattle.i_shape_core.proofs.Plane.Contours.{points_decided, values_decided}
use Rattle.i_shape_core.proofs.laws.points_equal.Goals as goal

pub returns-clause-same_value : goal.returns-clause-same_value
returns-clause-same_value g c =
    let number = g.met.I.IntNumber in
    values_decided g.I.IntNumber.value _ number.equality number.injective c.args._a.now c.args._b.now

pub returns-clause-same_point : goal.returns-clause-same_point
returns-clause-same_point g c = points_decided g.I.IntNumber.value _ g.met.I.IntNumber.equality c.args._a.now c.args._b.now
