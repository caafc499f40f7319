use Rattle.std.proofs.Common.{arith}
use Rattle.std.proofs.lemmas.Grind.{common_steps}
use Rattle.i_shape_core.specs.Point.{cross}
use Rattle.i_shape_core.proofs.turn.triangle.Triangle.is_clockwise.Goals as goal

pub returns : goal.returns
unfolding cross
returns g c = grind (arith, common_steps, g.met.I.IntNumber, g.met.I.Wide.WideIntNumber)
