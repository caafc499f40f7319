use Rattle.std.proofs.Common.{arith}
use Rattle.std.proofs.lemmas.Grind.{common_steps}
use Rattle.i_shape_core.proofs.laws.points_compared.Goals as goal

pub returns-clause-less : goal.returns-clause-less
returns-clause-less g c = grind (arith, common_steps, g.met.I.IntNumber)
