use Rattle.std.proofs.Common.{arith}
use Rattle.std.proofs.lemmas.Grind.{common_steps}
use Rattle.i_shape_core.proofs.form.comparer.compare_points.Goals as goal

pub returns : goal.returns
returns g c = grind (arith, common_steps, g.met.I.IntNumber)
