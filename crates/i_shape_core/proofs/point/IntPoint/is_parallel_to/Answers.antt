use Rattle.std.proofs.Common.{rules}
use Rattle.i_shape_core.proofs.point.IntPoint.is_parallel_to.Goals as goal

pub returns : goal.returns
returns g c = rw (← g.met.I.IntNumber.same_number) (search rules)
