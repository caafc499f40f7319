-- By this answer a wrong body is refused at once.
use Rattle.std.proofs.Common.{rules}
use Rattle.i_shape_core.proofs.point.IntPoint.is_in_safe_range.Goals as goal

pub returns : goal.returns
returns = search rules
