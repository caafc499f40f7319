-- By this answer a wrong body is refused at once.
use Rattle.std.proofs.Common.{rules}
use Rattle.i_shape_core.proofs.clean.despike.is_back_over.Goals as goal

pub returns-clause-test : goal.returns-clause-test
returns-clause-test = search rules
