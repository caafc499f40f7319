-- By this answer a wrong body is refused at once.
use Rattle.std.proofs.Common.{rules}
use Rattle.i_shape_core.proofs.clean.simplifier.ContourSimplifier.simplify_contour.Goals as goal

pub returns-clause-answer : goal.returns-clause-answer
returns-clause-answer = search rules
