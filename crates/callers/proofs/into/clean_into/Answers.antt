use Rattle.std.proofs.Common.{◌∙◌}
use Rattle.i_shape.proofs.CallerLemmas.{simplified_kept, despiked_kept, cleaned_twice}
use Rattle.callers.proofs.into.clean_into.Goals as goal

pub returns-clause-answer : goal.returns-clause-answer
returns-clause-answer g c = cleaned_twice c.in_ok-count.ensures.written.written c.in_ok-try_clean_into.ensures.written.written

pub returns-clause-area : goal.returns-clause-area
returns-clause-area g c = (despiked_kept c.in_ok-try_clean_into.ensures.written.written).area ∙ (simplified_kept c.in_ok-count.ensures.written.written).area
