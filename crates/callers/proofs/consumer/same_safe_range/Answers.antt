use Rattle.std.proofs.Common.{rules}
use Rattle.callers.proofs.consumer.same_safe_range.Goals as goal

pub returns-clause-same : goal.returns-clause-same
returns-clause-same g c = search rules
