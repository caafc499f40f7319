use Rattle.std.proofs.Common.{refl}
use Rattle.callers.proofs.buffer.simplify.Goals as goal

pub returns-clause-range : goal.returns-clause-range
returns-clause-range g c = (λ e. absurd (cc), λ both. absurd (both.1 (c.if-not-is_in_safe_range.ensures.safe.0 refl)))
