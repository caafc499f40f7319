use Rattle.std.proofs.Common.{refl}
use Rattle.callers.proofs.at_i64.cleaned_area.Goals as goal

pub returns-then-not-is_in_safe_range-clause-range : goal.returns-then-not-is_in_safe_range-clause-range
returns-then-not-is_in_safe_range-clause-range c =
    (λ _ each. let near = c.if-not-is_in_safe_range.ensures.safe.1 (each, λ list same. rw same each) in absurd (cc), λ _. refl)
