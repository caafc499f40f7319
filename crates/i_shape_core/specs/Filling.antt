-- Fill rules: whether a point is filled, by the sum of the winding numbers of a shape's contours about it.
use Rattle.std.specs.Prelude.{◌≢◌, ◌<ℤ◌, ℤ, pos}
use Rattle.i_shape_core.specs.Winding.{IsOdd}
use Rattle.i_shape_core.specs.declared.measure.fill_rule.FillRule.{FillRule}
use Rattle.i_shape_core.specs.declared.measure.fill_rule.FillRule.TheVariants.{EvenOdd, NonZero, Positive, Negative}

-- the rule fills a point with winding number z
abbrev pub IsFilled : FillRule → ℤ → Type 0
IsFilled EvenOdd z = IsOdd z
IsFilled NonZero z = z ≢ pos 0
IsFilled Positive z = pos 0 <ℤ z
IsFilled Negative z = z <ℤ pos 0
