use Rattle.std.proofs.Common.{rules, w64}
use Rattle.std.proofs.lemmas.Int.{wrapping_mul_is}
use Rattle.i_shape_core.proofs.number.zero_turns.low_halves.are_low_halves_equal.Goals as goal

pub returns : goal.returns
returns c =
    let left = wrapping_mul_is w64 _ _ c.ranges.a c.ranges.b in
    let right = wrapping_mul_is w64 _ _ c.ranges.c c.ranges.d in
    rw (← left, ← right) (search rules)
