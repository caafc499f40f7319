use Rattle.std.proofs.Common.{ap, w64}
use Rattle.std.proofs.lemmas.Int.{to_z-of_z}
use Rattle.std.specs.Int.{int_wrap}
use Rattle.i_shape_core.proofs.number.zero_turns.low_halves.I64ZeroTurns.may_products_be_equal.Goals as goal

pub returns : goal.returns
returns c = λ e. c.are_low_halves_equal.ensures.1
    (rw (to_z-of_z w64 c.args.a c.ranges.a, to_z-of_z w64 c.args.b c.ranges.b, to_z-of_z w64 c.args.c c.ranges.c, to_z-of_z w64 c.args.d c.ranges.d) (ap (int_wrap w64) e))
