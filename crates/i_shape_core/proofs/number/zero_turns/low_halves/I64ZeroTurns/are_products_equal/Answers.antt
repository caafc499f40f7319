use Rattle.std.proofs.Common.{refl, w64}
use Rattle.std.specs.Int.{w128}
use Rattle.i_shape_core.proofs.Arithmetic.WiderProducts.{products_told}
use Rattle.i_shape_core.proofs.number.zero_turns.low_halves.I64ZeroTurns.are_products_equal.Goals as goal

pub returns-then-are_low_halves_equal : goal.returns-then-are_low_halves_equal
returns-then-are_low_halves_equal c = products_told w64 w128 refl c.args.a c.args.b c.args.c c.args.d c.ranges.a c.ranges.b c.ranges.c c.ranges.d
