use Rattle.std.proofs.Common.{refl, w16, w32}
use Rattle.i_shape_core.proofs.Arithmetic.WiderProducts.{products_told}
use Rattle.i_shape_core.proofs.number.zero_turns.wider.I16ZeroTurns.are_products_equal.Goals as goal

pub returns : goal.returns
returns c = products_told w16 w32 refl c.args.a c.args.b c.args.c c.args.d c.ranges.a c.ranges.b c.ranges.c c.ranges.d
