use Rattle.std.proofs.Common.{ap, arith}
use Rattle.std.proofs.lemmas.Grind.{common_steps}
use Rattle.i_shape_core.specs.Point.{cross, dot}
use Rattle.i_shape_core.proofs.Arithmetic.Coordinates.{safe_vector-above}
use Rattle.i_shape_core.proofs.turn.turn_of.Goals as goal

pub dot_product-requires : goal.dot_product-requires
dot_product-requires g c = λ least.
    safe_vector-above g.I.IntNumber.width g.met.I.IntNumber.some_bits g.met.I.IntNumber.bits_split _ _ _ _ c.requires.b_safe c.requires.a_safe g.met.I.IntNumber.min_value c.sub-first.ensures (ap g.I.IntNumber.value least.0)

pub returns-then-gt : goal.returns-then-gt
unfolding cross dot
returns-then-gt g c = grind (arith, common_steps, g.met.I.IntNumber, g.met.I.Wide.WideIntNumber)

pub returns-else-gt : goal.returns-else-gt
unfolding cross dot
returns-else-gt g c = grind (arith, common_steps, g.met.I.IntNumber, g.met.I.Wide.WideIntNumber)
