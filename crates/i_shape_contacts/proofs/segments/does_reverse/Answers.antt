use Rattle.std.proofs.Common.{ap}
use Rattle.i_shape_core.proofs.Arithmetic.Coordinates.{safe_vector-above}
use Rattle.i_shape_contacts.proofs.segments.does_reverse.Goals as goal

pub dot_product-requires : goal.dot_product-requires
dot_product-requires g c = λ least.
    safe_vector-above g.I.IntNumber.width g.met.I.IntNumber.some_bits g.met.I.IntNumber.bits_split _ _ _ _ c.requires.b_safe c.requires.a_safe g.met.I.IntNumber.min_value c.sub-first.ensures (ap g.I.IntNumber.value least.0)
