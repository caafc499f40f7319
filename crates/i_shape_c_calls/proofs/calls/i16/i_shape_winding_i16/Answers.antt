-- Made by scripts/widths.sh from that at 32 bits.
use Rattle.std.proofs.Common.{w16, w64}
use Rattle.std.proofs.lemmas.Int.{to_z-of_z}
use Rattle.i_shape_c_calls.proofs.calls.i16.i_shape_winding_i16.Goals as goal

pub returns : goal.returns
returns c =
    let done = rw (to_z-of_z w16 c.args.x c.ranges.x, to_z-of_z w16 c.args.y c.ranges.y) at c.winding.ensures in
    rw (to_z-of_z w64 c.winding.result (record { sfits = c.winding.type_inv })) done
