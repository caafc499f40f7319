use Rattle.std.proofs.Common.{w32, w64}
use Rattle.std.proofs.lemmas.Int.{to_z-of_z}
use Rattle.i_shape_c_calls.proofs.calls.i32.i_shape_winding_i32.Goals as goal

pub returns : goal.returns
returns c =
    let done = rw (to_z-of_z w32 c.args.x c.ranges.x, to_z-of_z w32 c.args.y c.ranges.y) at c.winding.ensures in
    rw (to_z-of_z w64 c.winding.result (record { sfits = c.winding.type_inv })) done
