use Rattle.std.proofs.Common.{w32}
use Rattle.std.proofs.lemmas.Int.{to_z-of_z}
use Rattle.i_shape_c.proofs.Refusals.{same_32}
use Rattle.i_shape_c_calls.proofs.calls.i32.i_shape_contains_by_i32.Goals as goal

pub returns : goal.returns
returns c =
    let done = rw (to_z-of_z w32 c.args.x c.ranges.x, to_z-of_z w32 c.args.y c.ranges.y, same_32 c.args.rule c.ranges.rule) at c.contains_by.ensures in
    rw (same_32 c.contains_by.result (record { sfits = c.contains_by.type_inv })) done
