-- Made by scripts/widths.sh from that at 32 bits.
use Rattle.i_shape_c.proofs.Refusals.{same_32}
use Rattle.i_shape_c_calls.proofs.calls.i16.i_shape_locate_in_shapes_i16.Goals as goal

pub returns : goal.returns
returns c =
    let done = rw (same_32 c.args.rule c.ranges.rule) at c.find_holders.ensures in
    rw (same_32 c.find_holders.result (record { sfits = c.find_holders.type_inv })) done
