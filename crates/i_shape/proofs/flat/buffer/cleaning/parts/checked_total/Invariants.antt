use Rattle.std.proofs.Common.{◌≡◌, take, sum_by}
use Rattle.i_shape.proofs.Common.{range_len}
use Rattle.i_shape.proofs.flat.buffer.cleaning.parts.checked_total.Given as goal

abbrev pub invariant-loop-range : goal.invariant-loop-range
invariant-loop-range l = l.total ≡ sum_by range_len (take l.range-index l.ranges)
