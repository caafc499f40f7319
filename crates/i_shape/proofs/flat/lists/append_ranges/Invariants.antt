use Rattle.std.proofs.Common.{◌≡◌, ◌+◌, ◌≤◌, ◌++◌, take, vec_len, vec_capacity}
use Rattle.i_shape.proofs.flat.lists.append_ranges.Given as goal

abbrev pub invariant-loop-range : goal.invariant-loop-range
invariant-loop-range l = record {
  items : l.list.items ≡ l.initial.list.items ++ take l.range-index l.ranges;
  len : vec_len l.list ≡ vec_len l.initial.list + l.range-index;
  capacity : vec_capacity l.initial.list ≤ vec_capacity l.list;
}
