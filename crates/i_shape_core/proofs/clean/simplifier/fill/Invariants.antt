use Rattle.std.proofs.Common.{◌≡◌, ◌+◌, ◌-◌, vec_len, vec_capacity}
use Rattle.std.specs.List.{range_with_len}
use Rattle.i_shape_core.proofs.clean.simplifier.fill.Given as goal

abbrev pub invariant-loop-place : goal.invariant-loop-place
invariant-loop-place l = record {
  items : l.stack.items ≡ range_with_len l.first (l.place - l.first);
  len : vec_len l.stack + l.first ≡ l.place;
  room : vec_capacity l.stack ≡ vec_capacity l.fn.stack;
}
