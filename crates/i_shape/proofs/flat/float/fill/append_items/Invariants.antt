use Rattle.std.proofs.Common.{◌≡◌, ◌+◌, ◌≤◌, ◌++◌, length, vec_capacity}
use Rattle.i_shape.proofs.flat.float.fill.append_items.Given as goal

abbrev pub invariant-loop-item : goal.invariant-loop-item
invariant-loop-item g l = record {
  can_next : (goal.iterator-loop-item g).can_next l.item-iterator;
  is_finite : (goal.iterator-loop-item g).is_finite l.item-iterator;
  items : l.points.items ≡ l.initial.points.items ++ l.yielded;
  left : length l.yielded + (goal.iterator-loop-item g).remaining l.item-iterator ≤ (goal.iterator-loop-item g).remaining l.fn.iter;
  room : vec_capacity l.initial.points ≤ vec_capacity l.points;
}
