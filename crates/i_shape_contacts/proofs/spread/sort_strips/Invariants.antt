use Rattle.std.proofs.Common.{◌≤◌, ◌-◌, length, IsPermutation}
use Rattle.i_shape_contacts.proofs.spread.sort_strips.Given as goal

abbrev pub invariant-loop-from : goal.invariant-loop-from
invariant-loop-from g l = record {
  within : l.from ≤ length l.order;
  moved : IsPermutation l.fn.order l.order;
}

abbrev pub decreases-loop-from : goal.decreases-loop-from
decreases-loop-from g l = length l.order - l.from
