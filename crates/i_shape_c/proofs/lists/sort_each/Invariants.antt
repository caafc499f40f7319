use Rattle.std.proofs.Common.{IsSorted, ◌≡◌, ◌+◌, ◌-◌, ◌<◌, ℕ, take, drop}
use Rattle.i_shape_c.specs.Batch.{offset, nth_contour}
use Rattle.i_shape_c.specs.Steps.Sorted.{SortsAll}
use Rattle.i_shape_c.proofs.lists.sort_each.Given as goal

abbrev pub invariant-loop-place : goal.invariant-loop-place
invariant-loop-place g l = record {
  each : (k : ℕ) → k + 1 < l.place → SortsAll (IsSorted g.T.Ord.cmp) (nth_contour l.fn.items l.offsets k) (nth_contour l.items l.offsets k);
  before : take (offset l.offsets 0) l.items ≡ take (offset l.offsets 0) l.fn.items;
  behind : drop (offset l.offsets (l.place - 1)) l.items ≡ drop (offset l.offsets (l.place - 1)) l.fn.items;
}
