use Rattle.std.proofs.Common.{◌≡◌, ◌-◌, map}
use Rattle.std.specs.List.{range_with_len}
use Rattle.i_shape_c.specs.Batch.{nth_contour}
use Rattle.i_shape_c.proofs.lists.slices.Given as goal

abbrev pub invariant-loop-place : goal.invariant-loop-place
invariant-loop-place g l = map (λ list. list.now) l.lists.items ≡ map (nth_contour l.items l.offsets) (range_with_len 0 (l.place - 1))
