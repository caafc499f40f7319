use Rattle.std.proofs.Common.{◌≡◌, Some, map, take, slice_get}
use Rattle.i_shape_core.proofs.clean.write.write_at.Given as goal

abbrev pub invariant-loop-at : goal.invariant-loop-at
invariant-loop-at g l = map (λ item. Some item) (take l.at l.front) ≡ map (slice_get l.items) (take l.at l.places)
