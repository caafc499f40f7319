use Rattle.std.proofs.Common.{◌≡◌, ◌≤◌, Some, map, take, length, vec_len, vec_capacity, slice_get}
use Rattle.i_shape_core.proofs.clean.probe.Probe.keep.Given as goal

abbrev pub invariant-loop-index : goal.invariant-loop-index
invariant-loop-index g l = record {
  points : map (λ p. Some p) (g.P.ContourPoint.points l.kept.items) ≡ map (slice_get (g.P.ContourPoint.points l.self-inside.points.now)) (take l.index-index l.indices);
  len : vec_len l.kept ≡ l.index-index;
  room : length l.indices ≤ vec_capacity l.kept;
}
