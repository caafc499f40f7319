use Rattle.std.proofs.Common.{◌≡◌, ℕ, length, drop}
use Rattle.i_shape_core.specs.Reading.{read}
use Rattle.i_shape_core.specs.Rings.{CleansRing}
use Rattle.i_shape_core.proofs.Lists.Rings.{Done}
use Rattle.i_shape_core.proofs.clean.batch.clean_rings.Given as goal

abbrev pub invariant-loop-place : goal.invariant-loop-place
invariant-loop-place g l = record {
  points : length l.out ≡ length l.fn.out;
  offsets : length l.out_offsets ≡ length l.fn.out_offsets;
  points_rest : drop l.written l.out ≡ drop l.written l.fn.out;
  offsets_rest : drop l.place l.out_offsets ≡ drop l.place l.fn.out_offsets;
  done : Done (CleansRing g.C.ContourCleaner.meaning g.P.Coordinate.IntNumber.width (read g.P.Coordinate.IntNumber.value g.P.ContourPoint.points)) l.points l.offsets l.out l.out_offsets l.place l.written;
  keeps_room : (n : ℕ) → g.C.ContourCleaner.has_room l.initial.cleaner n → g.C.ContourCleaner.has_room l.cleaner n;
}
