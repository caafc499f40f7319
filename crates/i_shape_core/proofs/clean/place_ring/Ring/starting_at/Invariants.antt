use Rattle.std.proofs.Common.{◌≡◌, ◌≤◌, vec_len, vec_capacity}
use Rattle.std.specs.List.{range_with_len}
use Rattle.i_shape_core.proofs.clean.place_ring.Ring.starting_at.Given as goal

abbrev pub invariant-loop-each : goal.invariant-loop-each
invariant-loop-each l = record {
  places : l.places.items ≡ range_with_len 0 l.each;
  len : vec_len l.places ≡ l.each;
  room : l.count ≤ vec_capacity l.places;
  kept : vec_capacity l.places ≡ vec_capacity l.initial.places;
}
