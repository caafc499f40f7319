use Rattle.std.proofs.Common.{◌≡◌, length, map, take}
use Rattle.i_shape.specs.Paths.{concatenated}
use Rattle.i_shape_c.specs.Polygons.{offsets_of}
use Rattle.i_shape_c.specs.Steps.Appended.{IsPut}
use Rattle.i_shape_c.proofs.lists.write_lists.Given as goal

abbrev pub invariant-loop-place : goal.invariant-loop-place
invariant-loop-place g l = record {
  end : l.end ≡ length (concatenated (map (λ list. list.now) (take l.place l.lists)));
  items : IsPut 0 (concatenated (map (λ list. list.now) (take l.place l.lists))) l.fn.out l.out;
  offsets : IsPut 0 (offsets_of 0 (map (λ list. list.now) (take l.place l.lists))) l.fn.offsets l.offsets;
}
