use Rattle.std.proofs.Common.{length, ◌-◌, arith}
use Rattle.i_shape_core.proofs.Lists.Rings.{rises_to}
use Rattle.i_shape_c.proofs.validity.most_offsets.Goals as goal

pub overflow_add-offsets : goal.overflow_add-offsets
overflow_add-offsets c =
    let up = rises_to c.args.shapes.now (length c.args.shapes.now) c.loop-place.place (length c.args.shapes.now - 1) c.requires.order (omega (arith, c.loop-place-test.true)) (omega (arith, c.loop-place-test.true)) in
    omega (arith, up, c.requires.last)
