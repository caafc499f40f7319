use Rattle.std.proofs.Common.{◌+◌, ◌-◌, length, arith}
use Rattle.i_shape_core.proofs.Lists.Rings.{rises_to}
use Rattle.i_shape_c.proofs.compact.is_left.Goals as goal

pub has_points-requires : goal.has_points-requires
has_points-requires c =
    let parted = c.requires.parted in
    let up = rises_to c.args.shapes.now (length c.args.shapes.now) (c.args.shape + 1) (length c.args.shapes.now - 1) parted.order (omega (arith, c.requires.within)) (omega (arith, parted.some)) in
    omega (arith, up, parted.last, c.if-shapes-shape.false, c.requires.some)
