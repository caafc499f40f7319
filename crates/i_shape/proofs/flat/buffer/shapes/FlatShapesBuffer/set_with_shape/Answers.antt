use Rattle.std.proofs.Common.{refl}
use Rattle.i_shape.proofs.Lists.EndToEnd.{as_contours}
use Rattle.i_shape.proofs.Buffers.Shapes.{HoldsShapes-one}
use Rattle.i_shape.proofs.flat.buffer.shapes.FlatShapesBuffer.set_with_shape.Goals as goal

pub returns-clause-ok : goal.returns-clause-ok
returns-clause-ok g c =
    HoldsShapes-one c.clear_and_reserve.new.self _ _ _ c.in_ok-clear_and_reserve.ensures.ok (as_contours c.args.shape.now c.args.shape.now refl)
    c.append_shape.ensures.points c.append_shape.ensures.contour_ranges c.append_shape.ensures.shape_ranges
