use Rattle.i_shape.proofs.Buffers.Shapes.{HoldsShapes-appended}
use Rattle.i_shape.proofs.flat.buffer.shapes.FlatShapesBuffer.set_with_shapes.Goals as goal

pub returns-clause-ok : goal.returns-clause-ok
returns-clause-ok g c =
    HoldsShapes-appended c.clear_and_reserve.new.self _ _ c.in_ok-clear_and_reserve.ensures.ok
    c.append_shapes.ensures.points c.append_shapes.ensures.contour_ranges c.append_shapes.ensures.shape_ranges
