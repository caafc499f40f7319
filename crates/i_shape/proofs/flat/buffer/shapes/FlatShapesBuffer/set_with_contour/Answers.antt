use Rattle.i_shape.proofs.Buffers.Shapes.{HoldsShapes-contour}
use Rattle.i_shape.proofs.flat.buffer.shapes.FlatShapesBuffer.set_with_contour.Goals as goal

pub returns-clause-ok : goal.returns-clause-ok
returns-clause-ok g c =
    HoldsShapes-contour c.clear_and_reserve.new.self _ _ c.in_ok-clear_and_reserve.ensures.ok
    c.append_contour.ensures.points c.append_contour.ensures.ranges c.push_reserved.ensures.items
