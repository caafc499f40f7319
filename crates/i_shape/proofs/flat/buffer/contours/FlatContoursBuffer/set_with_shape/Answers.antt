use Rattle.i_shape.proofs.Buffers.Contours.{HoldsContours-appended}
use Rattle.i_shape.proofs.flat.buffer.contours.FlatContoursBuffer.set_with_shape.Goals as goal

pub returns-clause-ok : goal.returns-clause-ok
returns-clause-ok g c =
    HoldsContours-appended c.clear_and_reserve.new.self _ _ c.in_ok-clear_and_reserve.ensures.ok c.append_contours.ensures.points c.append_contours.ensures.ranges
