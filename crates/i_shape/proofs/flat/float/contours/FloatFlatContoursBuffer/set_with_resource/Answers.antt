use Rattle.i_shape.proofs.Buffers.AnyPoints.{LieEndToEnd-appended}
use Rattle.i_shape.proofs.flat.float.contours.FloatFlatContoursBuffer.set_with_resource.Goals as goal

pub returns-clause-ok : goal.returns-clause-ok
returns-clause-ok g c =
    let empty = c.in_ok-clear_and_reserve.ensures.ok in
    LieEndToEnd-appended c.append_paths.ensures.points c.append_paths.ensures.ranges empty.points empty.ranges c.clear_and_reserve.new.self.points.ok.0
