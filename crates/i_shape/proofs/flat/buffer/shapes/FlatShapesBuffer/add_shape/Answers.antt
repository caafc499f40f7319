use Rattle.std.proofs.Common.{refl, ◌∙◌}
use Rattle.i_shape.proofs.Lists.EndToEnd.{as_contours}
use Rattle.i_shape.proofs.Buffers.Shapes.{AddsShape-from_lists}
use Rattle.i_shape.proofs.flat.buffer.shapes.FlatShapesBuffer.add_shape.Goals as goal

pub returns-clause-ok : goal.returns-clause-ok
returns-clause-ok g c =
    AddsShape-from_lists _ _ _ _ _ _ _ _ _ c.reserve.ensures.items c.reserve-2.ensures.items c.reserve-3.ensures.items
    (c.reserve.ensures.len ∙ c.args.self.now.points.ok.0) (c.reserve-2.ensures.len ∙ c.args.self.now.contour_ranges.ok.0)
    (as_contours c.args.shape.now c.args.shape.now refl) c.append_shape.ensures.points c.append_shape.ensures.contour_ranges c.append_shape.ensures.shape_ranges
