use Rattle.std.proofs.Common.{rules, arith, ◌≡◌, ◌∙◌, sym, [], ◌∷◌, length}
use Rattle.i_shape.proofs.Buffers.AnyPoints.{LieEndToEnd-appended, FormOneShape-from_lists, one_shape_range}
use Rattle.i_shape.proofs.flat.float.shapes.FloatFlatShapesBuffer.set_with_resource.Goals as goal

pub returns-clause-ok : goal.returns-clause-ok
returns-clause-ok g c =
    let empty = c.in_ok-clear_and_reserve.ensures.ok in
    LieEndToEnd-appended c.append_paths.ensures.points c.append_paths.ensures.ranges empty.points empty.contour_ranges c.clear_and_reserve.new.self.points.ok.0

pub returns-clause-one_shape : goal.returns-clause-one_shape
returns-clause-one_shape g c =
    let empty = c.in_ok-clear_and_reserve.ensures.ok in
    let lies = LieEndToEnd-appended c.append_paths.ensures.points c.append_paths.ensures.ranges empty.points empty.contour_ranges c.clear_and_reserve.new.self.points.ok.0 in
    let paths = g.R.ShapeResource.paths c.args.resource in
    let n = c.in_ok-counts.counts.contours in
    let count : n ≡ length paths = search rules in
    let pushed : c.push_reserved.new.self.items ≡ record { start = 0; end = n } ∷ [] = search rules in
    FormOneShape-from_lists _ paths lies.points lies.ranges (pushed ∙ sym (one_shape_range paths n count (omega (arith, c.if-counts-eq0.false))))
