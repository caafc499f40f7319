use Rattle.std.proofs.Common.{◌+◌, ◌<◌, length, refl, subst, arith}
use Rattle.i_shape.specs.IntPoint.{point_of}
use Rattle.i_shape_core.proofs.Lists.Rings.{back_more}
use Rattle.i_shape_c.specs.Holders.{IsHolder}
use Rattle.i_shape_c.specs.Polygons.{polygon_arrays}
use Rattle.i_shape_c.proofs.Told.{item_more}
use Rattle.i_shape_c.proofs.holders.write_holders.Goals as goal

pub loop-place-preserved : goal.loop-place-preserved
loop-place-preserved g c =
    let value = g.P.Coordinate.IntNumber.value in
    let at = λ (p : g.row.P.Denot). point_of value (g.P.ContourPoint.point p) in
    let place = c.loop-place.place in
    let within = c.loop-place-test.true in
    let room : place < length c.loop-place.out = omega (arith, c.loop-place.auto.out, c.requires.room, within) in
    let Gives = IsHolder at (polygon_arrays c.args.points.now c.args.contours.now c.args.shapes.now) c.args.rule in
    let here = subst (λ p. Gives (point_of value p) c.first_holder.result) c.to_point-point.ensures c.first_holder.ensures in
    record {
      each = item_more (λ q. Gives (at q)) c.args.about.now c.loop-place.out place c.index-about-place.result c.first_holder.result within c.index-about-place.is room c.loop-place.invariant.each here;
      rest = back_more c.loop-place.out c.args.out.now place (place + 1) c.first_holder.result refl c.loop-place.invariant.rest;
    }
