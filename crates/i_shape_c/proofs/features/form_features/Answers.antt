use Rattle.std.proofs.Common.{◌^◌, ◌<◌, Some, refl, arith, w64}
use Rattle.std.proofs.lemmas.Int.{to_z_pos}
use Rattle.i_shape_c.specs.Formed.{FeaturesForm}
use Rattle.i_shape_c.specs.Points.{point_by}
use Rattle.i_shape_c.specs.Polygons.{polygon_arrays, ShapesAnswer}
use Rattle.i_shape_c.specs.declared.codes.Refusal.TheVariants.{NoMemory}
use Rattle.i_shape_c.proofs.Refusals.{each_code, code_of_64, refusal_as, as_is, refused, refused_memory, not_refused}
use Rattle.i_shape_c.proofs.features.form_features.Goals as goal

pub refusal-requires : goal.refusal-requires
refusal-requires g c = λ is. (c.are_features-is_parted.ensures.0 is).polygons_parted.contours_parted

pub returns-in-Some : goal.returns-in-Some
returns-in-Some g c =
    let at = point_by g.P.Coordinate.IntNumber.value g.P.ContourPoint.point in
    let r = c.in-Some.refusal in
    rw (c.code.ensures, code_of_64 r) (record {
      answer = each_code (ShapesAnswer (FeaturesForm g.C.ContourCleaner.meaning.answers c.args.features.now) at (polygon_arrays c.args.points.now c.args.contours.now c.args.shapes.now) (polygon_arrays c.args.out_points.now c.args.out_contours.now c.args.out_shapes.now) (polygon_arrays c.args.out_points.now c.args.out_contours.now c.args.out_shapes.now)) r
          (λ n few. (few, refl, refl, refl));
      refuses = refused r (refusal_as (Some r) c.are_features-is_parted.ensures c.has_shapes_room-has_room.ensures as_is c.in-Some.ensures);
    })

pub returns-in-Ok : goal.returns-in-Ok
returns-in-Ok g c =
    let fit = c.in_default.ensures in
    let parted = c.are_features-is_parted.ensures.0 fit.0 in
    let room = c.has_shapes_room-has_room.ensures.0 fit.1 in
    let held = c.in-Ok.ensures.ok in
    let small : c.in-Ok.count < 2 ^ 63 = omega (arith, held.fewer_shapes, room.shapes_room, c.requires) in
    rw (to_z_pos w64 c.in-Ok.count small) (record { answer = held; refuses = not_refused (parted, room, fit.2) c.in-Ok.count })

pub returns-in-Err : goal.returns-in-Err
returns-in-Err g c =
    let fit = c.in_default.ensures in
    let parted = c.are_features-is_parted.ensures.0 fit.0 in
    let room = c.has_shapes_room-has_room.ensures.0 fit.1 in
    let kept = c.in-Err.ensures.err in
    rw (c.code-in-Err.ensures, code_of_64 NoMemory) (record { answer = (omega arith, kept.0, kept.1, kept.2); refuses = refused_memory (parted, room, fit.2) c.in-Err.ensures.memory })
