use Rattle.std.proofs.Common.{refl}
use Rattle.i_shape.specs.IntPoint.{point_of}
use Rattle.i_shape_c.specs.Batch.{contour_arrays}
use Rattle.i_shape_c.specs.Windings.{WindingsAnswer}
use Rattle.i_shape_c.proofs.Refusals.{each_code, code_of_32, refused, not_refused}
use Rattle.i_shape_c.proofs.winding.windings.Goals as goal

pub returns-in-Some : goal.returns-in-Some
returns-in-Some g c =
    let at = λ (p : g.row.P.Denot). point_of g.P.Coordinate.IntNumber.value (g.P.ContourPoint.point p) in
    let r = c.in-Some.refusal in
    rw (c.code.ensures, code_of_32 r) (record {
      answer = each_code (WindingsAnswer at (contour_arrays c.args.points.now c.args.offsets.now) c.args.about.now c.args.out.now c.args.out.now) r (λ n few. (few, refl));
      refuses = refused r c.in-Some.ensures;
    })

pub returns : goal.returns
returns g c = record { answer = c.wind_in_batches.ensures; refuses = not_refused c.in_default.ensures 0 }
