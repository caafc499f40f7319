use Rattle.std.proofs.Common.{refl, arith}
use Rattle.i_shape.specs.IntPoint.{point_of}
use Rattle.i_shape_c.specs.Polygons.{polygon_arrays}
use Rattle.i_shape_c.specs.Validity.{IsFaultOf, FaultsAnswer}
use Rattle.i_shape_c.specs.declared.codes.Refusal.TheVariants.{NoMemory}
use Rattle.i_shape_c.proofs.Refusals.{each_code, code_of_32, refused, refused_memory, not_refused}
use Rattle.i_shape_c.proofs.validity.find_faults.Goals as goal

pub returns-in-Some : goal.returns-in-Some
returns-in-Some g c =
    let at = λ (p : g.row.P.Denot). point_of g.P.Coordinate.IntNumber.value (g.P.ContourPoint.point p) in
    let r = c.in-Some.refusal in
    rw (c.code.ensures, code_of_32 r) (record {
      answer = each_code (FaultsAnswer IsFaultOf at (polygon_arrays c.args.points.now c.args.contours.now c.args.shapes.now) c.args.out.now c.args.out.now) r (λ n few. (few, refl));
      refuses = refused r c.in-Some.ensures;
    })

pub returns-in-Ok : goal.returns-in-Ok
returns-in-Ok g c = record { answer = c.in-Ok.ensures.ok; refuses = not_refused c.in_default.ensures 0 }

pub returns-in-Err : goal.returns-in-Err
returns-in-Err g c = rw (c.code-in-Err.ensures, code_of_32 NoMemory) (record { answer = (omega arith, c.in-Err.ensures.err); refuses = refused_memory c.in_default.ensures c.in-Err.ensures.memory })
