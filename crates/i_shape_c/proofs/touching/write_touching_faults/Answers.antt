use Rattle.std.proofs.Common.{◌≡◌, ◌∙◌, ◌-◌, length, take, drop, ap, sym, subst, arith}
use Rattle.std.specs.List.{AllZip, range_with_len}
use Rattle.std.proofs.lemmas.List.FromFn.{length-range_with_len}
use Rattle.std.proofs.lemmas.Slice.Zip.{AllZip-long}
use Rattle.i_shape.specs.IntPoint.{point_of}
use Rattle.i_shape_c.specs.Polygons.{polygon_arrays}
use Rattle.i_shape_c.specs.Validity.{IsTouchingFaultOf, IsFaultAt}
use Rattle.i_shape_c.proofs.touching.write_touching_faults.Goals as goal

pub write_front-requires : goal.write_front-requires
write_front-requires g c =
    let at = λ (p : g.row.P.Denot). point_of g.P.Coordinate.IntNumber.value (g.P.ContourPoint.point p) in
    let Is = IsFaultAt IsTouchingFaultOf at (polygon_arrays c.args.points.now c.args.contours.now c.args.shapes.now) in
    let faults = c.in_ok-faults.faults.items in
    let n = length c.args.shapes.now - 1 in
    let long = AllZip-long Is (range_with_len 0 n) faults c.in_ok-faults.ensures ∙ length-range_with_len 0 n in
    let same = ap length c.deref.ensures.value in
    omega (arith, long, same, c.requires.room)

pub returns-clause-ok : goal.returns-clause-ok
returns-clause-ok g c =
    let at = λ (p : g.row.P.Denot). point_of g.P.Coordinate.IntNumber.value (g.P.ContourPoint.point p) in
    let Is = IsFaultAt IsTouchingFaultOf at (polygon_arrays c.args.points.now c.args.contours.now c.args.shapes.now) in
    let faults = c.in_ok-faults.faults.items in
    let n = length c.args.shapes.now - 1 in
    let long = AllZip-long Is (range_with_len 0 n) faults c.in_ok-faults.ensures ∙ length-range_with_len 0 n in
    let many : length c.deref.result.now ≡ n = ap length c.deref.ensures.value ∙ long in
    let out = c.write_front.new.out in
    let written : take n out ≡ faults = subst (λ m. take m out ≡ c.deref.result.now) many c.write_front.ensures.written ∙ c.deref.ensures.value in
    record {
      each = subst (AllZip Is (range_with_len 0 n)) (sym written) c.in_ok-faults.ensures;
      rest = subst (λ m. drop m out ≡ drop m c.args.out.now) many c.write_front.ensures.rest;
    }
