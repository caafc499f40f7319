use Rattle.std.proofs.Common.{◌<◌, ◌+◌, ◌∙◌, IsTrue, false, subst, sym, refl, arith, get_or-take, length-take-le}
use Rattle.std.proofs.lemmas.List.Elements.{All-more}
use Rattle.i_shape.specs.IntPoint.{point_of, IsSafe}
use Rattle.i_shape_c.proofs.places.first_unsafe.Goals as goal

pub returns-then-not-is_in_safe_range : goal.returns-then-not-is_in_safe_range
returns-then-not-is_in_safe_range g c =
    let at = λ (p : g.row.P.Denot). point_of g.P.Coordinate.IntNumber.value (g.P.ContourPoint.point p) in
    let points = c.args.points.now in
    let place = c.loop-place.place in
    let x = c.index-points-place.result in
    record {
      within = omega (arith, c.loop-place-test.true);
      before = c.loop-place.invariant;
      here = λ less safe.
          let count = length-take-le (place + 1) points (omega (arith, less)) in
          let read = get_or-take (place + 1) points place x (let e : place < place + 1 = omega arith in e) ∙ sym c.index-points-place.is in
          let told : IsSafe g.P.Coordinate.IntNumber.width (at x) = subst (λ (y : g.row.P.Denot). IsSafe g.P.Coordinate.IntNumber.width (at y)) read (safe place x (omega (arith, count))) in
          let wrong : IsTrue false = c.if-not-is_in_safe_range.ensures.1 (rw (c.to_point.ensures) told) in
          cc;
    }

pub loop-place-preserved : goal.loop-place-preserved
loop-place-preserved g c =
    let at = λ (p : g.row.P.Denot). point_of g.P.Coordinate.IntNumber.value (g.P.ContourPoint.point p) in
    let Safe = λ (p : g.row.P.Denot). IsSafe g.P.Coordinate.IntNumber.width (at p) in
    let here : Safe c.index-points-place.result = rw (c.to_point.ensures) at (c.if-not-is_in_safe_range.ensures.0 refl) in
    All-more Safe c.args.points.now c.loop-place.place c.index-points-place.result c.loop-place-test.true c.loop-place.invariant (subst Safe c.index-points-place.is here)
