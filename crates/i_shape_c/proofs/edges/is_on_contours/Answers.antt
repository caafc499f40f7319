use Rattle.std.proofs.Common.{◌≡◌, ◌∙◌, ◌+◌, ◌-◌, length, map, slice_range, ap, subst, sym, refl, IsTrue, arith, inl, inr}
use Rattle.std.proofs.lemmas.Bool.{cases_eq}
use Rattle.i_shape.specs.IntPoint.{point_of}
use Rattle.i_shape.specs.Boundary.{IsOnEdge}
use Rattle.i_shape_c.specs.Batch.{offset, nth_contour}
use Rattle.i_shape_c.proofs.Batches.{safe_part}
use Rattle.i_shape_core.proofs.Lists.Rings.{rises_to}
use Rattle.i_shape_c.proofs.Boundary.{copied_points, safe_contour}
use Rattle.i_shape_c.proofs.edges.is_on_contours.Goals as goal

pub part-requires-clause-within : goal.part-requires-clause-within
part-requires-clause-within g c =
    let up = rises_to c.args.offsets.now (length c.args.offsets.now) c.loop-place.place (length c.args.offsets.now - 1) c.requires.parted.order (omega (arith, c.loop-place-test.true)) (omega (arith, c.loop-place-test.true)) in
    omega (arith, up, c.requires.parted.last)

pub is_on_boundary-requires-clause-points_safe : goal.is_on_boundary-requires-clause-points_safe
is_on_boundary-requires-clause-points_safe g c =
    let at = λ (p : g.row.P.Denot). point_of g.P.Coordinate.IntNumber.value (g.P.ContourPoint.point p) in
    safe_contour g.P.Coordinate.IntNumber.width g.P.Coordinate.IntNumber.value g.P.ContourPoint.point c.part.result.now (g.P.ContourPoint.points c.part.result.now) (g.P.ContourPoint.each c.part.result.now)
    (rw (c.part.ensures.part)
    (safe_part g.P.Coordinate.IntNumber.width at c.args.points.now c.args.offsets.now (c.loop-place.place - 1) c.loop-place.place c.requires.parted.order (omega arith) c.loop-place-test.true c.requires.points_safe))

pub loop-place-init : goal.loop-place-init
loop-place-init g c = λ k h on. absurd (omega (arith, h))

pub returns-then-is_on_boundary : goal.returns-then-is_on_boundary
returns-then-is_on_boundary g c =
    let value = g.P.Coordinate.IntNumber.value in
    let at = λ (p : g.row.P.Denot). point_of value (g.P.ContourPoint.point p) in
    let place = c.loop-place.place in
    let back : place ≡ place - 1 + 1 = omega (arith, c.loop-place.auto.place) in
    let contour = copied_points g.P.Coordinate.IntNumber.width value g.P.ContourPoint.point c.part.result.now (g.P.ContourPoint.points c.part.result.now) (g.P.ContourPoint.each c.part.result.now)
    ∙ ap (map at) (c.part.ensures.part ∙ ap (λ k. slice_range c.args.points.now (offset c.args.offsets.now (place - 1)) (offset c.args.offsets.now k)) back) in (
      λ e. record {
        place = place - 1;
        within = omega (arith, back, c.loop-place-test.true);
        on = subst (λ ps. IsOnEdge ps (point_of value c.args.point)) contour (c.is_on_boundary.ensures.0 c.if-is_on_boundary.true);
      },
      λ w. refl,
    )

pub loop-place-preserved : goal.loop-place-preserved
loop-place-preserved g c =
    let value = g.P.Coordinate.IntNumber.value in
    let at = λ (p : g.row.P.Denot). point_of value (g.P.ContourPoint.point p) in
    let place = c.loop-place.place in
    let back : place ≡ place - 1 + 1 = omega (arith, c.loop-place.auto.place) in
    let contour = copied_points g.P.Coordinate.IntNumber.width value g.P.ContourPoint.point c.part.result.now (g.P.ContourPoint.points c.part.result.now) (g.P.ContourPoint.each c.part.result.now)
    ∙ ap (map at) (c.part.ensures.part ∙ ap (λ k. slice_range c.args.points.now (offset c.args.offsets.now (place - 1)) (offset c.args.offsets.now k)) back) in
    λ k h on. elim (cases_eq k (place - 1)) [
      | inl e ↦
          let here = subst (λ ps. IsOnEdge ps (point_of value c.args.point)) (ap (λ j. map at (nth_contour c.args.points.now c.args.offsets.now j)) e ∙ sym contour) on in
          let t : IsTrue c.is_on_boundary.result = c.is_on_boundary.ensures.1 here in
          let f = c.if-is_on_boundary.false in
          absurd (cc)
      | inr n ↦ c.loop-place.invariant k (omega (arith, h, n, back)) on
    ]

pub returns : goal.returns
returns g c = (λ e. absurd (cc), λ w. let within = w.within in absurd (c.loop-place.invariant w.place (omega (arith, within, c.loop-place-test.false)) w.on))
