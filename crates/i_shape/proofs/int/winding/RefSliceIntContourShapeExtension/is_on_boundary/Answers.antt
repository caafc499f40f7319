use Rattle.std.proofs.Common.{◌≡◌, ◌∙◌, [], ap, subst, sym, refl, map, get_or, IsTrue, arith, inl, inr, All}
use Rattle.std.proofs.lemmas.Bool.{cases_eq}
use Rattle.std.proofs.lemmas.List.{get_or-map, length-map}
use Rattle.i_shape.proofs.Common.{point_of, contour_of, IsSafe}
use Rattle.i_shape.specs.Boundary.{IsOnEdge}
use Rattle.i_shape.proofs.Lists.Surviving.{mapped-read}
use Rattle.i_shape.proofs.int.winding.RefSliceIntContourShapeExtension.is_on_boundary.Goals as goal

pub is_on_boundary-requires-clause-points_safe : goal.is_on_boundary-requires-clause-points_safe
is_on_boundary-requires-clause-points_safe g c =
    subst (λ points. All (IsSafe g.I.IntNumber.width) (contour_of g.I.IntNumber.value points)) (sym c.as_slice.ensures.value)
    (mapped-read (λ contour. contour_of g.I.IntNumber.value contour.items) (All (IsSafe g.I.IntNumber.width)) c.args.self.now.now _ _ c.loop-contour-test.true c.contour-item.is c.requires.points_safe)

pub loop-contour-init : goal.loop-contour-init
loop-contour-init g c = λ k h on. absurd (omega (arith, h))

pub returns-then-is_on_boundary : goal.returns-then-is_on_boundary
returns-then-is_on_boundary g c =
    let value = g.I.IntNumber.value in
    let p = point_of value c.args.point in
    let contours = c.args.self.now.now in
    let k = c.loop-contour.contour-index in
    let within = c.loop-contour-test.true in
    let read : get_or (map (λ contour. contour_of value contour.items) contours) k [] ≡ contour_of value c.contour-item.result.items =
    get_or-map (λ contour. contour_of value contour.items) contours k c.contour-item.result [] within ∙ ap (λ contour. contour_of value contour.items) (sym c.contour-item.is) in
    let told = c.is_on_boundary.ensures.0 c.if-is_on_boundary.true in (
      λ e. record {
        place = k;
        within = omega (arith, within, length-map contours (λ contour. contour_of value contour.items));
        on = subst (λ c. IsOnEdge c p) (ap (contour_of value) c.as_slice.ensures.value ∙ sym read) told;
      },
      λ w. refl,
    )

pub loop-contour-preserved : goal.loop-contour-preserved
loop-contour-preserved g c =
    let value = g.I.IntNumber.value in
    let p = point_of value c.args.point in
    let contours = c.args.self.now.now in
    let i = c.loop-contour.contour-index in
    let within = c.loop-contour-test.true in
    let read : get_or (map (λ contour. contour_of value contour.items) contours) i [] ≡ contour_of value c.contour-item.result.items =
    get_or-map (λ contour. contour_of value contour.items) contours i c.contour-item.result [] within ∙ ap (λ contour. contour_of value contour.items) (sym c.contour-item.is) in
    λ k h on. elim (cases_eq k i) [
      | inl e ↦
          let here = subst (λ c. IsOnEdge c p) (ap (λ j. get_or (map (λ contour. contour_of value contour.items) contours) j []) e ∙ read ∙ ap (contour_of value) (sym c.as_slice.ensures.value)) on in
          let t : IsTrue c.is_on_boundary.result = c.is_on_boundary.ensures.1 here in
          let f = c.if-is_on_boundary.false in
          absurd (cc)
      | inr n ↦ c.loop-contour.invariant k (omega (arith, h, n)) on
    ]

pub returns : goal.returns
returns g c =
    let value = g.I.IntNumber.value in
    let past = c.loop-contour-test.false in (
      λ e. absurd (cc),
      λ w.
          let within = w.within in
          absurd (c.loop-contour.invariant w.place (omega (arith, past, within, length-map c.args.self.now.now (λ contour. contour_of value contour.items))) w.on),
    )
