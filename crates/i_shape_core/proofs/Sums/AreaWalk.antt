-- Twice the area as a walk from the first point sums it, wrapping each sum.
use Rattle.std.proofs.Common.{◌≡◌, List, [], ◌∷◌, ◌++◌, ℤ, pos, ◌+ℤ◌, ◌<ℤ◌, FitsSigned, int_div, refl, sym, ap, subst, ◌∙◌, arith, pow_pos}
use Rattle.std.specs.Int.{Width, int_wrap}
use Rattle.std.proofs.lemmas.Int.{ints, int_wrap-add_left, int_wrap_fits, SFits-int_wrap, quot_fits}
use Rattle.std.proofs.lemmas.List.{map-append}
use Rattle.i_shape_core.specs.Widths.{hbits}
use Rattle.i_shape_core.proofs.Common.{Point, cross_of, point_of, contour_of, IntPoint, last_of}
use Rattle.i_shape_core.specs.Edges.{Edge, sum_of, area_of_edge, shoelace}
use Rattle.i_shape_core.proofs.Sums.Edges.{sum_push}
use Rattle.i_shape_core.proofs.Plane.CrossProducts.{edge}
use Rattle.i_shape_core.proofs.Removal.Dedup.{last_of_append}
use Rattle.i_shape_core.proofs.Sums.InsideWalk.{path_over, between_is}

-- what the edges of the path from a over the points add to twice the area
abbrev pub area_along : Point → List Point → ℤ
area_along a ps = sum_of area_of_edge (path_over a ps)

path_push : (a : Point) (ps : List Point) (q : Point) → path_over a (ps ++ q ∷ []) ≡ path_over a ps ++ edge (last_of a ps) q ∷ []
path_push a [] q = refl
path_push a (p ∷ ps) q = ap (λ (es : List Edge). edge a p ∷ es) (path_push p ps q)

-- appending a point adds the edge to it
area_push : (a : Point) (ps : List Point) (q : Point) → area_along a (ps ++ q ∷ []) ≡ area_along a ps +ℤ cross_of (last_of a ps) q
unfolding area_of_edge
area_push a ps q = ap (sum_of area_of_edge) (path_push a ps q) ∙ sum_push area_of_edge (path_over a ps) (edge (last_of a ps) q)

-- the double area of a contour is that along its points and of the closing edge
area_closed : (a : Point) (ps : List Point) → shoelace (a ∷ ps) ≡ area_along a ps +ℤ cross_of (last_of a ps) a
unfolding area_of_edge shoelace
area_closed a ps = ap (sum_of area_of_edge) (between_is a ps a) ∙ sum_push area_of_edge (path_over a ps) (edge (last_of a ps) a)

-- the wrapped sum starts at 0
pub wrapped-zero : (w : Width) (z : ℤ) → z ≡ pos 0 → z ≡ int_wrap w (pos 0)
wrapped-zero w z e =
    let positive = pow_pos (hbits w) in
    let fits : FitsSigned w (pos 0) = record { sfits = omega arith } in
    e ∙ sym (int_wrap_fits w (pos 0) fits)

-- adding to a wrapped sum and wrapping is wrapping the sum
pub wrapped-more : (w : Width) (before after s t : ℤ) → before ≡ int_wrap w s → after ≡ int_wrap w (before +ℤ t) → after ≡ int_wrap w (s +ℤ t)
wrapped-more w before after s t e f = f ∙ ap (λ (z : ℤ). int_wrap w (z +ℤ t)) e ∙ int_wrap-add_left w s t

-- half of a wrapped number fits
pub half-fits : (w : Width) (z two s : ℤ) → z ≡ int_wrap w s → two ≡ pos 2 → FitsSigned w (int_div z two)
half-fits w z two s e f =
    let positive : pos 0 <ℤ two = subst (λ (n : ℤ). pos 0 <ℤ n) (sym f) (omega (arith, ints)) in
    quot_fits w z two (subst (FitsSigned w) (sym e) (SFits-int_wrap w s)) positive

-- ---- the walk: at the point `previous`, after the first point and those in `taken`, `area` is the wrapped sum
pub record IsSummed {I : Type 0} (value : I → ℤ) (w : Width) (first : IntPoint I) (taken : List (IntPoint I)) (previous : IntPoint I) (area : ℤ) : Type 0 where
  pub here : point_of value previous ≡ last_of (point_of value first) (contour_of value taken)
  pub sum : area ≡ int_wrap w (area_along (point_of value first) (contour_of value taken))

-- the next point adds its edge to the sum
pub summed-more : {I : Type 0} (value : I → ℤ) (w : Width) (first : IntPoint I) (taken : List (IntPoint I)) (previous point : IntPoint I) (before product after : ℤ)
    → IsSummed value w first taken previous before → product ≡ cross_of (point_of value previous) (point_of value point) → after ≡ int_wrap w (before +ℤ product)
    → IsSummed value w first (taken ++ point ∷ []) point after
summed-more {I} value w first taken previous point before product after s f e = record {
  here = sym (ap (last_of (point_of value first)) pushed ∙ last_of_append (point_of value first) (contour_of value taken) (point_of value point ∷ []));
  sum = wrapped-more w before after (area_along (point_of value first) (contour_of value taken)) (cross_of (last_of (point_of value first) (contour_of value taken)) (point_of value point)) s.sum
      (e ∙ ap (λ (z : ℤ). int_wrap w (before +ℤ z)) (f ∙ ap (λ (p : Point). cross_of p (point_of value point)) s.here))
      ∙ ap (int_wrap w) (sym (area_push (point_of value first) (contour_of value taken) (point_of value point)) ∙ ap (area_along (point_of value first)) (sym pushed));
}
  where
    pushed : contour_of value (taken ++ point ∷ []) ≡ contour_of value taken ++ point_of value point ∷ []
    pushed = map-append (point_of value) taken (point ∷ [])

-- the closing edge makes the sum the wrapped double area
pub summed-last : {I : Type 0} (value : I → ℤ) (w : Width) (first : IntPoint I) (taken : List (IntPoint I)) (previous : IntPoint I) (before product after : ℤ)
    → IsSummed value w first taken previous before → product ≡ cross_of (point_of value previous) (point_of value first) → after ≡ int_wrap w (before +ℤ product)
    → after ≡ int_wrap w (shoelace (contour_of value (first ∷ taken)))
summed-last {I} value w first taken previous before product after s f e =
    wrapped-more w before after (area_along (point_of value first) (contour_of value taken)) (cross_of (last_of (point_of value first) (contour_of value taken)) (point_of value first)) s.sum
    (e ∙ ap (λ (z : ℤ). int_wrap w (before +ℤ z)) (f ∙ ap (λ (p : Point). cross_of p (point_of value first)) s.here))
    ∙ ap (int_wrap w) (sym (area_closed (point_of value first) (contour_of value taken)))
