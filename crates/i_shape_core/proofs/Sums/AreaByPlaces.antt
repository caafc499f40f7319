-- Twice the area as a loop over the indices of a slice sums it, wrapping each sum.
use Rattle.std.proofs.Common.{◌≡◌, ℕ, zero, suc, ◌<◌, List, [], ◌∷◌, length, get_or, ℤ, pos, ◌+ℤ◌, ◌-ℤ◌, ◌*ℤ◌, sym, ap, ◌∙◌, ◌+◌, arith, add-one}
use Rattle.std.specs.Int.{Width, int_wrap}
use Rattle.std.proofs.lemmas.Int.{ints}
use Rattle.i_shape_core.proofs.Common.{Point, cross_of, point_at, point_of, contour_of, IntPoint}
use Rattle.i_shape_core.specs.Edges.{edges_between, sum_of, area_of_edge, shoelace}
use Rattle.i_shape_core.proofs.Plane.Contours.{read-point, length-contour}
use Rattle.i_shape_core.proofs.Sums.AreaWalk.{wrapped-zero, wrapped-more}

-- what the edges from each of the first k points to the next add to twice the area
abbrev pub area_up_to : List Point → ℕ → ℤ
area_up_to c zero = pos 0
area_up_to c (suc k) = area_up_to c k +ℤ cross_of (point_at c k) (point_at c (suc k))

-- the edge from index k adds its area
area_more : (c : List Point) (k : ℕ) → area_up_to c (k + 1) ≡ area_up_to c k +ℤ cross_of (point_at c k) (point_at c (k + 1))
area_more c k = ap (area_up_to c) (add-one k) ∙ ap (λ (j : ℕ). area_up_to c k +ℤ cross_of (point_at c k) (point_at c j)) (sym (add-one k))

-- the first edge may be added last
area_from_first : (a b : Point) (bs : List Point) (k : ℕ) → area_up_to (a ∷ b ∷ bs) (suc k) ≡ cross_of a b +ℤ area_up_to (b ∷ bs) k
area_from_first a b bs zero = omega (arith, ints)
area_from_first a b bs (suc k) = let h = area_from_first a b bs k in omega (arith, ints)

-- the area along a path to z is that over its indices and of the last edge
path_by_places : (a : Point) (bs : List Point) (z : Point)
    → sum_of area_of_edge (edges_between a bs z) ≡ area_up_to (a ∷ bs) (length bs) +ℤ cross_of (point_at (a ∷ bs) (length bs)) z
unfolding area_of_edge
path_by_places a [] z = omega (arith, ints)
path_by_places a (b ∷ bs) z =
    let h = path_by_places b bs z in
    let first = area_from_first a b bs (length bs) in
    omega (arith, ints)

-- twice the area of a contour is that over its indices and of the edge from the last one, k
pub shoelace_by_places : (a : Point) (bs : List Point) (k : ℕ) → k ≡ length bs → shoelace (a ∷ bs) ≡ area_up_to (a ∷ bs) k +ℤ cross_of (point_at (a ∷ bs) k) a
unfolding shoelace
shoelace_by_places a bs k same =
    path_by_places a bs a ∙ sym (ap (λ (j : ℕ). area_up_to (a ∷ bs) j +ℤ cross_of (point_at (a ∷ bs) j) a) same)

no_edge : (p : Point) → (p.x *ℤ p.y -ℤ p.y *ℤ p.x) +ℤ pos 0 ≡ pos 0
no_edge p = omega (arith, ints)

-- a contour of fewer than two points has area 0
pub summed-short : {I : Type 0} (value : I → ℤ) (w : Width) (points : List (IntPoint I)) (area : ℤ) → length points < 2 → area ≡ pos 0
    → area ≡ int_wrap w (shoelace (contour_of value points))
unfolding area_of_edge shoelace
summed-short value w [] area short e = wrapped-zero w area e
summed-short value w (p ∷ []) area short e = wrapped-zero w area e ∙ ap (int_wrap w) (sym (no_edge (point_of value p)))
summed-short value w (p ∷ q ∷ ps) area short e = absurd (omega arith)

-- the edge from index k to the next adds its area to the wrapped sum
pub summed-next : {I : Type 0} (value : I → ℤ) (w : Width) (points : List (IntPoint I)) (k : ℕ) (point next : IntPoint I) (before product after : ℤ)
    → k + 1 < length points → point ≡ get_or points k point → next ≡ get_or points (k + 1) next
    → before ≡ int_wrap w (area_up_to (contour_of value points) k) → product ≡ cross_of (point_of value point) (point_of value next) → after ≡ int_wrap w (before +ℤ product)
    → after ≡ int_wrap w (area_up_to (contour_of value points) (k + 1))
summed-next value w points k point next before product after within read read_next s f e =
    let c = contour_of value points in
    let here = read-point value points k point (omega arith) read in
    let there = read-point value points (k + 1) next within read_next in
    wrapped-more w before after (area_up_to c k) (cross_of (point_at c k) (point_at c (k + 1))) s
    (e ∙ ap (λ (z : ℤ). int_wrap w (before +ℤ z)) (f ∙ ap (λ (p : Point). cross_of p (point_of value next)) here ∙ ap (cross_of (point_at c k)) there))
    ∙ ap (int_wrap w) (sym (area_more c k))

-- the edge from the last point to the first makes the sum the wrapped double area
pub summed-closed : {I : Type 0} (value : I → ℤ) (w : Width) (points : List (IntPoint I)) (k : ℕ) (last first : IntPoint I) (before product after : ℤ)
    → length points ≡ suc k → last ≡ get_or points k last → first ≡ get_or points 0 first
    → before ≡ int_wrap w (area_up_to (contour_of value points) k) → product ≡ cross_of (point_of value last) (point_of value first) → after ≡ int_wrap w (before +ℤ product)
    → after ≡ int_wrap w (shoelace (contour_of value points))
summed-closed value w [] k last first before product after long read read_first s f e = absurd (omega arith)
summed-closed value w (p ∷ ps) k last first before product after long read read_first s f e =
    let c = contour_of value (p ∷ ps) in
    let there = read-point value (p ∷ ps) k last (omega arith) read in
    wrapped-more w before after (area_up_to c k) (cross_of (point_at c k) (point_of value p)) s
    (e ∙ ap (λ (z : ℤ). int_wrap w (before +ℤ z)) (f ∙ ap (λ (q : Point). cross_of q (point_of value first)) there ∙ ap (λ (q : IntPoint _). cross_of (point_at c k) (point_of value q)) read_first))
    ∙ ap (int_wrap w) (sym (shoelace_by_places (point_of value p) (contour_of value ps) k (omega (arith, length-contour value ps))))
