-- Cross and dot products of up to four points.
use Rattle.std.proofs.Common.{◌≡◌, List, [], ◌∷◌, ℤ, pos, ◌+ℤ◌, ◌-ℤ◌, ◌*ℤ◌, neg_ℤ, refl, sym, ap, ◌∙◌, arith, ◌⊎◌, inl, inr}
use Rattle.std.proofs.lemmas.Int.{ints}
use Rattle.i_shape_core.specs.Point.{Point, cross, dot}
use Rattle.i_shape_core.specs.Edges.{Edge, area_of_edge}
use Rattle.i_shape_core.proofs.Arithmetic.WholeNumbers.{zero_product, sum_of_zeros, equal_of_difference}
use Rattle.i_shape_core.proofs.Arithmetic.Polynomials.{Term, number, variable, plus, times, minus, by_polynomials}

-- ---- points and their products as terms
pub record Place : Type 0 where
  pub x : Term
  pub y : Term

-- the cross product of three points as a polynomial
abbrev pub cross_term : Place → Place → Place → Term
cross_term a b c = plus (times (plus b.x (minus a.x)) (plus c.y (minus b.y))) (minus (times (plus b.y (minus a.y)) (plus c.x (minus b.x))))

-- the dot product at three points as a polynomial
abbrev pub dot_term : Place → Place → Place → Term
dot_term a b c = plus (times (plus b.x (minus a.x)) (plus c.x (minus b.x))) (times (plus b.y (minus a.y)) (plus c.y (minus b.y)))

-- what an edge adds to the double area, as a polynomial
abbrev pub area_term : Place → Place → Term
area_term a b = plus (times a.x b.y) (minus (times a.y b.x))

-- the first point of the list
abbrev pub A : Place
A = record { x = variable 0; y = variable 1 }

-- the second point
abbrev pub B : Place
B = record { x = variable 2; y = variable 3 }

-- the third
abbrev pub C : Place
C = record { x = variable 4; y = variable 5 }

-- the fourth
abbrev pub D : Place
D = record { x = variable 6; y = variable 7 }

-- the values of the variables
abbrev pub coordinates : List Point → List ℤ
coordinates [] = []
coordinates (p ∷ ps) = p.x ∷ p.y ∷ coordinates ps

-- ---- the identities
pub triangle_identity : (a b c : Point) → cross a b c ≡ cross b c a
unfolding cross
triangle_identity a b c = by_polynomials (coordinates (a ∷ b ∷ c ∷ [])) (cross_term A B C) (cross_term B C A) refl

-- reversing the path negates the cross product
pub cross_reversed : (a b c : Point) → cross c b a ≡ neg_ℤ (cross a b c)
unfolding cross
cross_reversed a b c = by_polynomials (coordinates (a ∷ b ∷ c ∷ [])) (cross_term C B A) (minus (cross_term A B C)) refl

-- reversing a zero turn leaves a zero turn
pub zero_reversed : (a b c : Point) → cross a b c ≡ pos 0 → cross c b a ≡ pos 0
zero_reversed a b c e = omega (arith, ints, cross_reversed a b c)

-- reversing the path keeps the dot product
pub dot_reversed : (a b c : Point) → dot c b a ≡ dot a b c
unfolding dot
dot_reversed a b c = by_polynomials (coordinates (a ∷ b ∷ c ∷ [])) (dot_term C B A) (dot_term A B C) refl

-- the cross product with a last edge of length 0 is 0
pub cross-same : (a p : Point) → cross a p p ≡ pos 0
unfolding cross
cross-same a p = by_polynomials (coordinates (a ∷ p ∷ [])) (cross_term A B B) (number (pos 0)) refl

-- the edge between two points
abbrev pub edge : Point → Point → Edge
edge a b = record { start = a; end = b }

-- the areas of the edges ap and pb add up to that of ab and the cross product at p
pub area_of_two : (a p b : Point) → area_of_edge (edge a p) +ℤ area_of_edge (edge p b) ≡ area_of_edge (edge a b) +ℤ cross a p b
unfolding cross area_of_edge
area_of_two a p b = by_polynomials (coordinates (a ∷ p ∷ b ∷ [])) (plus (area_term A B) (area_term B C)) (plus (area_term A C) (cross_term A B C)) refl

-- `cross a q b` times the x from p to q, by `cross p q b` and `cross a p q`
slide_x : (a p q b : Point) → (q.x -ℤ p.x) *ℤ cross a q b ≡ (q.x -ℤ a.x) *ℤ cross p q b +ℤ (b.x -ℤ q.x) *ℤ cross a p q
unfolding cross
slide_x a p q b = by_polynomials (coordinates (a ∷ p ∷ q ∷ b ∷ [])) (times (plus C.x (minus B.x)) (cross_term A C D)) (plus (times (plus C.x (minus A.x)) (cross_term B C D)) (times (plus D.x (minus C.x)) (cross_term A B C))) refl

slide_y : (a p q b : Point) → (q.y -ℤ p.y) *ℤ cross a q b ≡ (q.y -ℤ a.y) *ℤ cross p q b +ℤ (b.y -ℤ q.y) *ℤ cross a p q
unfolding cross
slide_y a p q b = by_polynomials (coordinates (a ∷ p ∷ q ∷ b ∷ [])) (times (plus C.y (minus B.y)) (cross_term A C D)) (plus (times (plus C.y (minus A.y)) (cross_term B C D)) (times (plus D.y (minus C.y)) (cross_term A B C))) refl

-- the cross products of a quadrilateral cut along either diagonal have the same sum
pub four_points : (a p q b : Point) → cross a p b +ℤ cross p q b ≡ cross a p q +ℤ cross a q b
unfolding cross
four_points a p q b = by_polynomials (coordinates (a ∷ p ∷ q ∷ b ∷ [])) (plus (cross_term A B D) (cross_term B C D)) (plus (cross_term A B C) (cross_term A C D)) refl

-- points with equal coordinates are equal
pub same_point : (p q : Point) → p.x ≡ q.x → p.y ≡ q.y → p ≡ q
same_point p q e f = λ i. record { x = e i; y = f i }

-- a sum of multiples of 0 is 0
pub both_zero : (u v w : ℤ) (s t : ℤ) → s ≡ pos 0 → t ≡ pos 0 → u ≡ v *ℤ s +ℤ w *ℤ t → u ≡ pos 0
both_zero u v w s t e f g = g ∙ ap (λ (z : ℤ). v *ℤ z +ℤ w *ℤ t) e ∙ ap (λ (z : ℤ). v *ℤ pos 0 +ℤ w *ℤ z) f ∙ sum_of_zeros v w

-- if p and q differ, and a and b lie on their line, b lies on the line of a and q and on that of a and p
pub zero_slides : (a p q b : Point) → cross a p q ≡ pos 0 → cross p q b ≡ pos 0 → (p ≡ q) ⊎ ((cross a q b ≡ pos 0) × (cross a p b ≡ pos 0))
zero_slides a p q b e f = found (zero_product _ _ (both_zero _ _ _ _ _ f e (slide_x a p q b))) (zero_product _ _ (both_zero _ _ _ _ _ f e (slide_y a p q b)))
  where
    found : ((q.x -ℤ p.x ≡ pos 0) ⊎ (cross a q b ≡ pos 0)) → ((q.y -ℤ p.y ≡ pos 0) ⊎ (cross a q b ≡ pos 0)) → (p ≡ q) ⊎ ((cross a q b ≡ pos 0) × (cross a p b ≡ pos 0))
    found (inl h) (inl k) = inl (same_point p q (sym (equal_of_difference _ _ h)) (sym (equal_of_difference _ _ k)))
    found (inr g) k = inr (g, omega (arith, ints, four_points a p q b))
    found (inl h) (inr g) = inr (g, omega (arith, ints, four_points a p q b))
