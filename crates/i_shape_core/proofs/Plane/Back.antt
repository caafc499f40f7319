-- Points at which a path goes back, and points at which it goes straight on.
use Rattle.std.proofs.Common.{◌≡◌, zero, suc, [], ◌∷◌, ℤ, pos, negsuc, ◌+ℤ◌, ◌-ℤ◌, ◌*ℤ◌, neg_ℤ, ◌<ℤ◌, ◌≤ℤ◌, refl, sym, ap, subst, ◌∙◌, arith, ◌⊎◌, inl, inr}
use Rattle.std.proofs.lemmas.Int.{ints}
use Rattle.std.proofs.Math.IntN.{*ℤ-zero}
use Rattle.i_shape_core.specs.Point.{Point, cross, dot, IsBack}
use Rattle.i_shape_core.proofs.Arithmetic.Polynomials.{Term, number, plus, times, minus, by_polynomials}
use Rattle.i_shape_core.proofs.Arithmetic.WholeNumbers.{zero_product, equal_of_difference, squares_not_negative, squares_zero, zero_of_positive, not_positive_of, sum_above, drop_last, low_of_zero}
use Rattle.i_shape_core.proofs.Plane.CrossProducts.{Place, coordinates, cross_term, dot_term, A, B, C, D, triangle_identity, zero_reversed, dot_reversed, same_point, cross-same}

-- the squared distance of a and b
unfoldable pub way_squared : Point → Point → ℤ
way_squared a b = (b.x -ℤ a.x) *ℤ (b.x -ℤ a.x) +ℤ (b.y -ℤ a.y) *ℤ (b.y -ℤ a.y)

-- the squared distance of two points, as a polynomial
abbrev pub square_term : Place → Place → Term
square_term a b = plus (times (plus b.x (minus a.x)) (plus b.x (minus a.x))) (times (plus b.y (minus a.y)) (plus b.y (minus a.y)))

-- a squared distance isn't negative
pub square_at_least : (a b : Point) → pos 0 ≤ℤ way_squared a b
unfolding way_squared
square_at_least a b = squares_not_negative (b.x -ℤ a.x) (b.y -ℤ a.y)

-- points at distance 0 are equal
pub equal_of_distance : (a b : Point) → way_squared a b ≡ pos 0 → a ≡ b
unfolding way_squared
equal_of_distance a b e = let z = squares_zero (b.x -ℤ a.x) (b.y -ℤ a.y) e in
    sym (same_point b a (equal_of_difference b.x a.x z.0) (equal_of_difference b.y a.y z.1))

-- the product of two squared lengths is the sum of the squared cross and dot products
squares : (a b c : Point) → way_squared a b *ℤ way_squared b c ≡ cross a b c *ℤ cross a b c +ℤ dot a b c *ℤ dot a b c
unfolding way_squared cross dot
squares a b c = by_polynomials (coordinates (a ∷ b ∷ c ∷ [])) (times (square_term A B) (square_term B C)) (plus (times (cross_term A B C) (cross_term A B C)) (times (dot_term A B C) (dot_term A B C))) refl

-- the dot product with a last edge of length 0 is 0
pub dot-same : (a p : Point) → dot a p p ≡ pos 0
unfolding dot
dot-same a p = by_polynomials (coordinates (a ∷ p ∷ [])) (dot_term A B B) (number (pos 0)) refl

-- the dot product with a first edge of length 0 is 0
pub dot_same-first : (a p : Point) → dot a a p ≡ pos 0
unfolding dot
dot_same-first a p = by_polynomials (coordinates (a ∷ p ∷ [])) (dot_term A A B) (number (pos 0)) refl

-- the cross product with a first edge of length 0 is 0
pub cross_same-first : (a p : Point) → cross a a p ≡ pos 0
unfolding cross
cross_same-first a p = by_polynomials (coordinates (a ∷ p ∷ [])) (cross_term A A B) (number (pos 0)) refl

-- a path to a point and back goes back there
pub there_and_back : (a b : Point) → IsBack a b a
unfolding way_squared cross dot
there_and_back a b = (
  by_polynomials (coordinates (a ∷ b ∷ [])) (cross_term A B A) (number (pos 0)) refl,
  not_above (way_squared a b) (dot a b a) (square_at_least a b) (by_polynomials (coordinates (a ∷ b ∷ [])) (dot_term A B A) (minus (square_term A B)) refl),
)
  where
    not_above : (s d : ℤ) → pos 0 ≤ℤ s → d ≡ neg_ℤ s → d ≤ℤ pos 0
    not_above s d h e = omega (arith, ints)

sign : (d : ℤ) → d ≤ℤ pos 0 → (d ≡ pos 0) ⊎ (d <ℤ pos 0)
sign (pos zero) h = inl refl
sign (pos (suc n)) h = absurd (omega (arith, ints))
sign (negsuc n) h = inr (omega (arith, ints))

zeros_squared : (x y : ℤ) → x ≡ pos 0 → y ≡ pos 0 → x *ℤ x +ℤ y *ℤ y ≡ pos 0
zeros_squared x y e f = rw (e, f) refl

-- a path goes back only at a point that equals a neighbour, or at a reversal
pub back_cases : (a b c : Point) → IsBack a b c → (a ≡ b) ⊎ ((b ≡ c) ⊎ ((cross a b c ≡ pos 0) × (dot a b c <ℤ pos 0)))
back_cases a b c h = go (sign (dot a b c) h.1)
  where
    points : (way_squared a b ≡ pos 0) ⊎ (way_squared b c ≡ pos 0) → (a ≡ b) ⊎ ((b ≡ c) ⊎ ((cross a b c ≡ pos 0) × (dot a b c <ℤ pos 0)))
    points (inl e) = inl (equal_of_distance a b e)
    points (inr e) = inr (inl (equal_of_distance b c e))

    go : (dot a b c ≡ pos 0) ⊎ (dot a b c <ℤ pos 0) → (a ≡ b) ⊎ ((b ≡ c) ⊎ ((cross a b c ≡ pos 0) × (dot a b c <ℤ pos 0)))
    go (inr l) = inr (inr (h.0, l))
    go (inl e) = points (zero_product (way_squared a b) (way_squared b c) (squares a b c ∙ zeros_squared (cross a b c) (dot a b c) h.0 e))

-- a path goes back at a point that equals a neighbour, or at a reversal
pub back_from_cases : (a b c : Point) → (a ≡ b) ⊎ ((b ≡ c) ⊎ ((cross a b c ≡ pos 0) × (dot a b c <ℤ pos 0))) → IsBack a b c
back_from_cases a b c (inl e) = subst (λ (q : Point). IsBack a q c) e (cross_same-first a c, low_of_zero (dot a a c) (dot_same-first a c))
back_from_cases a b c (inr (inl e)) = subst (λ (q : Point). IsBack a b q) e (cross-same a b, low_of_zero (dot a b b) (dot-same a b))
back_from_cases a b c (inr (inr h)) = (h.0, omega (arith, ints, h.1))

-- ---- a straight point
pub back_reversed : (a b c : Point) → IsBack c b a → IsBack a b c
back_reversed a b c h = (zero_reversed c b a h.0, subst (λ (d : ℤ). d ≤ℤ pos 0) (dot_reversed a b c) h.1)

-- `cross x a b` times the squared distance of a and p, by `cross x a p` and `cross a p b`
pub straight_cross : (x a p b : Point) → way_squared a p *ℤ cross x a b ≡ (way_squared a p +ℤ dot a p b) *ℤ cross x a p +ℤ dot x a p *ℤ cross a p b
unfolding way_squared cross dot
straight_cross x a p b = by_polynomials (coordinates (x ∷ a ∷ p ∷ b ∷ []))
    (times (square_term B C) (cross_term A B D))
    (plus (times (plus (square_term B C) (dot_term B C D)) (cross_term A B C)) (times (dot_term A B C) (cross_term B C D))) refl

straight_dot : (x a p b : Point) → way_squared a p *ℤ dot x a b ≡ (way_squared a p +ℤ dot a p b) *ℤ dot x a p +ℤ neg_ℤ (cross x a p) *ℤ cross a p b
unfolding way_squared cross dot
straight_dot x a p b = by_polynomials (coordinates (x ∷ a ∷ p ∷ b ∷ []))
    (times (square_term B C) (dot_term A B D))
    (plus (times (plus (square_term B C) (dot_term B C D)) (dot_term A B C)) (times (minus (cross_term A B C)) (cross_term B C D))) refl

-- if p is straight, and the path goes back at a without p, it goes back at a with p
pub back_before_straight : (x a p b : Point) → cross a p b ≡ pos 0 → pos 0 <ℤ dot a p b → IsBack x a b → IsBack x a p
back_before_straight x a p b e l h = (
  zero_of_positive s (cross x a p) above (sym (drop_last (way_squared a p *ℤ cross x a b) (s *ℤ cross x a p) (dot x a p) (cross a p b) (straight_cross x a p b) e) ∙ ap (λ (z : ℤ). way_squared a p *ℤ z) h.0 ∙ *ℤ-zero (way_squared a p)),
  not_positive_of (way_squared a p) s (dot x a b) (dot x a p) (square_at_least a p) above (drop_last (way_squared a p *ℤ dot x a b) (s *ℤ dot x a p) (neg_ℤ (cross x a p)) (cross a p b) (straight_dot x a p b) e) h.1,
)
  where
    s : ℤ
    s = way_squared a p +ℤ dot a p b

    above : pos 0 <ℤ (way_squared a p +ℤ dot a p b)
    above = sum_above (way_squared a p) (dot a p b) (square_at_least a p) l

-- if p is straight between a and b, and the path from a goes back at b, so does the path from p
pub back_after_straight : (a p b y : Point) → cross a p b ≡ pos 0 → pos 0 <ℤ dot a p b → IsBack a b y → IsBack p b y
back_after_straight a p b y e l h =
    back_reversed p b y (back_before_straight y b p a (zero_reversed a p b e) (subst (λ (d : ℤ). pos 0 <ℤ d) (sym (dot_reversed a p b)) l) (back_reversed y b a h))

-- ---- a triangle without area
three_dots : (a b c : Point) → (dot a b c +ℤ dot b c a) +ℤ dot c a b +ℤ ((dot a b c +ℤ dot b c a) +ℤ dot c a b) ≡ neg_ℤ ((way_squared a b +ℤ way_squared b c) +ℤ way_squared c a)
unfolding way_squared dot
three_dots a b c = by_polynomials (coordinates (a ∷ b ∷ c ∷ []))
    (plus (plus (plus (dot_term A B C) (dot_term B C A)) (dot_term C A B)) (plus (plus (dot_term A B C) (dot_term B C A)) (dot_term C A B)))
    (minus (plus (plus (square_term A B) (square_term B C)) (square_term C A))) refl

-- each number is at most 0 or above it
pub low_or_above : (d : ℤ) → (d ≤ℤ pos 0) ⊎ (pos 0 <ℤ d)
low_or_above (pos zero) = inl (omega (arith, ints))
low_or_above (pos (suc n)) = inr (omega (arith, ints))
low_or_above (negsuc n) = inl (omega (arith, ints))

-- a flat triangle goes back at one of its points
pub flat_triangle : (a b c : Point) → cross a b c ≡ pos 0 → IsBack a b c ⊎ (IsBack b c a ⊎ IsBack c a b)
flat_triangle a b c e = go (low_or_above (dot a b c)) (low_or_above (dot b c a)) (low_or_above (dot c a b))
  where
    none : (d f g p q r : ℤ) → pos 0 <ℤ d → pos 0 <ℤ f → pos 0 <ℤ g → pos 0 ≤ℤ p → pos 0 ≤ℤ q → pos 0 ≤ℤ r → (d +ℤ f) +ℤ g +ℤ ((d +ℤ f) +ℤ g) ≡ neg_ℤ ((p +ℤ q) +ℤ r) → ⊥
    none d f g p q r h₁ h₂ h₃ h₄ h₅ h₆ e = omega (arith, ints)

    go : (dot a b c ≤ℤ pos 0) ⊎ (pos 0 <ℤ dot a b c) → (dot b c a ≤ℤ pos 0) ⊎ (pos 0 <ℤ dot b c a) → (dot c a b ≤ℤ pos 0) ⊎ (pos 0 <ℤ dot c a b) → IsBack a b c ⊎ (IsBack b c a ⊎ IsBack c a b)
    go (inl h) s t = inl (e, h)
    go (inr h) (inl k) t = inr (inl (sym (triangle_identity a b c) ∙ e, k))
    go (inr h) (inr k) (inl m) = inr (inr (triangle_identity c a b ∙ e, m))
    go (inr h) (inr k) (inr m) = absurd (none _ _ _ _ _ _ h k m (square_at_least a b) (square_at_least b c) (square_at_least c a) (three_dots a b c))
