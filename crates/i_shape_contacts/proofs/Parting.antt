-- Points a, b and e on one line: the segment from a to e lies within those from a to b and from b to e.
use Rattle.std.proofs.Common.{◌≡◌, [], ◌∷◌, ℤ, pos, ◌+ℤ◌, ◌-ℤ◌, ◌*ℤ◌, neg_ℤ, ◌≤ℤ◌, ◌<ℤ◌, refl, ap, ◌∙◌, arith, ◌⊎◌, inl, inr}
use Rattle.std.proofs.lemmas.Int.{ints}
use Rattle.i_shape_core.specs.Point.{Point, cross, vector, dot_of}
use Rattle.i_shape_core.proofs.Arithmetic.Polynomials.{Term, number, variable, plus, times, minus, by_polynomials}
use Rattle.i_shape_core.proofs.Arithmetic.WholeNumbers.{squares_not_negative, squares_zero, zero_of_positive, equal_of_difference, drop_last}
use Rattle.i_shape_core.proofs.Plane.CrossProducts.{Place, coordinates, cross_term, A, B, C}
use Rattle.i_shape_contacts.specs.Meeting.{IsOnSegment, IsPoint}
use Rattle.i_shape_contacts.proofs.Signs.{product_least, product_positive, compared}

-- ---- multiples
-- k times a point
abbrev pub times_point : ℤ → Point → Point
times_point k p = record { x = k *ℤ p.x; y = k *ℤ p.y }

-- as many times a greater number is greater
times_most : (k s d : ℤ) → pos 0 ≤ℤ k → s ≤ℤ d → (k *ℤ s) ≤ℤ (k *ℤ d)
times_most k s d hk h = close (k *ℤ s) (k *ℤ d) (k *ℤ (d -ℤ s)) parts (product_least k (d -ℤ s) hk (room s d h))
  where
    parts : k *ℤ (d -ℤ s) ≡ k *ℤ d -ℤ k *ℤ s
    parts = by_polynomials (k ∷ s ∷ d ∷ []) (times (variable 0) (plus (variable 2) (minus (variable 1)))) (plus (times (variable 0) (variable 2)) (minus (times (variable 0) (variable 1)))) refl

    room : (s d : ℤ) → s ≤ℤ d → pos 0 ≤ℤ (d -ℤ s)
    room s d h = omega (arith, ints)

    close : (x y z : ℤ) → z ≡ y -ℤ x → pos 0 ≤ℤ z → x ≤ℤ y
    close x y z e h = omega (arith, ints)

weakly : (z : ℤ) → pos 0 <ℤ z → pos 0 ≤ℤ z
weakly z h = omega (arith, ints)

-- a factor beside a positive one is positive where the product is
factor_positive : (u z : ℤ) → pos 0 <ℤ u → pos 0 <ℤ (u *ℤ z) → pos 0 <ℤ z
factor_positive u z hu h = elim (compared z (pos 0)) [
  | inl low ↦ absurd (clash (u *ℤ z) (u *ℤ pos 0) (none u) (times_most u z (pos 0) (weakly u hu) low) h)
  | inr high ↦ high
]
  where
    none : (u : ℤ) → u *ℤ pos 0 ≡ pos 0
    none u = omega (arith, ints)

    clash : (p q : ℤ) → q ≡ pos 0 → p ≤ℤ q → pos 0 <ℤ p → ⊥
    clash p q e h k = omega (arith, ints)

-- a segment's point has any denominator that is a multiple of one
pub segment_scaled : (k d : ℤ) (p a b : Point) → pos 0 <ℤ k → IsOnSegment d p a b → IsOnSegment (k *ℤ d) (times_point k p) a b
segment_scaled k d p a b some h = record {
  share = k *ℤ h.share;
  least = product_least k h.share (weakly k some) h.least;
  most = times_most k h.share d (weakly k some) h.most;
  x = ap (λ (z : ℤ). k *ℤ z) h.x ∙ spread k d h.share a.x b.x;
  y = ap (λ (z : ℤ). k *ℤ z) h.y ∙ spread k d h.share a.y b.y;
}
  where
    spread : (k d s a b : ℤ) → k *ℤ (d *ℤ a +ℤ s *ℤ (b -ℤ a)) ≡ (k *ℤ d) *ℤ a +ℤ (k *ℤ s) *ℤ (b -ℤ a)
    spread k d s a b = by_polynomials (k ∷ d ∷ s ∷ a ∷ b ∷ [])
        (times (variable 0) (plus (times (variable 1) (variable 3)) (times (variable 2) (plus (variable 4) (minus (variable 3))))))
        (plus (times (times (variable 0) (variable 1)) (variable 3)) (times (times (variable 0) (variable 2)) (plus (variable 4) (minus (variable 3))))) refl

-- a point is the same with each denominator
pub point_unscaled : (k d : ℤ) (p q : Point) → pos 0 <ℤ k → IsPoint (k *ℤ d) (times_point k p) q → IsPoint d p q
point_unscaled k d p q some h = record { x = divided p.x q.x h.x; y = divided p.y q.y h.y }
  where
    less : (x y : ℤ) → k *ℤ (x -ℤ d *ℤ y) ≡ k *ℤ x -ℤ (k *ℤ d) *ℤ y
    less x y = by_polynomials (k ∷ d ∷ x ∷ y ∷ [])
        (times (variable 0) (plus (variable 2) (minus (times (variable 1) (variable 3)))))
        (plus (times (variable 0) (variable 2)) (minus (times (times (variable 0) (variable 1)) (variable 3)))) refl

    nothing : (u v : ℤ) → u ≡ v → u -ℤ v ≡ pos 0
    nothing u v e = omega (arith, ints)

    divided : (x y : ℤ) → k *ℤ x ≡ (k *ℤ d) *ℤ y → x ≡ d *ℤ y
    divided x y e = equal_of_difference x (d *ℤ y) (zero_of_positive k (x -ℤ d *ℤ y) some (less x y ∙ nothing (k *ℤ x) ((k *ℤ d) *ℤ y) e))

-- ---- parts
-- p divided by d, with a common multiple of the denominators, lies on one of two segments
pub record Parted (d : ℤ) (p a b e : Point) : Type 0 where
  pub factor : ℤ
  pub positive : pos 0 <ℤ factor
  pub on : IsOnSegment (factor *ℤ d) (times_point factor p) a b ⊎ IsOnSegment (factor *ℤ d) (times_point factor p) b e

-- the dot product of the vectors from a to b and from a to e
unfoldable along : Point → Point → Point → ℤ
along a b e = dot_of (vector a b) (vector a e)

abbrev from : Term → Term → Term
from s t = plus t (minus s)

abbrev along_term : Place → Place → Place → Term
along_term a b e = plus (times (from a.x b.x) (from a.x e.x)) (times (from a.y b.y) (from a.y e.y))

-- how far b lies on the way from a to e
parallel_x : (a b e : Point) → cross a b e ≡ pos 0 → along a e e *ℤ (b.x -ℤ a.x) -ℤ along a b e *ℤ (e.x -ℤ a.x) ≡ pos 0
unfolding along cross
parallel_x a b e z = drop_last (along a e e *ℤ (b.x -ℤ a.x) -ℤ along a b e *ℤ (e.x -ℤ a.x)) (pos 0) (e.y -ℤ a.y) (cross a b e)
    (by_polynomials (coordinates (a ∷ b ∷ e ∷ []))
    (plus (times (along_term A C C) (from A.x B.x)) (minus (times (along_term A B C) (from A.x C.x))))
    (plus (number (pos 0)) (times (from A.y C.y) (cross_term A B C))) refl) z

parallel_y : (a b e : Point) → cross a b e ≡ pos 0 → along a e e *ℤ (b.y -ℤ a.y) -ℤ along a b e *ℤ (e.y -ℤ a.y) ≡ pos 0
unfolding along cross
parallel_y a b e z = drop_last (along a e e *ℤ (b.y -ℤ a.y) -ℤ along a b e *ℤ (e.y -ℤ a.y)) (pos 0) (a.x -ℤ e.x) (cross a b e)
    (by_polynomials (coordinates (a ∷ b ∷ e ∷ []))
    (plus (times (along_term A C C) (from A.y B.y)) (minus (times (along_term A B C) (from A.y C.y))))
    (plus (number (pos 0)) (times (from C.x A.x) (cross_term A B C))) refl) z

along_least : (a e : Point) → pos 0 ≤ℤ along a e e
unfolding along
along_least a e = squares_not_negative (e.x -ℤ a.x) (e.y -ℤ a.y)

no_way_along : (a e : Point) → along a e e ≡ pos 0 → (e.x -ℤ a.x ≡ pos 0) × (e.y -ℤ a.y ≡ pos 0)
unfolding along
no_way_along a e z = squares_zero (e.x -ℤ a.x) (e.y -ℤ a.y) z

-- of numbers on a line, r parts in q of the way from a to e lies b
module _ (a b e d s q r p : ℤ) (is : p ≡ d *ℤ a +ℤ s *ℤ (e -ℤ a)) (line : q *ℤ (b -ℤ a) -ℤ r *ℤ (e -ℤ a) ≡ pos 0) where
  first_part : r *ℤ p ≡ (r *ℤ d) *ℤ a +ℤ (s *ℤ q) *ℤ (b -ℤ a)
  first_part = drop_last (r *ℤ p) ((r *ℤ d) *ℤ a +ℤ (s *ℤ q) *ℤ (b -ℤ a)) (neg_ℤ s) (q *ℤ (b -ℤ a) -ℤ r *ℤ (e -ℤ a)) (ap (λ (z : ℤ). r *ℤ z) is ∙ same) line
    where
      same : r *ℤ (d *ℤ a +ℤ s *ℤ (e -ℤ a)) ≡ ((r *ℤ d) *ℤ a +ℤ (s *ℤ q) *ℤ (b -ℤ a)) +ℤ neg_ℤ s *ℤ (q *ℤ (b -ℤ a) -ℤ r *ℤ (e -ℤ a))
      same = by_polynomials (a ∷ b ∷ e ∷ d ∷ s ∷ q ∷ r ∷ [])
          (times (variable 6) (plus (times (variable 3) (variable 0)) (times (variable 4) (from (variable 0) (variable 2)))))
          (plus (plus (times (times (variable 6) (variable 3)) (variable 0)) (times (times (variable 4) (variable 5)) (from (variable 0) (variable 1))))
          (times (minus (variable 4)) (plus (times (variable 5) (from (variable 0) (variable 1))) (minus (times (variable 6) (from (variable 0) (variable 2))))))) refl

  second_part : (q -ℤ r) *ℤ p ≡ ((q -ℤ r) *ℤ d) *ℤ b +ℤ (s *ℤ q -ℤ d *ℤ r) *ℤ (e -ℤ b)
  second_part = drop_last ((q -ℤ r) *ℤ p) (((q -ℤ r) *ℤ d) *ℤ b +ℤ (s *ℤ q -ℤ d *ℤ r) *ℤ (e -ℤ b)) (s -ℤ d) (q *ℤ (b -ℤ a) -ℤ r *ℤ (e -ℤ a)) (ap (λ (z : ℤ). (q -ℤ r) *ℤ z) is ∙ same) line
    where
      same : (q -ℤ r) *ℤ (d *ℤ a +ℤ s *ℤ (e -ℤ a)) ≡ (((q -ℤ r) *ℤ d) *ℤ b +ℤ (s *ℤ q -ℤ d *ℤ r) *ℤ (e -ℤ b)) +ℤ (s -ℤ d) *ℤ (q *ℤ (b -ℤ a) -ℤ r *ℤ (e -ℤ a))
      same = by_polynomials (a ∷ b ∷ e ∷ d ∷ s ∷ q ∷ r ∷ [])
          (times (from (variable 6) (variable 5)) (plus (times (variable 3) (variable 0)) (times (variable 4) (from (variable 0) (variable 2)))))
          (plus (plus (times (times (from (variable 6) (variable 5)) (variable 3)) (variable 1)) (times (plus (times (variable 4) (variable 5)) (minus (times (variable 3) (variable 6)))) (from (variable 1) (variable 2))))
          (times (from (variable 3) (variable 4)) (plus (times (variable 5) (from (variable 0) (variable 1))) (minus (times (variable 6) (from (variable 0) (variable 2))))))) refl

-- a lies on the first
at_start : (d : ℤ) (p a b e : Point) → pos 0 <ℤ d → p.x ≡ d *ℤ a.x → p.y ≡ d *ℤ a.y → Parted d p a b e
at_start d p a b e some x y = record {
  factor = pos 1;
  positive = omega (arith, ints);
  on = inl (record { share = pos 0; least = omega (arith, ints); most = once d some; x = ap (λ (z : ℤ). pos 1 *ℤ z) x ∙ still d a.x b.x; y = ap (λ (z : ℤ). pos 1 *ℤ z) y ∙ still d a.y b.y });
}
  where
    once : (d : ℤ) → pos 0 <ℤ d → pos 0 ≤ℤ (pos 1 *ℤ d)
    once d h = omega (arith, ints)

    still : (d a b : ℤ) → pos 1 *ℤ (d *ℤ a) ≡ (pos 1 *ℤ d) *ℤ a +ℤ pos 0 *ℤ (b -ℤ a)
    still d a b = by_polynomials (d ∷ a ∷ b ∷ [])
        (times (number (pos 1)) (times (variable 0) (variable 1)))
        (plus (times (times (number (pos 1)) (variable 0)) (variable 1)) (times (number (pos 0)) (from (variable 1) (variable 2)))) refl

-- a point of the segment from a to e lies on one of the others
pub parted : (d : ℤ) (p a b e : Point) → pos 0 <ℤ d → cross a b e ≡ pos 0 → IsOnSegment d p a e → Parted d p a b e
parted d p a b e some z h = elim (compared q (pos 0)) [
  | inl low ↦ (let none = no_way_along a e (nothing q low (along_least a e)) in at_start d p a b e some (h.x ∙ stays d s a.x (e.x -ℤ a.x) (inr none.0)) (h.y ∙ stays d s a.y (e.y -ℤ a.y) (inr none.1)))
  | inr way ↦ elim (compared s (pos 0)) [
    | inl low ↦ at_start d p a b e some (h.x ∙ stays d s a.x (e.x -ℤ a.x) (inl (nothing s low h.least))) (h.y ∙ stays d s a.y (e.y -ℤ a.y) (inl (nothing s low h.least)))
    | inr above ↦ elim (compared (s *ℤ q) (d *ℤ r)) [
      | inl before ↦ record {
        factor = r;
        positive = factor_positive d r some (below_then (pos 0) (s *ℤ q) (d *ℤ r) (product_positive s q above way) before);
        on = inl (record {
          share = s *ℤ q;
          least = weakly (s *ℤ q) (product_positive s q above way);
          most = turned_most (s *ℤ q) d r before;
          x = first_part a.x b.x e.x d s q r p.x h.x (parallel_x a b e z);
          y = first_part a.y b.y e.y d s q r p.y h.y (parallel_y a b e z);
        });
      }
      | inr after ↦ record {
        factor = q -ℤ r;
        positive = factor_positive d (q -ℤ r) some (left_over d q r (s *ℤ q) after (at_most s d q h.most way));
        on = inr (record {
          share = s *ℤ q -ℤ d *ℤ r;
          least = ahead (s *ℤ q) (d *ℤ r) after;
          most = rest_most d q r (s *ℤ q) (at_most s d q h.most way);
          x = second_part a.x b.x e.x d s q r p.x h.x (parallel_x a b e z);
          y = second_part a.y b.y e.y d s q r p.y h.y (parallel_y a b e z);
        });
      }
    ]
  ]
]
  where
    s : ℤ
    s = h.share

    q : ℤ
    q = along a e e

    r : ℤ
    r = along a b e

    nothing : (u : ℤ) → u ≤ℤ pos 0 → pos 0 ≤ℤ u → u ≡ pos 0
    nothing u h k = omega (arith, ints)

    stays : (d s a v : ℤ) → (s ≡ pos 0) ⊎ (v ≡ pos 0) → d *ℤ a +ℤ s *ℤ v ≡ d *ℤ a
    stays d s a v (inl f) = drop_first (d *ℤ a) s v f
      where
        drop_first : (u s v : ℤ) → s ≡ pos 0 → u +ℤ s *ℤ v ≡ u
        drop_first u s v f = ap (λ (t : ℤ). u +ℤ t *ℤ v) f ∙ by_polynomials (u ∷ v ∷ []) (plus (variable 0) (times (number (pos 0)) (variable 1))) (variable 0) refl
    stays d s a v (inr f) = drop_last (d *ℤ a +ℤ s *ℤ v) (d *ℤ a) s v refl f

    below_then : (u v w : ℤ) → u <ℤ v → v ≤ℤ w → u <ℤ w
    below_then u v w h k = omega (arith, ints)

    swapped : (d r : ℤ) → d *ℤ r ≡ r *ℤ d
    swapped d r = by_polynomials (d ∷ r ∷ []) (times (variable 0) (variable 1)) (times (variable 1) (variable 0)) refl

    turned_most : (u d r : ℤ) → u ≤ℤ (d *ℤ r) → u ≤ℤ (r *ℤ d)
    turned_most u d r h = close u (d *ℤ r) (r *ℤ d) (swapped d r) h
      where
        close : (u v w : ℤ) → v ≡ w → u ≤ℤ v → u ≤ℤ w
        close u v w e h = omega (arith, ints)

    at_most : (s d q : ℤ) → s ≤ℤ d → pos 0 <ℤ q → (s *ℤ q) ≤ℤ (d *ℤ q)
    at_most s d q h k = close (s *ℤ q) (d *ℤ q) (q *ℤ s) (q *ℤ d) (swapped s q) (swapped d q) (times_most q s d (weakly q k) h)
      where
        close : (u v u' v' : ℤ) → u ≡ u' → v ≡ v' → u' ≤ℤ v' → u ≤ℤ v
        close u v u' v' e f h = omega (arith, ints)

    left_over : (d q r u : ℤ) → (d *ℤ r) <ℤ u → u ≤ℤ (d *ℤ q) → pos 0 <ℤ (d *ℤ (q -ℤ r))
    left_over d q r u h k = close (d *ℤ (q -ℤ r)) (d *ℤ q) (d *ℤ r) u
        (by_polynomials (d ∷ q ∷ r ∷ []) (times (variable 0) (from (variable 2) (variable 1))) (plus (times (variable 0) (variable 1)) (minus (times (variable 0) (variable 2)))) refl) h k
      where
        close : (w v t u : ℤ) → w ≡ v -ℤ t → t <ℤ u → u ≤ℤ v → pos 0 <ℤ w
        close w v t u e h k = omega (arith, ints)

    ahead : (u v : ℤ) → v <ℤ u → pos 0 ≤ℤ (u -ℤ v)
    ahead u v h = omega (arith, ints)

    rest_most : (d q r u : ℤ) → u ≤ℤ (d *ℤ q) → (u -ℤ d *ℤ r) ≤ℤ ((q -ℤ r) *ℤ d)
    rest_most d q r u h = close ((q -ℤ r) *ℤ d) (d *ℤ q) (d *ℤ r) u
        (by_polynomials (d ∷ q ∷ r ∷ []) (times (from (variable 2) (variable 1)) (variable 0)) (plus (times (variable 0) (variable 1)) (minus (times (variable 0) (variable 2)))) refl) h
      where
        close : (w v t u : ℤ) → w ≡ v -ℤ t → u ≤ℤ v → (u -ℤ t) ≤ℤ w
        close w v t u e h = omega (arith, ints)
