-- A segment that an edge doesn't meet: what the edge adds to the winding numbers about the segment's ends differs by how
-- far the edge's ends lie beyond the segment, so round a contour nothing is left of it.
use Rattle.std.proofs.Common.{◌≡◌, [], ◌∷◌, ℤ, pos, ◌+ℤ◌, ◌-ℤ◌, ◌*ℤ◌, neg_ℤ, ◌≤ℤ◌, ◌<ℤ◌, refl, ap, arith, inl, inr}
use Rattle.std.proofs.lemmas.Int.{ints}
use Rattle.i_shape_core.specs.Point.{Point, cross}
use Rattle.i_shape_core.proofs.Arithmetic.Polynomials.{Term, variable, plus, times, minus, by_polynomials}
use Rattle.i_shape_core.proofs.Plane.CrossProducts.{coordinates, cross_term, A, B, C, D}
use Rattle.i_shape_contacts.specs.Meeting.{Meet}
use Rattle.i_shape_contacts.proofs.Signs.{compared, product_least, product_positive, mixed_least}
use Rattle.i_shape_contacts.proofs.Crossing.{slant, second_side, fourth_side, crossing_left, crossing_right}

-- ---- orders
pub strictly : (a b : ℤ) → a <ℤ b → a ≤ℤ b
strictly a b h = omega (arith, ints)

up_to : (a b c : ℤ) → a ≤ℤ b → b ≤ℤ c → a ≤ℤ c
up_to a b c h k = omega (arith, ints)

below_then : (a b c : ℤ) → a <ℤ b → b ≤ℤ c → a <ℤ c
below_then a b c h k = omega (arith, ints)

then_below : (a b c : ℤ) → a ≤ℤ b → b <ℤ c → a <ℤ c
then_below a b c h k = omega (arith, ints)

gap : (a b : ℤ) → a <ℤ b → pos 0 <ℤ (b -ℤ a)
gap a b h = omega (arith, ints)

wide : (a b : ℤ) → a ≤ℤ b → pos 0 ≤ℤ (b -ℤ a)
wide a b h = omega (arith, ints)

-- ---- signs
times_negated : (u z : ℤ) → u *ℤ neg_ℤ z ≡ neg_ℤ (u *ℤ z)
times_negated u z = by_polynomials (u ∷ z ∷ []) (times (variable 0) (minus (variable 1))) (minus (times (variable 0) (variable 1))) refl

-- a factor beside a positive one has the product's sign
factor_least : (u z m : ℤ) → pos 0 <ℤ u → u *ℤ z ≡ m → pos 0 ≤ℤ m → pos 0 ≤ℤ z
factor_least u z m hu e hm = elim (compared (pos 0) z) [
  | inl h ↦ h
  | inr h ↦ absurd (clash (u *ℤ z) (u *ℤ neg_ℤ z) m (times_negated u z) e hm (product_positive u (neg_ℤ z) hu (up z h)))
]
  where
    up : (z : ℤ) → z <ℤ pos 0 → pos 0 <ℤ neg_ℤ z
    up z h = omega (arith, ints)

    clash : (p n m : ℤ) → n ≡ neg_ℤ p → p ≡ m → pos 0 ≤ℤ m → pos 0 <ℤ n → ⊥
    clash p n m e f h k = omega (arith, ints)

-- beside one that isn't negative it is positive where the product is
factor_positive : (u z m : ℤ) → pos 0 ≤ℤ u → u *ℤ z ≡ m → pos 0 <ℤ m → pos 0 <ℤ z
factor_positive u z m hu e hm = elim (compared z (pos 0)) [
  | inl h ↦ absurd (clash (u *ℤ z) (u *ℤ neg_ℤ z) m (times_negated u z) e hm (product_least u (neg_ℤ z) hu (up z h)))
  | inr h ↦ h
]
  where
    up : (z : ℤ) → z ≤ℤ pos 0 → pos 0 ≤ℤ neg_ℤ z
    up z h = omega (arith, ints)

    clash : (p n m : ℤ) → n ≡ neg_ℤ p → p ≡ m → pos 0 <ℤ m → pos 0 ≤ℤ n → ⊥
    clash p n m e f h k = omega (arith, ints)

-- a product that is the sum of two
pub record IsSum (u z v s w t : ℤ) : Type 0 where
  is : u *ℤ z ≡ v *ℤ s +ℤ w *ℤ t

sum_negated : {u z v s w t : ℤ} → IsSum u z v s w t → IsSum u (neg_ℤ z) v (neg_ℤ s) w (neg_ℤ t)
sum_negated {u} {z} {v} {s} {w} {t} h = record { is = go (u *ℤ z) (v *ℤ s) (w *ℤ t) _ _ _ h.is (times_negated u z) (times_negated v s) (times_negated w t) }
  where
    go : (p q r p' q' r' : ℤ) → p ≡ q +ℤ r → p' ≡ neg_ℤ p → q' ≡ neg_ℤ q → r' ≡ neg_ℤ r → p' ≡ q' +ℤ r'
    go p q r p' q' r' e f g h = omega (arith, ints)

pub minus_least : (z : ℤ) → z ≤ℤ pos 0 → pos 0 ≤ℤ neg_ℤ z
minus_least z h = omega (arith, ints)

pub minus_most : (z : ℤ) → pos 0 ≤ℤ z → neg_ℤ z ≤ℤ pos 0
minus_most z h = omega (arith, ints)

from_minus_most : (z : ℤ) → pos 0 ≤ℤ neg_ℤ z → z ≤ℤ pos 0
from_minus_most z h = omega (arith, ints)

from_minus_least : (z : ℤ) → neg_ℤ z ≤ℤ pos 0 → pos 0 ≤ℤ z
from_minus_least z h = omega (arith, ints)

-- the factor beside a positive one has the sign of both
least : {u z v s w t : ℤ} → IsSum u z v s w t → pos 0 <ℤ u → pos 0 ≤ℤ v → pos 0 ≤ℤ w → pos 0 ≤ℤ s → pos 0 ≤ℤ t → pos 0 ≤ℤ z
least {u} {z} {v} {s} {w} {t} h hu hv hw hs ht = factor_least u z (v *ℤ s +ℤ w *ℤ t) hu h.is (mixed_least v w s t hv hw hs ht)

most : {u z v s w t : ℤ} → IsSum u z v s w t → pos 0 <ℤ u → pos 0 ≤ℤ v → pos 0 ≤ℤ w → s ≤ℤ pos 0 → t ≤ℤ pos 0 → z ≤ℤ pos 0
most {u} {z} {v} {s} {w} {t} h hu hv hw hs ht = from_minus_most z (least (sum_negated h) hu hv hw (minus_least s hs) (minus_least t ht))

-- beside one that may be 0, it has where one of them isn't 0
least_strictly : {u z v s w t : ℤ} → IsSum u z v s w t → pos 0 ≤ℤ u → pos 0 <ℤ v → pos 0 <ℤ w → pos 0 ≤ℤ s → pos 0 ≤ℤ t → pos 0 <ℤ (s +ℤ t) → pos 0 ≤ℤ z
least_strictly {u} {z} {v} {s} {w} {t} h hu hv hw hs ht some = strictly (pos 0) z (factor_positive u z (v *ℤ s +ℤ w *ℤ t) hu h.is sum)
  where
    other : (s t : ℤ) → s ≤ℤ pos 0 → pos 0 <ℤ (s +ℤ t) → pos 0 <ℤ t
    other s t h k = omega (arith, ints)

    one : (p q : ℤ) → pos 0 <ℤ p → pos 0 ≤ℤ q → pos 0 <ℤ (p +ℤ q)
    one p q h k = omega (arith, ints)

    two : (p q : ℤ) → pos 0 ≤ℤ p → pos 0 <ℤ q → pos 0 <ℤ (p +ℤ q)
    two p q h k = omega (arith, ints)

    sum : pos 0 <ℤ (v *ℤ s +ℤ w *ℤ t)
    sum = elim (compared s (pos 0)) [
      | inl low ↦ two (v *ℤ s) (w *ℤ t) (product_least v s (strictly (pos 0) v hv) hs) (product_positive w t hw (other s t low some))
      | inr high ↦ one (v *ℤ s) (w *ℤ t) (product_positive v s hv high) (product_least w t (strictly (pos 0) w hw) ht)
    ]

-- ---- two segments, from p to q and from a to b
-- heights of the ends, how far a and b lie left of the first line, and p and q left of the second
pub record Balance (p q a b x x' y y' : ℤ) : Type 0 where
  a_by_b : IsSum (b -ℤ p) x (p -ℤ a) (neg_ℤ x') (q -ℤ p) (neg_ℤ y)
  q_by_p : IsSum (b -ℤ p) y' (q -ℤ b) (neg_ℤ y) (b -ℤ a) (neg_ℤ x')
  a_by_ends : IsSum (b -ℤ a) x (p -ℤ a) y' (q -ℤ a) (neg_ℤ y)
  b_by_ends : IsSum (b -ℤ a) x' (b -ℤ p) (neg_ℤ y') (b -ℤ q) y
  p_by_ends : IsSum (q -ℤ p) y (a -ℤ p) x' (b -ℤ p) (neg_ℤ x)
  q_by_ends : IsSum (q -ℤ p) y' (q -ℤ a) (neg_ℤ x') (q -ℤ b) x
  b_by_q : IsSum (q -ℤ a) x' (q -ℤ p) (neg_ℤ y') (b -ℤ q) (neg_ℤ x)
  p_by_q : IsSum (q -ℤ a) y (a -ℤ p) (neg_ℤ y') (b -ℤ a) (neg_ℤ x)

-- the same from the right
pub mirrored : (p q a b x x' y y' : ℤ) → Balance p q a b x x' y y' → Balance p q a b (neg_ℤ x) (neg_ℤ x') (neg_ℤ y) (neg_ℤ y')
mirrored p q a b x x' y y' h = record {
  a_by_b = sum_negated h.a_by_b;
  q_by_p = sum_negated h.q_by_p;
  a_by_ends = sum_negated h.a_by_ends;
  b_by_ends = sum_negated h.b_by_ends;
  p_by_ends = sum_negated h.p_by_ends;
  q_by_ends = sum_negated h.q_by_ends;
  b_by_q = sum_negated h.b_by_q;
  p_by_q = sum_negated h.p_by_q;
}

-- each segment crosses the other's line: a on the right of the first and b on its left, p on the left of the second and
-- q on its right
pub record Astride (x x' y y' : ℤ) : Type 0 where
  pub a_right : x ≤ℤ pos 0
  pub b_left : pos 0 ≤ℤ x'
  pub p_left : pos 0 ≤ℤ y
  pub q_right : y' ≤ℤ pos 0

module _ (p q a b x x' y y' : ℤ) (h : Balance p q a b x x' y y') where
  -- a below both, b between them
  pub rising_in : a ≤ℤ p → p <ℤ b → b ≤ℤ q → pos 0 ≤ℤ y → pos 0 ≤ℤ x' → Astride x x' y y'
  rising_in ap pb bq py bx = record {
    a_right = most h.a_by_b (gap p b pb) (wide a p ap) (wide p q (strictly p q (below_then p b q pb bq))) (minus_most x' bx) (minus_most y py);
    b_left = bx;
    p_left = py;
    q_right = most h.q_by_p (gap p b pb) (wide b q bq) (wide a b (strictly a b (then_below a p b ap pb))) (minus_most y py) (minus_most x' bx);
  }

  -- a below both, b above both
  pub passing : a ≤ℤ p → p ≤ℤ q → q <ℤ b → pos 0 ≤ℤ y → y' ≤ℤ pos 0 → Astride x x' y y'
  passing ap pq qb py qy =
      let ab : a <ℤ b = then_below a q b (up_to a p q ap pq) qb in
      record {
        a_right = most h.a_by_ends (gap a b ab) (wide a p ap) (wide a q (up_to a p q ap pq)) qy (minus_most y py);
        b_left = least h.b_by_ends (gap a b ab) (wide p b (up_to p q b pq (strictly q b qb))) (wide q b (strictly q b qb)) (minus_least y' qy) py;
        p_left = py;
        q_right = qy;
      }

  -- both between them
  pub between : p <ℤ a → a ≤ℤ q → p <ℤ b → b ≤ℤ q → x ≤ℤ pos 0 → pos 0 ≤ℤ x' → Astride x x' y y'
  between pa aq pb bq ax bx =
      let pq : p <ℤ q = below_then p a q pa aq in
      record {
        a_right = ax;
        b_left = bx;
        p_left = least h.p_by_ends (gap p q pq) (wide p a (strictly p a pa)) (wide p b (strictly p b pb)) bx (minus_least x ax);
        q_right = most h.q_by_ends (gap p q pq) (wide a q aq) (wide b q bq) (minus_most x' bx) ax;
      }

  -- a between them, b above both
  pub rising_out : p <ℤ a → a ≤ℤ q → q <ℤ b → y' ≤ℤ pos 0 → x ≤ℤ pos 0 → (y' +ℤ x) <ℤ pos 0 → Astride x x' y y'
  rising_out pa aq qb qy ax some =
      let pq : p <ℤ q = below_then p a q pa aq in
      let ab : a <ℤ b = then_below a q b aq qb in
      record {
        a_right = ax;
        b_left = least_strictly h.b_by_q (wide a q aq) (gap p q pq) (gap q b qb) (minus_least y' qy) (minus_least x ax) (both_more y' x some);
        p_left = least_strictly h.p_by_q (wide a q aq) (gap p a pa) (gap a b ab) (minus_least y' qy) (minus_least x ax) (both_more y' x some);
        q_right = qy;
      }
    where
      both_more : (s t : ℤ) → (s +ℤ t) <ℤ pos 0 → pos 0 <ℤ (neg_ℤ s +ℤ neg_ℤ t)
      both_more s t h = omega (arith, ints)

module _ (p q a b : Point) where
  pub balance : Balance p.y q.y a.y b.y (cross p q a) (cross p q b) (cross a b p) (cross a b q)
  unfolding cross
  balance =
      let values = coordinates (p ∷ q ∷ a ∷ b ∷ []) in
      let x = cross_term A B C in
      let x' = cross_term A B D in
      let y = cross_term C D A in
      let y' = cross_term C D B in
      let from = λ (s t : Term). plus t (minus s) in
      record {
        a_by_b = record { is = by_polynomials values (times (from A.y D.y) x) (plus (times (from C.y A.y) (minus x')) (times (from A.y B.y) (minus y))) refl };
        q_by_p = record { is = by_polynomials values (times (from A.y D.y) y') (plus (times (from D.y B.y) (minus y)) (times (from C.y D.y) (minus x'))) refl };
        a_by_ends = record { is = by_polynomials values (times (from C.y D.y) x) (plus (times (from C.y A.y) y') (times (from C.y B.y) (minus y))) refl };
        b_by_ends = record { is = by_polynomials values (times (from C.y D.y) x') (plus (times (from A.y D.y) (minus y')) (times (from B.y D.y) y)) refl };
        p_by_ends = record { is = by_polynomials values (times (from A.y B.y) y) (plus (times (from A.y C.y) x') (times (from A.y D.y) (minus x))) refl };
        q_by_ends = record { is = by_polynomials values (times (from A.y B.y) y') (plus (times (from C.y B.y) (minus x')) (times (from D.y B.y) x)) refl };
        b_by_q = record { is = by_polynomials values (times (from C.y B.y) x') (plus (times (from A.y B.y) (minus y')) (times (from B.y D.y) (minus x))) refl };
        p_by_q = record { is = by_polynomials values (times (from C.y B.y) y) (plus (times (from A.y C.y) (minus y')) (times (from C.y D.y) (minus x))) refl };
      }

  -- segments that are astride each other, and not parallel, meet
  pub meets_left : Astride (cross p q a) (cross p q b) (cross a b p) (cross a b q) → pos 0 <ℤ (cross p q b -ℤ cross p q a +ℤ (cross a b p -ℤ cross a b q)) → Meet p q a b
  meets_left h some = crossing_left p q a b (turn (slant p q a b) _ _ _ _ (second_side p q a b) (fourth_side p q a b) some)
      (record { not_left = inl h.a_right; not_right = inr h.b_left })
      (record { not_left = inr h.q_right; not_right = inl h.p_left })
    where
      turn : (d x x' y y' : ℤ) → x' ≡ x +ℤ d → y' ≡ y -ℤ d → pos 0 <ℤ (x' -ℤ x +ℤ (y -ℤ y')) → pos 0 <ℤ d
      turn d x x' y y' e f h = omega (arith, ints)

  pub meets_right : Astride (neg_ℤ (cross p q a)) (neg_ℤ (cross p q b)) (neg_ℤ (cross a b p)) (neg_ℤ (cross a b q)) → (cross p q b -ℤ cross p q a +ℤ (cross a b p -ℤ cross a b q)) <ℤ pos 0 → Meet p q a b
  meets_right h some = crossing_right p q a b (turn (slant p q a b) _ _ _ _ (second_side p q a b) (fourth_side p q a b) some)
      (record { not_left = inr (from_minus_most _ h.b_left); not_right = inl (from_minus_least _ h.a_right) })
      (record { not_left = inl (from_minus_most _ h.p_left); not_right = inr (from_minus_least _ h.q_right) })
    where
      turn : (d x x' y y' : ℤ) → x' ≡ x +ℤ d → y' ≡ y -ℤ d → (x' -ℤ x +ℤ (y -ℤ y')) <ℤ pos 0 → d <ℤ pos 0
      turn d x x' y y' e f h = omega (arith, ints)
