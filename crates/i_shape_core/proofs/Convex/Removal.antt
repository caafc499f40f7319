-- Removing straight points keeps which way a contour turns.
use Rattle.std.proofs.Common.{◌≡◌, ◌≢◌, ℕ, ◌+◌, ◌-◌, ◌<◌, List, length, remove, ℤ, pos, ◌+ℤ◌, ◌*ℤ◌, neg_ℤ, ◌≤ℤ◌, ◌<ℤ◌, int_lt, T, refl, sym, ap, subst, ◌∙◌, arith, ◌⊎◌, inl, inr, ◌↔◌}
use Rattle.std.proofs.lemmas.Int.{ints}
use Rattle.std.proofs.lemmas.List.Edits.{length-remove}
use Rattle.i_shape_core.proofs.Common.{Point, cross, dot, IsZeroTurn, point_at, place_before, place_after, IsRemovable, Step, Reach, stay, step}
use Rattle.i_shape_core.specs.Convex.{cross_at, BendsOneWay}
use Rattle.i_shape_core.proofs.Plane.CrossProducts.{cross_reversed, zero_reversed, dot_reversed}
use Rattle.i_shape_core.proofs.Arithmetic.WholeNumbers.{Alike, alike_same, alike_scaled, sum_above, drop_last, below_negated, above_negated, zero_not_above, zero_not_below}
use Rattle.i_shape_core.proofs.Plane.Back.{straight_cross, way_squared, square_at_least, equal_of_distance, back_from_cases}
use Rattle.i_shape_core.proofs.Removal.Places.{Follows, after_is, before_is, Stood, place_stood, stood_point, stood_within, follows_over, before_from, after_from, before_within, one_neighbour}
use Rattle.i_shape_core.proofs.Removal.WithoutBack.{HasNoBack, none_in_a_row, zero_turn_straight, no_back_after_step}

alike_negated : (x y x' y' : ℤ) → x' ≡ neg_ℤ x → y' ≡ neg_ℤ y → Alike x y → Alike x' y'
alike_negated x y x' y' e f a = record {
  below = ap (λ (z : ℤ). int_lt z (pos 0)) e ∙ below_negated x ∙ a.above ∙ sym (below_negated y) ∙ ap (λ (z : ℤ). int_lt z (pos 0)) (sym f);
  above = ap (λ (z : ℤ). int_lt (pos 0) z) e ∙ above_negated x ∙ a.below ∙ sym (above_negated y) ∙ ap (λ (z : ℤ). int_lt (pos 0) z) (sym f);
}

-- removing the straight point p after a keeps which way a turns
cross_before_straight : (x a p b : Point) → cross a p b ≡ pos 0 → pos 0 <ℤ dot a p b → (a ≡ p → ⊥) → Alike (cross x a b) (cross x a p)
cross_before_straight x a p b e l apart = alike_scaled (way_squared a p +ℤ dot a p b) (way_squared a p) (cross x a b) (cross x a p)
    (sum_above (way_squared a p) (dot a p b) (square_at_least a p) l) (above (way_squared a p) (square_at_least a p) (λ z. apart (equal_of_distance a p z)))
    (drop_last (way_squared a p *ℤ cross x a b) ((way_squared a p +ℤ dot a p b) *ℤ cross x a p) (dot x a p) (cross a p b) (straight_cross x a p b) e)
  where
    above : (q : ℤ) → pos 0 ≤ℤ q → (q ≡ pos 0 → ⊥) → pos 0 <ℤ q
    above q f g = omega (arith, ints)

cross_after_straight : (a p b y : Point) → cross a p b ≡ pos 0 → pos 0 <ℤ dot a p b → (b ≡ p → ⊥) → Alike (cross a b y) (cross p b y)
cross_after_straight a p b y e l apart = alike_negated (cross y b a) (cross y b p) (cross a b y) (cross p b y) (cross_reversed y b a) (cross_reversed y b p)
    (cross_before_straight y b p a (zero_reversed a p b e) (subst (λ (d : ℤ). pos 0 <ℤ d) (sym (dot_reversed a p b)) l) apart)

cross_in_a_row : (c : List Point) (q m s : ℕ) → q < length c → m < length c → Follows (length c) q m → Follows (length c) m s
    → cross_at c m ≡ cross (point_at c q) (point_at c m) (point_at c s)
unfolding cross_at
cross_in_a_row c q m s i l Q S = rw (before_from (length c) q m i l Q, after_from (length c) m s l S) refl

-- removing a straight point keeps the turn at m: q and g are its neighbours among the points left, s and t come after m
-- and q in the contour
cross_alike : (c : List Point) (k a m g q s t : ℕ) → HasNoBack c → IsRemovable IsZeroTurn c k → m < length c → q < length c
    → Follows (length c) k a → Follows (length c) m s → Follows (length c) q t
    → ((s ≡ k) × (g ≡ a)) ⊎ ((s ≢ k) × (g ≡ s)) → ((t ≡ k) × (m ≡ a)) ⊎ ((t ≢ k) × (m ≡ t))
    → Alike (cross (point_at c q) (point_at c m) (point_at c g)) (cross_at c m)
cross_alike c k a m g q s t h r in_m in_q A S R (inr x) (inr y) =
    alike_same (cross (point_at c q) (point_at c m) (point_at c g)) (cross_at c m)
    (ap (λ (i : ℕ). cross (point_at c q) (point_at c m) (point_at c i)) x.1
    ∙ sym (cross_in_a_row c q m s in_q in_m (subst (λ (i : ℕ). Follows (length c) q i) (sym y.1) R) S))
cross_alike c k a m g q s t h r in_m in_q A S R (inl x) (inr y) =
    let K : Follows (length c) m k = subst (λ (i : ℕ). Follows (length c) m i) x.0 S in
    let Q : Follows (length c) q m = subst (λ (i : ℕ). Follows (length c) q i) (sym y.1) R in
    let z = zero_turn_straight c k m a h r in_m K A in
    let w = cross_before_straight (point_at c q) (point_at c m) (point_at c k) (point_at c a) z.0 z.1
    (λ e. none_in_a_row c h q m k in_q in_m Q K (back_from_cases (point_at c q) (point_at c m) (point_at c k) (inr (inl e)))) in
    subst (λ (i : ℕ). Alike (cross (point_at c q) (point_at c m) (point_at c i)) (cross_at c m)) (sym x.1)
    (subst (λ (v : ℤ). Alike (cross (point_at c q) (point_at c m) (point_at c a)) v) (sym (cross_in_a_row c q m k in_q in_m Q K)) w)
cross_alike c k a m g q s t h r in_m in_q A S R (inr x) (inl y) =
    let K : Follows (length c) q k = subst (λ (i : ℕ). Follows (length c) q i) y.0 R in
    let L : Follows (length c) k m = subst (λ (i : ℕ). Follows (length c) k i) (sym y.1) A in
    let z = zero_turn_straight c k q m h r in_q K L in
    let w = cross_after_straight (point_at c q) (point_at c k) (point_at c m) (point_at c s) z.0 z.1
    (λ e. none_in_a_row c h k m s r.within in_m L S (back_from_cases (point_at c k) (point_at c m) (point_at c s) (inl (sym e)))) in
    subst (λ (i : ℕ). Alike (cross (point_at c q) (point_at c m) (point_at c i)) (cross_at c m)) (sym x.1)
    (subst (λ (v : ℤ). Alike (cross (point_at c q) (point_at c m) (point_at c s)) v) (sym (cross_in_a_row c k m s r.within in_m L S)) w)
cross_alike c k a m g q s t h r in_m in_q A S R (inl x) (inl y) =
    absurd (one_neighbour (length c) k a m s q h.enough r.within in_m in_q A S (subst (λ (i : ℕ). Follows (length c) q i) y.0 R) x.0 y.1)

-- each place left turns the same way once k is removed
cross_stays : (c : List Point) (k l j m : ℕ) → HasNoBack c → IsRemovable IsZeroTurn c k → l + 1 ≡ length c → j < l → Stood k j m
    → Alike (cross (point_at (remove c k) (place_before l j)) (point_at (remove c k) j) (point_at (remove c k) (place_after l j))) (cross_at c m)
cross_stays c k l j m h r e i M = go (place_stood k b) (place_stood k f)
  where
    b : ℕ
    b = place_before l j

    f : ℕ
    f = place_after l j

    go : (q : ℕ) × Stood k b q → (g : ℕ) × Stood k f g
        → Alike (cross (point_at (remove c k) b) (point_at (remove c k) j) (point_at (remove c k) f)) (cross_at c m)
    go (q, Q) (g, G) =
        let in_m : m < length c = stood_within (length c) l k j m e i M in
        let in_q : q < length c = stood_within (length c) l k b q e (before_within l j i) Q in
        let A : Follows (length c) k (place_after (length c) k) = after_is (length c) k r.within in
        let S : Follows (length c) m (place_after (length c) m) = after_is (length c) m in_m in
        let R : Follows (length c) q (place_after (length c) q) = after_is (length c) q in_q in
        rw (stood_point c k b q r.within Q, stood_point c k j m r.within M, stood_point c k f g r.within G)
        (cross_alike c k (place_after (length c) k) m g q (place_after (length c) m) (place_after (length c) q) h r in_m in_q A S R
        (follows_over (length c) l k (place_after (length c) k) j f m g (place_after (length c) m) e r.within i A (after_is l j i) M G S)
        (follows_over (length c) l k (place_after (length c) k) b j q m (place_after (length c) q) e r.within (before_within l j i) A (before_is l j i) Q M R))

cross_of_rest : (c : List Point) (k j m : ℕ) → HasNoBack c → IsRemovable IsZeroTurn c k → j < length (remove c k) → Stood k j m → Alike (cross_at (remove c k) j) (cross_at c m)
unfolding cross_at
cross_of_rest c k j m h r i M = cross_stays c k (length (remove c k)) j m h r (length-remove c k r.within) i M

left_of : (x y : ℤ) → Alike x y → pos 0 <ℤ x → pos 0 <ℤ y
left_of x y a h = record { lt = subst T a.above h.lt }

right_of : (x y : ℤ) → Alike x y → x <ℤ pos 0 → y <ℤ pos 0
right_of x y a h = record { lt = subst T a.below h.lt }

alike_back : (x y : ℤ) → Alike x y → Alike y x
alike_back x y a = record { below = sym a.below; above = sym a.above }

one_way_of_rest : (c : List Point) (k : ℕ) → HasNoBack c → IsRemovable IsZeroTurn c k → BendsOneWay c → BendsOneWay (remove c k)
one_way_of_rest c k h r w = record { one_way = λ i j in_i in_j left right. go i j in_i in_j left right (place_stood k i) (place_stood k j) }
  where
    shorter : length (remove c k) + 1 ≡ length c
    shorter = length-remove c k r.within

    go : (i j : ℕ) → i < length (remove c k) → j < length (remove c k) → pos 0 <ℤ cross_at (remove c k) i → cross_at (remove c k) j <ℤ pos 0
        → (m : ℕ) × Stood k i m → (n : ℕ) × Stood k j n → ⊥
    go i j in_i in_j left right (m, M) (n, N) = w.one_way m n (stood_within (length c) (length (remove c k)) k i m shorter in_i M) (stood_within (length c) (length (remove c k)) k j n shorter in_j N)
        (left_of (cross_at (remove c k) i) (cross_at c m) (cross_of_rest c k i m h r in_i M) left)
        (right_of (cross_at (remove c k) j) (cross_at c n) (cross_of_rest c k j n h r in_j N) right)

-- each place other than k has a place once k is removed
place_in_rest : (n l k m : ℕ) → l + 1 ≡ n → k < n → m < n → m ≢ k → (j : ℕ) × (j < l) × Stood k j m
place_in_rest n l k m e h i apart = go (cases m k apart)
  where
    cases : (m k : ℕ) → m ≢ k → (m < k) ⊎ (k < m)
    cases m k h = grind arith

    go : (m < k) ⊎ (k < m) → (j : ℕ) × (j < l) × Stood k j m
    go (inl b) = (m, omega arith, inl (b, refl))
    go (inr b) = (m - 1, omega arith, inr (omega arith, omega arith))

zero_at : (c : List Point) (k : ℕ) → IsRemovable IsZeroTurn c k → cross_at c k ≡ pos 0
unfolding cross_at
zero_at c k r = r.passes

one_way_before : (c : List Point) (k : ℕ) → HasNoBack c → IsRemovable IsZeroTurn c k → BendsOneWay (remove c k) → BendsOneWay c
one_way_before c k h r w = record {
  one_way = λ m n in_m in_n left right.
      go m n left right
      (place_in_rest (length c) (length (remove c k)) k m shorter r.within in_m (λ e. zero_not_above (cross_at c m) (zero m e) left))
      (place_in_rest (length c) (length (remove c k)) k n shorter r.within in_n (λ e. zero_not_below (cross_at c n) (zero n e) right));
}
  where
    shorter : length (remove c k) + 1 ≡ length c
    shorter = length-remove c k r.within

    zero : (m : ℕ) → m ≡ k → cross_at c m ≡ pos 0
    zero m e = ap (cross_at c) e ∙ zero_at c k r

    go : (m n : ℕ) → pos 0 <ℤ cross_at c m → cross_at c n <ℤ pos 0
        → (i : ℕ) × (i < length (remove c k)) × Stood k i m → (j : ℕ) × (j < length (remove c k)) × Stood k j n → ⊥
    go m n left right (i, in_i, M) (j, in_j, N) = w.one_way i j in_i in_j
        (left_of (cross_at c m) (cross_at (remove c k) i) (alike_back (cross_at (remove c k) i) (cross_at c m) (cross_of_rest c k i m h r in_i M)) left)
        (right_of (cross_at c n) (cross_at (remove c k) j) (alike_back (cross_at (remove c k) j) (cross_at c n) (cross_of_rest c k j n h r in_j N)) right)

one_way_after_step : (c d : List Point) → HasNoBack c → Step IsZeroTurn c d → BendsOneWay c ↔ BendsOneWay d
one_way_after_step c d h s = subst (λ (e : List Point). BendsOneWay c ↔ BendsOneWay e) (sym s.left)
    (one_way_of_rest c s.place h s.removable, one_way_before c s.place h s.removable)

-- if no point goes back, removing zero turns keeps whether a contour turns one way
pub one_way_kept : (c d : List Point) → HasNoBack c → Reach IsZeroTurn c d → BendsOneWay c ↔ BendsOneWay d
one_way_kept c d h stay = (λ w. w, λ w. w)
one_way_kept c d h (step {d = m} s r) =
    let a = one_way_after_step c m h s in
    let b = one_way_kept m d (no_back_after_step c m h s) r in
    (λ w. b.0 (a.0 w), λ w. a.1 (b.1 w))
