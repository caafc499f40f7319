-- Removing zero turns adds no point to the edges of a contour.
use Rattle.std.proofs.Common.{◌≡◌, ◌⊎◌, ℕ, ◌+◌, ◌<◌, List, [], ◌∷◌, length, remove, pos, ◌+ℤ◌, ◌*ℤ◌, ◌≤ℤ◌, ◌<ℤ◌, neg_ℤ, ◌≢◌, subst₂, refl, sym, subst, ◌∙◌, arith, inl, inr}
use Rattle.std.proofs.lemmas.Int.{ints, by_lt_z}
use Rattle.std.proofs.lemmas.List.Edits.{length-remove}
use Rattle.i_shape_core.specs.Point.{Point, cross, dot, IsZeroTurn}
use Rattle.i_shape_core.specs.Contour.{point_at, place_before, place_after, Reach, stay, step}
use Rattle.i_shape_core.proofs.Arithmetic.Polynomials.{plus, times, minus, by_polynomials}
use Rattle.i_shape_core.proofs.Plane.CrossProducts.{coordinates, cross_term, dot_term, A, B, C, D, zero_slides, triangle_identity, zero_reversed}
use Rattle.i_shape_core.proofs.Arithmetic.WholeNumbers.{not_positive_of, drop_last}
use Rattle.i_shape_core.proofs.Removal.Places.{Follows, Stood, after_is, before_from, place_stood, stood_point, stood_within, follows_over}
use Rattle.i_shape_core.specs.Moves.{moved_point, moved, scaling}
use Rattle.i_shape_core.specs.Boundary.{IsBetween, IsOnEdge}
use Rattle.i_shape_core.proofs.Plane.Back.{way_squared, square_term, dot_same-first, cross_same-first}
use Rattle.i_shape_core.proofs.Moved.Mapped.{reach_mapped}
use Rattle.i_shape_core.proofs.Moved.ZeroTurns.{zero_moved}
use Rattle.i_shape_laws.specs.Moved.{BoundaryWithin}
use Rattle.i_shape_laws.proofs.Moved.Back.{equal_of_low_distance}

-- the negative of `dot q p b` times the squared distance of a and p, by the dot and cross products at p from a
two_ways : (a p q b : Point) → dot a p b *ℤ dot a p q +ℤ cross a p q *ℤ cross a p b ≡ way_squared a p *ℤ neg_ℤ (dot q p b)
unfolding way_squared cross dot
two_ways a p q b = by_polynomials (coordinates (a ∷ p ∷ q ∷ b ∷ []))
    (plus (times (dot_term A B D) (dot_term A B C)) (times (cross_term A B C) (cross_term A B D)))
    (times (square_term A B) (minus (dot_term C B D))) refl

back_again : (a p : Point) → dot a p a ≡ neg_ℤ (way_squared a p)
unfolding way_squared dot
back_again a p = by_polynomials (coordinates (a ∷ p ∷ [])) (dot_term A B A) (minus (square_term A B)) refl

-- a point lies on each edge that starts with it
at_start : (a q : Point) → IsBetween a a q
at_start a q = record { straight = cross_same-first a q; ahead = let e = dot_same-first a q in omega (arith, ints) }

-- if a, q and b are collinear, each point of the edge ab is on aq or on qb
pub between_two : (a p q b : Point) → cross a q b ≡ pos 0 → IsBetween a p b → IsBetween a p q ⊎ IsBetween q p b
between_two a p q b z w = by_lt_z (pos 0) (way_squared a p) apart (λ h. inl (subst (λ (x : Point). IsBetween a x q) (equal_of_low_distance a p h) (at_start a q)))
  where
    back : a ≡ b → pos 0 <ℤ way_squared a p → ⊥
    back e h = let f = subst (λ (x : Point). pos 0 ≤ℤ dot a p x) (sym e) w.ahead in let g = back_again a p in omega (arith, ints)

    line : cross p a b ≡ pos 0
    line = triangle_identity p a b ∙ triangle_identity a b p ∙ zero_reversed a p b w.straight

    other : cross a b q ≡ pos 0
    other = triangle_identity a b q ∙ zero_reversed a q b z

    apart : pos 0 <ℤ way_squared a p → IsBetween a p q ⊎ IsBetween q p b
    apart h = on_line (zero_slides p a b q line other)
      where
        on_line : (a ≡ b) ⊎ ((cross p b q ≡ pos 0) × (cross p a q ≡ pos 0)) → IsBetween a p q ⊎ IsBetween q p b
        on_line (inl e) = absurd (back e h)
        on_line (inr s) = by_lt_z (dot a p q) (pos 0)
            (λ l. inr (record { straight = triangle_identity q p b ∙ s.0; ahead = negated l }))
            (λ l. inl (record { straight = triangle_identity a p q ∙ triangle_identity p q a ∙ zero_reversed p a q s.1; ahead = l }))
          where
            negated : dot a p q <ℤ pos 0 → pos 0 ≤ℤ dot q p b
            negated l =
                let low = not_positive_of (dot a p b) (way_squared a p) (dot a p q) (neg_ℤ (dot q p b)) w.ahead h (sym (drop_last _ (dot a p b *ℤ dot a p q) (cross a p q) (cross a p b) (sym (two_ways a p q b)) w.straight)) (omega (arith, ints)) in
                omega (arith, ints)

-- ---- removals
without_point : (c : List Point) (k : ℕ) (p : Point) → IsZeroTurn (point_at c (place_before (length c) k)) (point_at c k) (point_at c (place_after (length c) k)) → k < length c → IsOnEdge (remove c k) p → IsOnEdge c p
without_point c k p z h w =
    over (follows_over n l k (place_after n k) j (place_after l j) was.0 next.0 (place_after n was.0) shorter h w.within (after_is n k h) (after_is l j w.within) was.1 next.1 (after_is n was.0 within))
  where
    n : ℕ
    n = length c

    l : ℕ
    l = length (remove c k)

    j : ℕ
    j = w.place

    shorter : length (remove c k) + 1 ≡ length c
    shorter = length-remove c k h

    was : (m : ℕ) × Stood k w.place m
    was = place_stood k w.place

    next : (m : ℕ) × Stood k (place_after (length (remove c k)) w.place) m
    next = place_stood k (place_after (length (remove c k)) w.place)

    within : was.0 < length c
    within = stood_within (length c) (length (remove c k)) k w.place was.0 shorter w.within was.1

    there : IsBetween (point_at c was.0) p (point_at c next.0)
    there = subst₂ (λ (x y : Point). IsBetween x p y) (stood_point c k w.place was.0 h was.1) (stood_point c k (place_after (length (remove c k)) w.place) next.0 h next.1) w.between

    over : ((place_after (length c) was.0 ≡ k) × (next.0 ≡ place_after (length c) k)) ⊎ ((place_after (length c) was.0 ≢ k) × (next.0 ≡ place_after (length c) was.0)) → IsOnEdge c p
    over (inr e) = record { place = was.0; within = within; between = subst (λ (m : ℕ). IsBetween (point_at c was.0) p (point_at c m)) e.1 there }
    over (inl e) = first (between_two (point_at c was.0) p (point_at c k) (point_at c (place_after (length c) k)) straight (subst (λ (m : ℕ). IsBetween (point_at c was.0) p (point_at c m)) e.1 there))
      where
        straight : IsZeroTurn (point_at c was.0) (point_at c k) (point_at c (place_after (length c) k))
        straight = subst (λ (m : ℕ). IsZeroTurn (point_at c m) (point_at c k) (point_at c (place_after (length c) k))) (before_from (length c) was.0 k within h (subst (λ (m : ℕ). Follows (length c) was.0 m) e.0 (after_is (length c) was.0 within))) z

        first : IsBetween (point_at c was.0) p (point_at c k) ⊎ IsBetween (point_at c k) p (point_at c (place_after (length c) k)) → IsOnEdge c p
        first (inl f) = record { place = was.0; within = within; between = subst (λ (m : ℕ). IsBetween (point_at c was.0) p (point_at c m)) (sym e.0) f }
        first (inr f) = record { place = k; within = h; between = f }

-- removing zero turns adds no point to the edges
pub boundary_within : (c d : List Point) → Reach IsZeroTurn c d → (p : Point) → IsOnEdge d p → IsOnEdge c p
boundary_within c d stay p w = w
boundary_within c d (step {d = m} s r) p w =
    without_point c s.place p s.removable.passes s.removable.within (subst (λ (l : List Point). IsOnEdge l p) s.left (boundary_within m d r p w))

-- the same of points with rational coordinates
pub boundary_laws : (c d : List Point) → BoundaryWithin c d
boundary_laws c d r n = boundary_within (moved (scaling n) c) (moved (scaling n) d) (reach_mapped (moved_point (scaling n)) (zero_moved (scaling n)) r)
