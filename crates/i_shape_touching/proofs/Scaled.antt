-- Winding numbers about points with rational coordinates: a greater denominator changes nothing.
use Rattle.std.proofs.Common.{◌≡◌, ℕ, List, [], ◌∷◌, map, ℤ, pos, ◌+ℤ◌, ◌-ℤ◌, ◌*ℤ◌, ◌<ℤ◌, ◌≤ℤ◌, neg_ℤ, int_lt, Bool, true, false, refl, sym, ap, ap₂, ◌∙◌, arith}
use Rattle.std.proofs.lemmas.Int.{ints}
use Rattle.i_shape_core.specs.Point.{Point, cross}
use Rattle.i_shape_core.specs.Edges.{edges_between, sum_of}
use Rattle.i_shape_core.specs.Winding.{winding_of_edge, winding}
use Rattle.i_shape_core.specs.Moves.{moved_point, moved, scaling}
use Rattle.i_shape_core.proofs.Arithmetic.Polynomials.{number, variable, plus, times, minus, by_polynomials}
use Rattle.i_shape_core.proofs.Arithmetic.WholeNumbers.{alike_scaled}
use Rattle.i_shape_core.proofs.Plane.CrossProducts.{Place, cross_term, edge, same_point}
use Rattle.i_shape_core.proofs.Sums.Windings.{bit, flat, goes_up, goes_down}
use Rattle.i_shape_contacts.specs.Meeting.{IsOnSegment}
use Rattle.i_shape_contacts.proofs.Signs.{product_least, product_positive}
use Rattle.i_shape_touching.specs.Places.{IsOnRing, winding_at}
use Rattle.i_shape_touching.proofs.PieceSegments.{lies_scaled}

-- p times n
abbrev pub scaled_point : ℤ → Point → Point
scaled_point n p = record { x = n *ℤ p.x; y = n *ℤ p.y }

-- ---- orders
-- a number above 0 isn't negative
above_least : (n : ℤ) → pos 0 <ℤ n → pos 0 ≤ℤ n
above_least n h = omega (arith, ints)

-- numbers multiplied by one that isn't negative stay in order
pub order_kept : (n x y : ℤ) → pos 0 ≤ℤ n → x ≤ℤ y → (n *ℤ x) ≤ℤ (n *ℤ y)
order_kept n x y h k = up (n *ℤ x) (n *ℤ y) (n *ℤ (y -ℤ x)) factored (product_least n (y -ℤ x) h (omega (arith, ints)))
  where
    factored : n *ℤ (y -ℤ x) ≡ n *ℤ y -ℤ n *ℤ x
    factored = by_polynomials (n ∷ x ∷ y ∷ [])
        (times (variable 0) (plus (variable 2) (minus (variable 1))))
        (plus (times (variable 0) (variable 2)) (minus (times (variable 0) (variable 1)))) refl

    up : (s t z : ℤ) → z ≡ t -ℤ s → pos 0 ≤ℤ z → s ≤ℤ t
    up s t z e h = omega (arith, ints)

-- a test of two numbers is one of their difference
by_difference : (x y : ℤ) → int_lt x y ≡ int_lt (x -ℤ y) (pos 0)
by_difference x y = grind (arith, ints)

-- numbers multiplied by one above 0 compare as they did
same_order : (n x y : ℤ) → pos 0 <ℤ n → int_lt (n *ℤ x) (n *ℤ y) ≡ int_lt x y
same_order n x y h = by_difference (n *ℤ x) (n *ℤ y)
    ∙ (alike_scaled n (pos 1) (n *ℤ x -ℤ n *ℤ y) (x -ℤ y) h (omega (arith, ints)) factored).below
    ∙ sym (by_difference x y)
  where
    factored : pos 1 *ℤ (n *ℤ x -ℤ n *ℤ y) ≡ n *ℤ (x -ℤ y)
    factored = by_polynomials (n ∷ x ∷ y ∷ [])
        (times (number (pos 1)) (plus (times (variable 0) (variable 1)) (minus (times (variable 0) (variable 2)))))
        (times (variable 0) (plus (variable 1) (minus (variable 2)))) refl

-- ---- edges
-- the coordinates k and l of a point times the first variable, as terms
abbrev scaled_place : ℕ → ℕ → Place
scaled_place k l = record { x = times (variable 0) (variable k); y = times (variable 0) (variable l) }

-- the coordinates k and l of a point, as terms
abbrev place : ℕ → ℕ → Place
place k l = record { x = variable k; y = variable l }

-- a cross product of points times n
cross_scaled : (n : ℤ) (a p b : Point) → pos 1 *ℤ cross (scaled_point n a) (scaled_point n p) (scaled_point n b) ≡ (n *ℤ n) *ℤ cross a p b
unfolding cross
cross_scaled n a p b = by_polynomials (n ∷ a.x ∷ a.y ∷ p.x ∷ p.y ∷ b.x ∷ b.y ∷ [])
    (times (number (pos 1)) (cross_term (scaled_place 1 2) (scaled_place 3 4) (scaled_place 5 6)))
    (times (times (variable 0) (variable 0)) (cross_term (place 1 2) (place 3 4) (place 5 6))) refl

module _ (n : ℤ) (h : pos 0 <ℤ n) where
  -- the side of a point
  side_scaled : (a p b : Point) → int_lt (cross (scaled_point n a) (scaled_point n p) (scaled_point n b)) (pos 0) ≡ int_lt (cross a p b) (pos 0)
  side_scaled a p b = (alike_scaled (n *ℤ n) (pos 1) (cross (scaled_point n a) (scaled_point n p) (scaled_point n b)) (cross a p b) (product_positive n n h h) (omega (arith, ints)) (cross_scaled n a p b)).below

  -- what an edge adds
  edge_scaled : (p a b : Point) → winding_of_edge (scaled_point n p) (edge (scaled_point n a) (scaled_point n b)) ≡ winding_of_edge p (edge a b)
  edge_scaled p a b = go (int_lt p.y a.y) (int_lt p.y b.y) refl refl
    where
      go : (s t : Bool) → int_lt p.y a.y ≡ s → int_lt p.y b.y ≡ t → winding_of_edge (scaled_point n p) (edge (scaled_point n a) (scaled_point n b)) ≡ winding_of_edge p (edge a b)
      go true true e f = flat (scaled_point n p) (scaled_point n a) (scaled_point n b) true (same_order n p.y a.y h ∙ e) (same_order n p.y b.y h ∙ f) ∙ sym (flat p a b true e f)
      go false false e f = flat (scaled_point n p) (scaled_point n a) (scaled_point n b) false (same_order n p.y a.y h ∙ e) (same_order n p.y b.y h ∙ f) ∙ sym (flat p a b false e f)
      go true false e f = goes_down (scaled_point n p) (scaled_point n a) (scaled_point n b) (same_order n p.y a.y h ∙ e) (same_order n p.y b.y h ∙ f)
          ∙ ap (λ (s : Bool). neg_ℤ (bit s)) (side_scaled b p a) ∙ sym (goes_down p a b e f)
      go false true e f = goes_up (scaled_point n p) (scaled_point n a) (scaled_point n b) (same_order n p.y a.y h ∙ e) (same_order n p.y b.y h ∙ f)
          ∙ ap bit (side_scaled a p b) ∙ sym (goes_up p a b e f)

  -- what a path adds
  path_scaled : (p a : Point) (bs : List Point) (z : Point)
      → sum_of (winding_of_edge (scaled_point n p)) (edges_between (scaled_point n a) (map (scaled_point n) bs) (scaled_point n z)) ≡ sum_of (winding_of_edge p) (edges_between a bs z)
  path_scaled p a [] z = ap (λ (s : ℤ). s +ℤ pos 0) (edge_scaled p a z)
  path_scaled p a (b ∷ bs) z = ap₂ (λ (s t : ℤ). s +ℤ t) (edge_scaled p a b) (path_scaled p b bs z)

  -- a contour and a point, both scaled
  contour_scaled : (c : List Point) (p : Point) → winding (map (scaled_point n) c) (scaled_point n p) ≡ winding c p
  unfolding winding
  contour_scaled [] p = refl
  contour_scaled (a ∷ bs) p = path_scaled p a bs a

-- ---- rational points
-- a point scaled by a product is one scaled twice
moved_twice : (n d : ℤ) (a : Point) → moved_point (scaling (n *ℤ d)) a ≡ scaled_point n (moved_point (scaling d) a)
moved_twice n d a = same_point _ _ (by_x n d a.x a.y) (by_y n d a.x a.y)
  where
    by_x : (n d x y : ℤ) → (n *ℤ d) *ℤ x +ℤ pos 0 *ℤ y +ℤ pos 0 ≡ n *ℤ (d *ℤ x +ℤ pos 0 *ℤ y +ℤ pos 0)
    by_x n d x y = by_polynomials (n ∷ d ∷ x ∷ y ∷ [])
        (plus (plus (times (times (variable 0) (variable 1)) (variable 2)) (times (number (pos 0)) (variable 3))) (number (pos 0)))
        (times (variable 0) (plus (plus (times (variable 1) (variable 2)) (times (number (pos 0)) (variable 3))) (number (pos 0)))) refl

    by_y : (n d x y : ℤ) → pos 0 *ℤ x +ℤ (n *ℤ d) *ℤ y +ℤ pos 0 ≡ n *ℤ (pos 0 *ℤ x +ℤ d *ℤ y +ℤ pos 0)
    by_y n d x y = by_polynomials (n ∷ d ∷ x ∷ y ∷ [])
        (plus (plus (times (number (pos 0)) (variable 2)) (times (times (variable 0) (variable 1)) (variable 3))) (number (pos 0)))
        (times (variable 0) (plus (plus (times (number (pos 0)) (variable 2)) (times (variable 1) (variable 3))) (number (pos 0)))) refl

-- a ring scaled by a product is one scaled twice
ring_twice : (n d : ℤ) (ring : List Point) → moved (scaling (n *ℤ d)) ring ≡ map (scaled_point n) (moved (scaling d) ring)
ring_twice n d [] = refl
ring_twice n d (a ∷ ring) = ap₂ (λ (b : Point) (c : List Point). b ∷ c) (moved_twice n d a) (ring_twice n d ring)

-- a greater denominator keeps the winding number
pub winding_scaled : (ring : List Point) (d n : ℤ) (p : Point) → pos 0 <ℤ n → winding_at ring (n *ℤ d) (record { x = n *ℤ p.x; y = n *ℤ p.y }) ≡ winding_at ring d p
winding_scaled ring d n p h = ap (λ (c : List Point). winding c (scaled_point n p)) (ring_twice n d ring) ∙ contour_scaled n h (moved (scaling d) ring) p

-- scaling by 1 changes nothing
moved_once : (a : Point) → moved_point (scaling (pos 1)) a ≡ a
moved_once a = same_point _ _ (by_x a.x a.y) (by_y a.x a.y)
  where
    by_x : (x y : ℤ) → pos 1 *ℤ x +ℤ pos 0 *ℤ y +ℤ pos 0 ≡ x
    by_x x y = omega (arith, ints)

    by_y : (x y : ℤ) → pos 0 *ℤ x +ℤ pos 1 *ℤ y +ℤ pos 0 ≡ y
    by_y x y = omega (arith, ints)

-- a ring scaled by 1 is the ring
ring_once : (ring : List Point) → moved (scaling (pos 1)) ring ≡ ring
ring_once [] = refl
ring_once (a ∷ ring) = ap₂ (λ (b : Point) (c : List Point). b ∷ c) (moved_once a) (ring_once ring)

-- the winding number about a whole point
pub winding_whole : (ring : List Point) (v : Point) → winding_at ring (pos 1) v ≡ winding ring v
winding_whole ring v = ap (λ (c : List Point). winding c v) (ring_once ring)

-- ---- rings
-- a point of a segment, with a denominator n times as great
pub on_segment_scaled : (d n : ℤ) (p a b : Point) → pos 0 <ℤ n → IsOnSegment d p a b → IsOnSegment (n *ℤ d) (scaled_point n p) a b
on_segment_scaled d n p a b h s = record {
  share = n *ℤ s.share;
  least = product_least n s.share (above_least n h) s.least;
  most = order_kept n s.share d (above_least n h) s.most;
  x = ap (λ (z : ℤ). n *ℤ z) s.x ∙ factored n d s.share a.x b.x;
  y = ap (λ (z : ℤ). n *ℤ z) s.y ∙ factored n d s.share a.y b.y;
}
  where
    factored : (n d s a b : ℤ) → n *ℤ (d *ℤ a +ℤ s *ℤ (b -ℤ a)) ≡ (n *ℤ d) *ℤ a +ℤ (n *ℤ s) *ℤ (b -ℤ a)
    factored n d s a b = by_polynomials (n ∷ d ∷ s ∷ a ∷ b ∷ [])
        (times (variable 0) (plus (times (variable 1) (variable 3)) (times (variable 2) (plus (variable 4) (minus (variable 3))))))
        (plus (times (times (variable 0) (variable 1)) (variable 3)) (times (times (variable 0) (variable 2)) (plus (variable 4) (minus (variable 3))))) refl

-- a point of a ring, with a denominator n times as great
pub on_ring_scaled : (ring : List Point) (d n : ℤ) (p : Point) → pos 0 <ℤ n → IsOnRing d p ring → IsOnRing (n *ℤ d) (record { x = n *ℤ p.x; y = n *ℤ p.y }) ring
on_ring_scaled ring d n p h r = record { place = r.place; within = r.within; on = lies_scaled n d p _ _ h r.on }
