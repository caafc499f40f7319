-- A contour that no edge of a path meets winds as often about each point of the path.
use Rattle.std.proofs.Common.{◌≡◌, ℕ, suc, ◌+◌, ◌<◌, List, [], ◌∷◌, ◌++◌, length, get_or, ℤ, pos, ◌+ℤ◌, ◌-ℤ◌, neg_ℤ, ◌≤ℤ◌, ◌<ℤ◌, int_lt, Bool, true, false, cond, refl, sym, ap, ◌∙◌, arith, ◌⊎◌, inl, inr}
use Rattle.std.proofs.lemmas.Int.{ints}
use Rattle.std.proofs.lemmas.List.{get_or_append_left}
use Rattle.std.proofs.Math.Seq.{get_or-append_seam}
use Rattle.i_shape_core.specs.Point.{Point, cross, origin}
use Rattle.i_shape_core.specs.Contour.{point_at}
use Rattle.i_shape_core.specs.Edges.{edges_between, sum_of, is_above}
use Rattle.i_shape_core.specs.Winding.{winding, winding_of_edge}
use Rattle.i_shape_core.proofs.Arithmetic.Polynomials.{minus, by_polynomials}
use Rattle.i_shape_core.proofs.Plane.CrossProducts.{edge, coordinates, cross_term, A, B, C}
use Rattle.i_shape_core.proofs.Sums.Windings.{flat, goes_up, goes_down}
use Rattle.i_shape_contacts.specs.Meeting.{Meet}
use Rattle.i_shape_contacts.proofs.Signs.{compared}
use Rattle.i_shape_contacts.proofs.Crossing.{meet_second_reversed, segment_reversed}
use Rattle.i_shape_contacts.proofs.Unmet.{Astride, balance, mirrored, rising_in, passing, between, rising_out, meets_left, meets_right, strictly, minus_least, minus_most}

-- ---- tests
is_less : (z : ℤ) → int_lt z (pos 0) ≡ true → z <ℤ pos 0
is_less z e = omega (arith, ints)

is_least : (z : ℤ) → int_lt z (pos 0) ≡ false → pos 0 ≤ℤ z
is_least z e = omega (arith, ints)

-- tests of two numbers that never differ
same_test : (s t : ℤ) → (s <ℤ pos 0 → pos 0 ≤ℤ t → ⊥) → (pos 0 ≤ℤ s → t <ℤ pos 0 → ⊥) → int_lt s (pos 0) ≡ int_lt t (pos 0)
same_test s t one other = go (int_lt s (pos 0)) (int_lt t (pos 0)) refl refl
  where
    go : (u v : Bool) → int_lt s (pos 0) ≡ u → int_lt t (pos 0) ≡ v → int_lt s (pos 0) ≡ int_lt t (pos 0)
    go true true e f = e ∙ sym f
    go false false e f = e ∙ sym f
    go true false e f = absurd (one (is_less s e) (is_least t f))
    go false true e f = absurd (other (is_least s e) (is_less t f))

turned : (a p b : Point) → cross a p b ≡ neg_ℤ (cross a b p)
unfolding cross
turned a p b = by_polynomials (coordinates (a ∷ p ∷ b ∷ [])) (cross_term A B C) (minus (cross_term A C B)) refl

-- a test by the path over p is one by the other two points
left_by : (y s : ℤ) → s ≡ neg_ℤ y → s <ℤ pos 0 → pos 0 <ℤ y
left_by y s e h = omega (arith, ints)

right_by : (y s : ℤ) → s ≡ neg_ℤ y → pos 0 ≤ℤ s → y ≤ℤ pos 0
right_by y s e h = omega (arith, ints)

-- numbers that are astride, and one of which isn't 0
some_left : (x x' y y' : ℤ) → Astride x x' y y' → (pos 0 <ℤ y) ⊎ (x <ℤ pos 0) → pos 0 <ℤ (x' -ℤ x +ℤ (y -ℤ y'))
some_left x x' y y' h (inl k) = let a = h.a_right in let b = h.b_left in let c = h.q_right in omega (arith, ints)
some_left x x' y y' h (inr k) = let b = h.b_left in let c = h.q_right in let d = h.p_left in omega (arith, ints)

some_right : (x x' y y' : ℤ) → Astride (neg_ℤ x) (neg_ℤ x') (neg_ℤ y) (neg_ℤ y') → (x' <ℤ pos 0) ⊎ (pos 0 <ℤ y') → (x' -ℤ x +ℤ (y -ℤ y')) <ℤ pos 0
some_right x x' y y' h (inl k) = let a = h.a_right in let c = h.q_right in let d = h.p_left in omega (arith, ints)
some_right x x' y y' h (inr k) = let a = h.a_right in let b = h.b_left in let d = h.p_left in omega (arith, ints)

-- ---- an edge from a to b that rises and doesn't meet the segment from p to q, which rises
module _ (p q a b : Point) (apart : Meet p q a b → ⊥) where
  -- where the numbers are astride the segments meet
  not_left : Astride (cross p q a) (cross p q b) (cross a b p) (cross a b q) → (pos 0 <ℤ cross a b p) ⊎ (cross p q a <ℤ pos 0) → ⊥
  not_left h some = apart (meets_left p q a b h (some_left _ _ _ _ h some))

  not_right : Astride (neg_ℤ (cross p q a)) (neg_ℤ (cross p q b)) (neg_ℤ (cross a b p)) (neg_ℤ (cross a b q)) → (cross p q b <ℤ pos 0) ⊎ (pos 0 <ℤ cross a b q) → ⊥
  not_right h some = apart (meets_right p q a b h (some_right (cross p q a) (cross p q b) (cross a b p) (cross a b q) h some))

  -- it is right of p exactly where b is right of the segment
  same_in : a.y ≤ℤ p.y → p.y <ℤ b.y → b.y ≤ℤ q.y → int_lt (cross a p b) (pos 0) ≡ int_lt (cross p q b) (pos 0)
  same_in ap pb bq = same_test (cross a p b) (cross p q b)
      (λ s t. let y = left_by (cross a b p) (cross a p b) (turned a p b) s in
      not_left (rising_in _ _ _ _ _ _ _ _ (balance p q a b) ap pb bq (strictly (pos 0) (cross a b p) y) t) (inl y))
      (λ s t. not_right (rising_in _ _ _ _ _ _ _ _ (mirrored _ _ _ _ _ _ _ _ (balance p q a b)) ap pb bq
      (minus_least _ (right_by (cross a b p) (cross a p b) (turned a p b) s)) (minus_least _ (strictly (cross p q b) (pos 0) t))) (inl t))

  -- it is right of p exactly where it is right of q
  same_pass : a.y ≤ℤ p.y → p.y ≤ℤ q.y → q.y <ℤ b.y → int_lt (cross a p b) (pos 0) ≡ int_lt (cross a q b) (pos 0)
  same_pass ap pq qb = same_test (cross a p b) (cross a q b)
      (λ s t. let y = left_by (cross a b p) (cross a p b) (turned a p b) s in
      not_left (passing _ _ _ _ _ _ _ _ (balance p q a b) ap pq qb (strictly (pos 0) (cross a b p) y) (right_by (cross a b q) (cross a q b) (turned a q b) t)) (inl y))
      (λ s t. let y = left_by (cross a b q) (cross a q b) (turned a q b) t in
      not_right (passing _ _ _ _ _ _ _ _ (mirrored _ _ _ _ _ _ _ _ (balance p q a b)) ap pq qb
      (minus_least _ (right_by (cross a b p) (cross a p b) (turned a p b) s)) (minus_most _ (strictly (pos 0) (cross a b q) y))) (inr y))

  -- a is right of the segment exactly if b is, if both are above p and at most as high as q
  same_side : p.y <ℤ a.y → a.y ≤ℤ q.y → p.y <ℤ b.y → b.y ≤ℤ q.y → int_lt (cross p q a) (pos 0) ≡ int_lt (cross p q b) (pos 0)
  same_side pa aq pb bq = same_test (cross p q a) (cross p q b)
      (λ s t. not_left (between _ _ _ _ _ _ _ _ (balance p q a b) pa aq pb bq (strictly (cross p q a) (pos 0) s) t) (inr s))
      (λ s t. not_right (between _ _ _ _ _ _ _ _ (mirrored _ _ _ _ _ _ _ _ (balance p q a b)) pa aq pb bq (minus_most _ s) (minus_least _ (strictly (cross p q b) (pos 0) t))) (inl t))

  -- it is right of q exactly where a is right of the segment
  same_out : p.y <ℤ a.y → a.y ≤ℤ q.y → q.y <ℤ b.y → int_lt (cross a q b) (pos 0) ≡ int_lt (cross p q a) (pos 0)
  same_out pa aq qb = same_test (cross a q b) (cross p q a)
      (λ s t. let y = left_by (cross a b q) (cross a q b) (turned a q b) s in
      not_right (rising_out _ _ _ _ _ _ _ _ (mirrored _ _ _ _ _ _ _ _ (balance p q a b)) pa aq qb (minus_most _ (strictly (pos 0) (cross a b q) y)) (minus_most _ t) (more (cross a b q) (cross p q a) y t)) (inr y))
      (λ s t. let y = right_by (cross a b q) (cross a q b) (turned a q b) s in
      not_left (rising_out _ _ _ _ _ _ _ _ (balance p q a b) pa aq qb y (strictly (cross p q a) (pos 0) t) (less (cross a b q) (cross p q a) y t)) (inr t))
    where
      more : (y x : ℤ) → pos 0 <ℤ y → pos 0 ≤ℤ x → (neg_ℤ y +ℤ neg_ℤ x) <ℤ pos 0
      more y x h k = omega (arith, ints)

      less : (y x : ℤ) → y ≤ℤ pos 0 → x <ℤ pos 0 → (y +ℤ x) <ℤ pos 0
      less y x h k = omega (arith, ints)

-- ---- what an edge adds
-- 1 for a point above p and not above q that lies right of the line from p to q
beyond : Point → Point → Point → ℤ
beyond p q v = cond (is_above p v) (cond (is_above q v) (pos 0) (cond (int_lt (cross p q v) (pos 0)) (pos 1) (pos 0))) (pos 0)

low_beyond : (p q v : Point) → is_above p v ≡ false → beyond p q v ≡ pos 0
unfolding beyond
low_beyond p q v e = rw e refl

high_beyond : (p q v : Point) → is_above p v ≡ true → is_above q v ≡ true → beyond p q v ≡ pos 0
unfolding beyond
high_beyond p q v e f = rw (e, f) refl

mid_beyond : (p q v : Point) → is_above p v ≡ true → is_above q v ≡ false → beyond p q v ≡ cond (int_lt (cross p q v) (pos 0)) (pos 1) (pos 0)
unfolding beyond
mid_beyond p q v e f = rw (e, f) refl

above : (p a : Point) → is_above p a ≡ true → p.y <ℤ a.y
above p a e = omega (arith, ints)

not_above : (p a : Point) → is_above p a ≡ false → a.y ≤ℤ p.y
not_above p a e = omega (arith, ints)

-- an edge that rises, beside a segment that rises
adds_rising : (p q a b : Point) → p.y ≤ℤ q.y → a.y ≤ℤ b.y → (Meet p q a b → ⊥) → winding_of_edge p (edge a b) +ℤ beyond p q a ≡ winding_of_edge q (edge a b) +ℤ beyond p q b
adds_rising p q a b pq ab apart = go (is_above p a) (is_above q a) (is_above p b) (is_above q b) refl refl refl refl
  where
    go : (s t u v : Bool) → is_above p a ≡ s → is_above q a ≡ t → is_above p b ≡ u → is_above q b ≡ v → winding_of_edge p (edge a b) +ℤ beyond p q a ≡ winding_of_edge q (edge a b) +ℤ beyond p q b
    go false false false false e f g h = rw (flat p a b false e g, flat q a b false f h, low_beyond p q a e, low_beyond p q b g) refl
    go false false true false e f g h = rw (goes_up p a b e g, flat q a b false f h, low_beyond p q a e, mid_beyond p q b g h, same_in p q a b apart (not_above p a e) (above p b g) (not_above q b h)) (omega (arith, ints))
    go false false true true e f g h = rw (goes_up p a b e g, goes_up q a b f h, low_beyond p q a e, high_beyond p q b g h, same_pass p q a b apart (not_above p a e) pq (above q b h)) refl
    go true false true false e f g h = rw (flat p a b true e g, flat q a b false f h, mid_beyond p q a e f, mid_beyond p q b g h, same_side p q a b apart (above p a e) (not_above q a f) (above p b g) (not_above q b h)) refl
    go true false true true e f g h = rw (flat p a b true e g, goes_up q a b f h, mid_beyond p q a e f, high_beyond p q b g h, same_out p q a b apart (above p a e) (not_above q a f) (above q b h)) (omega (arith, ints))
    go true true true true e f g h = rw (flat p a b true e g, flat q a b true f h, high_beyond p q a e f, high_beyond p q b g h) refl
    go false true u v e f g h = let low = not_above p a e in let high = above q a f in absurd (omega (arith, ints))
    go false false false true e f g h = let low = not_above p b g in let high = above q b h in absurd (omega (arith, ints))
    go true false false false e f g h = let low = not_above p b g in let high = above p a e in absurd (omega (arith, ints))
    go true false false true e f g h = let low = not_above p b g in let high = above q b h in absurd (omega (arith, ints))
    go true true false v e f g h = let low = not_above p b g in let high = above p a e in absurd (omega (arith, ints))
    go true true true false e f g h = let low = not_above q b h in let high = above q a f in absurd (omega (arith, ints))

-- an edge read backwards takes away what it added
flipped : (p a b : Point) → winding_of_edge p (edge b a) ≡ neg_ℤ (winding_of_edge p (edge a b))
flipped p a b = go (is_above p a) (is_above p b) refl refl
  where
    go : (s t : Bool) → is_above p a ≡ s → is_above p b ≡ t → winding_of_edge p (edge b a) ≡ neg_ℤ (winding_of_edge p (edge a b))
    go true true e f = rw (flat p a b true e f, flat p b a true f e) refl
    go true false e f = rw (goes_down p a b e f, goes_up p b a f e) (omega (arith, ints))
    go false true e f = rw (goes_up p a b e f, goes_down p b a f e) refl
    go false false e f = rw (flat p a b false e f, flat p b a false f e) refl

module _ (p q : Point) (rises : p.y ≤ℤ q.y) where
  -- any edge, beside a segment that rises
  adds : (a b : Point) → (Meet p q a b → ⊥) → winding_of_edge p (edge a b) +ℤ beyond p q a ≡ winding_of_edge q (edge a b) +ℤ beyond p q b
  adds a b apart = elim (compared a.y b.y) [
    | inl up ↦ adds_rising p q a b rises up apart
    | inr down ↦ back _ _ _ _ _ _ (flipped p a b) (flipped q a b) (adds_rising p q b a rises (strictly b.y a.y down) (λ m. apart (meet_second_reversed p q a b m)))
  ]
    where
      back : (v w x y s t : ℤ) → v ≡ neg_ℤ x → w ≡ neg_ℤ y → v +ℤ t ≡ w +ℤ s → x +ℤ s ≡ y +ℤ t
      back v w x y s t e f g = omega (arith, ints)

  -- no edge of the path from a over the points to z meets the segment
  IsUnmet : Point → List Point → Point → Type 0
  IsUnmet a [] z = Meet p q a z → ⊥
  IsUnmet a (b ∷ bs) z = (Meet p q a b → ⊥) × IsUnmet b bs z

  path_adds : (a : Point) (bs : List Point) (z : Point) → IsUnmet a bs z → sum_of (winding_of_edge p) (edges_between a bs z) +ℤ beyond p q a ≡ sum_of (winding_of_edge q) (edges_between a bs z) +ℤ beyond p q z
  unfolding IsUnmet
  path_adds a [] z apart = alone (winding_of_edge p (edge a z)) (winding_of_edge q (edge a z)) (beyond p q a) (beyond p q z) (adds a z apart)
    where
      alone : (v w s t : ℤ) → v +ℤ s ≡ w +ℤ t → v +ℤ pos 0 +ℤ s ≡ w +ℤ pos 0 +ℤ t
      alone v w s t e = omega (arith, ints)
  path_adds a (b ∷ bs) z apart = joined (winding_of_edge p (edge a b)) (winding_of_edge q (edge a b)) (sum_of (winding_of_edge p) (edges_between b bs z)) (sum_of (winding_of_edge q) (edges_between b bs z)) (beyond p q a) (beyond p q b) (beyond p q z)
      (adds a b apart.0) (path_adds b bs z apart.1)
    where
      joined : (v w x y s t r : ℤ) → v +ℤ s ≡ w +ℤ t → x +ℤ t ≡ y +ℤ r → v +ℤ x +ℤ s ≡ w +ℤ y +ℤ r
      joined v w x y s t r e f = omega (arith, ints)

-- the point after the one at place k, round the contour
pub follower : List Point → ℕ → Point
follower [] k = origin
follower (a ∷ bs) k = get_or (bs ++ a ∷ []) k origin

pub follower_on : (c : List Point) (k : ℕ) → k + 1 < length c → follower c k ≡ point_at c (k + 1)
unfolding follower
follower_on [] k h = absurd (omega (arith, h))
follower_on (a ∷ bs) k h = get_or_append_left bs (a ∷ []) origin k (omega (arith, h)) ∙ ap (λ m. point_at (a ∷ bs) m) (next k)
  where
    next : (k : ℕ) → suc k ≡ k + 1
    next k = omega arith

pub follower_round : (c : List Point) (k : ℕ) → k + 1 ≡ length c → follower c k ≡ point_at c 0
unfolding follower
follower_round [] k e = absurd (omega (arith, e))
follower_round (a ∷ bs) k e =
    let last : k ≡ length bs = omega (arith, e) in
    ap (λ m. get_or (bs ++ a ∷ []) m origin) last ∙ get_or-append_seam bs a [] origin

module _ (p q : Point) where
  unmet_path : (rises : p.y ≤ℤ q.y) (a : Point) (bs : List Point) (z : Point) → ((k : ℕ) → k < suc (length bs) → Meet p q (get_or (a ∷ bs) k origin) (get_or (bs ++ z ∷ []) k origin) → ⊥) → IsUnmet p q rises a bs z
  unfolding IsUnmet
  unmet_path rises a [] z apart = apart 0 (omega arith)
  unmet_path rises a (b ∷ bs) z apart = (apart 0 (omega arith), unmet_path rises b bs z (λ k h. apart (suc k) (omega (arith, h))))

  -- a contour that doesn't meet a segment that rises winds as often about both ends
  same_rising : p.y ≤ℤ q.y → (c : List Point) → ((k : ℕ) → k < length c → Meet p q (point_at c k) (follower c k) → ⊥) → winding c p ≡ winding c q
  unfolding winding follower
  same_rising rises [] apart = refl
  same_rising rises (a ∷ bs) apart = cancelled (sum_of (winding_of_edge p) (edges_between a bs a)) (sum_of (winding_of_edge q) (edges_between a bs a)) (beyond p q a)
      (path_adds p q rises a bs a (unmet_path rises a bs a apart))
    where
      cancelled : (x y s : ℤ) → x +ℤ s ≡ y +ℤ s → x ≡ y
      cancelled x y s e = omega (arith, ints)

-- and one that falls
pub same_about_ends : (p q : Point) (c : List Point) → ((k : ℕ) → k < length c → Meet p q (point_at c k) (follower c k) → ⊥) → winding c p ≡ winding c q
same_about_ends p q c apart = elim (compared p.y q.y) [
  | inl up ↦ same_rising p q up c apart
  | inr down ↦ sym (same_rising q p (strictly q.y p.y down) c (λ k h m. apart k h (turned_round q p _ _ m)))
]
  where
    turned_round : (a b c e : Point) → Meet a b c e → Meet b a c e
    turned_round a b c e m = record { divisor = m.divisor; positive = m.positive; scaled = m.scaled; on_first = segment_reversed m.divisor m.scaled a b m.on_first; on_second = m.on_second }
