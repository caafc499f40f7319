-- A ring winds as often about two points with rational coordinates if no point of the segment between them lies on it.
use Rattle.std.proofs.Common.{◌≡◌, ℕ, ◌<◌, List, [], ◌∷◌, length, map, ℤ, pos, ◌+ℤ◌, ◌-ℤ◌, ◌*ℤ◌, ◌<ℤ◌, ◌≤ℤ◌, refl, sym, ap, ap₂, subst, ◌∙◌, arith, inl, inr}
use Rattle.std.proofs.lemmas.Int.{ints}
use Rattle.std.proofs.lemmas.List.{length-map}
use Rattle.std.proofs.Math.IntN.{*ℤ_comm}
use Rattle.i_shape_core.specs.Point.{Point}
use Rattle.i_shape_core.specs.Contour.{point_at, place_after}
use Rattle.i_shape_core.specs.Moves.{moved_point, moved, scaling}
use Rattle.i_shape_core.proofs.Arithmetic.Polynomials.{number, variable, plus, times, minus, by_polynomials}
use Rattle.i_shape_core.proofs.Moved.Mapped.{point_mapped, point_after_mapped}
use Rattle.i_shape_core.proofs.Removal.Places.{Follows, after_is}
use Rattle.i_shape_contacts.specs.Meeting.{IsOnSegment}
use Rattle.i_shape_contacts.proofs.Signs.{product_least, product_positive, mixed_least}
use Rattle.i_shape_contacts.proofs.SameWinding.{follower, follower_on, follower_round, same_about_ends}
use Rattle.i_shape_touching.specs.Places.{IsOnRing, winding_at}
use Rattle.i_shape_touching.proofs.PieceSegments.{on_lies}
use Rattle.i_shape_touching.proofs.Scaled.{scaled_point, order_kept, winding_scaled}

-- ---- the edges of a scaled ring
-- the follower of a point is the point at the place after it
pub follower_at : (c : List Point) (k : ℕ) → k < length c → follower c k ≡ point_at c (place_after (length c) k)
follower_at c k h = go (after_is (length c) k h)
  where
    go : Follows (length c) k (place_after (length c) k) → follower c k ≡ point_at c (place_after (length c) k)
    go (inl f) = follower_on c k f.0 ∙ sym (ap (λ (m : ℕ). point_at c m) f.1)
    go (inr f) = follower_round c k f.0 ∙ sym (ap (λ (m : ℕ). point_at c m) f.1)

-- a point on a scaled segment, by the segment
pub on_unscaled : (n g : ℤ) (z a b : Point) → pos 0 <ℤ n → IsOnSegment g z (moved_point (scaling n) a) (moved_point (scaling n) b) → IsOnSegment (g *ℤ n) z a b
on_unscaled n g z a b h s = record {
  share = n *ℤ s.share;
  least = product_least n s.share (omega (arith, ints)) s.least;
  most = subst (λ (m : ℤ). (n *ℤ s.share) ≤ℤ m) (*ℤ_comm n g) (order_kept n s.share g (omega (arith, ints)) s.most);
  x = s.x ∙ by_x n g s.share a.x a.y b.x b.y;
  y = s.y ∙ by_y n g s.share a.x a.y b.x b.y;
}
  where
    by_x : (n g s ax ay bx by : ℤ)
        → g *ℤ (n *ℤ ax +ℤ pos 0 *ℤ ay +ℤ pos 0) +ℤ s *ℤ (n *ℤ bx +ℤ pos 0 *ℤ by +ℤ pos 0 -ℤ (n *ℤ ax +ℤ pos 0 *ℤ ay +ℤ pos 0)) ≡ (g *ℤ n) *ℤ ax +ℤ (n *ℤ s) *ℤ (bx -ℤ ax)
    by_x n g s ax ay bx by =
        let first = plus (plus (times (variable 0) (variable 3)) (times (number (pos 0)) (variable 4))) (number (pos 0)) in
        let second = plus (plus (times (variable 0) (variable 5)) (times (number (pos 0)) (variable 6))) (number (pos 0)) in
        by_polynomials (n ∷ g ∷ s ∷ ax ∷ ay ∷ bx ∷ by ∷ [])
        (plus (times (variable 1) first) (times (variable 2) (plus second (minus first))))
        (plus (times (times (variable 1) (variable 0)) (variable 3)) (times (times (variable 0) (variable 2)) (plus (variable 5) (minus (variable 3))))) refl

    by_y : (n g s ax ay bx by : ℤ)
        → g *ℤ (pos 0 *ℤ ax +ℤ n *ℤ ay +ℤ pos 0) +ℤ s *ℤ (pos 0 *ℤ bx +ℤ n *ℤ by +ℤ pos 0 -ℤ (pos 0 *ℤ ax +ℤ n *ℤ ay +ℤ pos 0)) ≡ (g *ℤ n) *ℤ ay +ℤ (n *ℤ s) *ℤ (by -ℤ ay)
    by_y n g s ax ay bx by =
        let first = plus (plus (times (number (pos 0)) (variable 3)) (times (variable 0) (variable 4))) (number (pos 0)) in
        let second = plus (plus (times (number (pos 0)) (variable 5)) (times (variable 0) (variable 6))) (number (pos 0)) in
        by_polynomials (n ∷ g ∷ s ∷ ax ∷ ay ∷ bx ∷ by ∷ [])
        (plus (times (variable 1) first) (times (variable 2) (plus second (minus first))))
        (plus (times (times (variable 1) (variable 0)) (variable 4)) (times (times (variable 0) (variable 2)) (plus (variable 6) (minus (variable 4))))) refl

-- a point on an edge of a scaled ring lies on the ring
pub on_edge : (ring : List Point) (n g : ℤ) (z : Point) (k : ℕ) → pos 0 <ℤ n → k < length ring
    → IsOnSegment g z (point_at (moved (scaling n) ring) k) (follower (moved (scaling n) ring) k) → IsOnRing (g *ℤ n) z ring
on_edge ring n g z k h within s =
    let f = moved_point (scaling n) in
    let there : k < length (map f ring) = omega (arith, length-map ring f, within) in
    let start = point_mapped f ring k within in
    let end = follower_at (map f ring) k there ∙ point_after_mapped f ring k within in
    record {
      place = k;
      within = within;
      on = on_lies (g *ℤ n) z (point_at ring k) (point_at ring (place_after (length ring) k)) (on_unscaled n g z (point_at ring k) (point_at ring (place_after (length ring) k)) h
          (subst (λ (b : Point). IsOnSegment g z (f (point_at ring k)) b) end (subst (λ (a : Point). IsOnSegment g z a (follower (map f ring) k)) start s)));
    }

-- if no point of the segment from x / d to y / e lies on the ring, it winds as often about both
pub same_along : (ring : List Point) (d e : ℤ) (x y : Point) → pos 0 <ℤ d → pos 0 <ℤ e → ((g : ℤ) (z : Point) → pos 0 <ℤ g → IsOnSegment g z (record { x = e *ℤ x.x; y = e *ℤ x.y }) (record { x = d *ℤ y.x; y = d *ℤ y.y }) → IsOnRing (g *ℤ (d *ℤ e)) z ring → ⊥) → winding_at ring d x ≡ winding_at ring e y
same_along ring d e x y hd he apart =
    let c = moved (scaling (d *ℤ e)) ring in
    let both = product_positive d e hd he in
    sym (ap (λ (m : ℤ). winding_at ring m (scaled_point e x)) (*ℤ_comm d e) ∙ winding_scaled ring d e x he)
    ∙ same_about_ends (scaled_point e x) (scaled_point d y) c (λ k h m. apart m.divisor m.scaled m.positive m.on_first
    (on_edge ring (d *ℤ e) m.divisor m.scaled k both (omega (arith, length-map ring (moved_point (scaling (d *ℤ e))), h)) m.on_second))
    ∙ winding_scaled ring e d y hd

-- ---- convexity
-- g times the number u g-ths of the way from x to y
abbrev pub mixed : ℤ → ℤ → ℤ → ℤ → ℤ
mixed g u x y = (g -ℤ u) *ℤ x +ℤ u *ℤ y

-- what is left of a number
rest_least : (u g : ℤ) → u ≤ℤ g → pos 0 ≤ℤ (g -ℤ u)
rest_least u g h = omega (arith, ints)

-- it is at least g times l if both numbers are at least l
pub mixed_from : (g u x y l : ℤ) → pos 0 ≤ℤ u → u ≤ℤ g → l ≤ℤ x → l ≤ℤ y → (g *ℤ l) ≤ℤ mixed g u x y
mixed_from g u x y l low high hx hy =
    up (g *ℤ l) (mixed g u x y) ((g -ℤ u) *ℤ (x -ℤ l) +ℤ u *ℤ (y -ℤ l)) factored
    (mixed_least (g -ℤ u) u (x -ℤ l) (y -ℤ l) (rest_least u g high) low (rest_least l x hx) (rest_least l y hy))
  where
    factored : (g -ℤ u) *ℤ (x -ℤ l) +ℤ u *ℤ (y -ℤ l) ≡ mixed g u x y -ℤ g *ℤ l
    factored = by_polynomials (g ∷ u ∷ x ∷ y ∷ l ∷ [])
        (plus (times (plus (variable 0) (minus (variable 1))) (plus (variable 2) (minus (variable 4)))) (times (variable 1) (plus (variable 3) (minus (variable 4)))))
        (plus (plus (times (plus (variable 0) (minus (variable 1))) (variable 2)) (times (variable 1) (variable 3))) (minus (times (variable 0) (variable 4)))) refl

    up : (s t z : ℤ) → z ≡ t -ℤ s → pos 0 ≤ℤ z → s ≤ℤ t
    up s t z e h = omega (arith, ints)

-- it is at most g times m if both numbers are at most m
pub mixed_to : (g u x y m : ℤ) → pos 0 ≤ℤ u → u ≤ℤ g → x ≤ℤ m → y ≤ℤ m → mixed g u x y ≤ℤ (g *ℤ m)
mixed_to g u x y m low high hx hy =
    up (mixed g u x y) (g *ℤ m) ((g -ℤ u) *ℤ (m -ℤ x) +ℤ u *ℤ (m -ℤ y)) factored
    (mixed_least (g -ℤ u) u (m -ℤ x) (m -ℤ y) (rest_least u g high) low (rest_least x m hx) (rest_least y m hy))
  where
    factored : (g -ℤ u) *ℤ (m -ℤ x) +ℤ u *ℤ (m -ℤ y) ≡ g *ℤ m -ℤ mixed g u x y
    factored = by_polynomials (g ∷ u ∷ x ∷ y ∷ m ∷ [])
        (plus (times (plus (variable 0) (minus (variable 1))) (plus (variable 4) (minus (variable 2)))) (times (variable 1) (plus (variable 4) (minus (variable 3)))))
        (plus (times (variable 0) (variable 4)) (minus (plus (times (plus (variable 0) (minus (variable 1))) (variable 2)) (times (variable 1) (variable 3))))) refl

    up : (s t z : ℤ) → z ≡ t -ℤ s → pos 0 ≤ℤ z → s ≤ℤ t
    up s t z e h = omega (arith, ints)

-- z divided by n lies on the segment from a to b, with this share
pub record IsMixed (a b : Point) (n : ℤ) (z : Point) (share : ℤ) : Type 0 where
  pub on : IsOnSegment n z a b
  pub is : on.share ≡ share

-- a point of the segment between two points of a segment lies on that segment, with the mixed share
pub within_mixed : (a b : Point) (d e g : ℤ) (p q z : Point) → pos 0 <ℤ d → pos 0 <ℤ e
    → (hp : IsOnSegment d p a b) → (hq : IsOnSegment e q a b) → (hz : IsOnSegment g z (scaled_point e p) (scaled_point d q))
    → IsMixed a b (g *ℤ (d *ℤ e)) z (mixed g hz.share (e *ℤ hp.share) (d *ℤ hq.share))
within_mixed a b d e g p q z hd he hp hq hz = record {
  on = record {
    share = mixed g hz.share (e *ℤ hp.share) (d *ℤ hq.share);
    least = mixed_least (g -ℤ hz.share) hz.share (e *ℤ hp.share) (d *ℤ hq.share) (rest_least hz.share g hz.most) hz.least
        (product_least e hp.share (weak e he) hp.least) (product_least d hq.share (weak d hd) hq.least);
    most = mixed_to g hz.share (e *ℤ hp.share) (d *ℤ hq.share) (d *ℤ e) hz.least hz.most
        (subst (λ (m : ℤ). (e *ℤ hp.share) ≤ℤ m) (*ℤ_comm e d) (order_kept e hp.share d (weak e he) hp.most))
        (order_kept d hq.share e (weak d hd) hq.most);
    x = hz.x ∙ ap₂ (λ (s t : ℤ). g *ℤ (e *ℤ s) +ℤ hz.share *ℤ (d *ℤ t -ℤ e *ℤ s)) hp.x hq.x ∙ by_shares d e g hp.share hq.share hz.share a.x b.x;
    y = hz.y ∙ ap₂ (λ (s t : ℤ). g *ℤ (e *ℤ s) +ℤ hz.share *ℤ (d *ℤ t -ℤ e *ℤ s)) hp.y hq.y ∙ by_shares d e g hp.share hq.share hz.share a.y b.y;
  };
  is = refl;
}
  where
    weak : (n : ℤ) → pos 0 <ℤ n → pos 0 ≤ℤ n
    weak n h = omega (arith, ints)

    by_shares : (d e g s t u a b : ℤ)
        → g *ℤ (e *ℤ (d *ℤ a +ℤ s *ℤ (b -ℤ a))) +ℤ u *ℤ (d *ℤ (e *ℤ a +ℤ t *ℤ (b -ℤ a)) -ℤ e *ℤ (d *ℤ a +ℤ s *ℤ (b -ℤ a)))
        ≡ (g *ℤ (d *ℤ e)) *ℤ a +ℤ mixed g u (e *ℤ s) (d *ℤ t) *ℤ (b -ℤ a)
    by_shares d e g s t u a b =
        let way = plus (variable 7) (minus (variable 6)) in
        let first = times (variable 1) (plus (times (variable 0) (variable 6)) (times (variable 3) way)) in
        let second = times (variable 0) (plus (times (variable 1) (variable 6)) (times (variable 4) way)) in
        by_polynomials (d ∷ e ∷ g ∷ s ∷ t ∷ u ∷ a ∷ b ∷ [])
        (plus (times (variable 2) first) (times (variable 5) (plus second (minus first))))
        (plus (times (times (variable 2) (times (variable 0) (variable 1))) (variable 6))
        (times (plus (times (plus (variable 2) (minus (variable 5))) (times (variable 1) (variable 3))) (times (variable 5) (times (variable 0) (variable 4)))) way)) refl

-- a point of the segment between two points of a segment lies on that segment
pub within_segment : (a b : Point) (d e g : ℤ) (p q z : Point) → pos 0 <ℤ d → pos 0 <ℤ e → pos 0 <ℤ g → IsOnSegment d p a b → IsOnSegment e q a b → IsOnSegment g z (record { x = e *ℤ p.x; y = e *ℤ p.y }) (record { x = d *ℤ q.x; y = d *ℤ q.y }) → IsOnSegment (g *ℤ (d *ℤ e)) z a b
within_segment a b d e g p q z hd he hg hp hq hz = (within_mixed a b d e g p q z hd he hp hq hz).on
