-- Points with rational coordinates on a segment.
use Rattle.std.proofs.Common.{◌≡◌, [], ◌∷◌, ℤ, pos, ◌+ℤ◌, ◌-ℤ◌, ◌*ℤ◌, ◌≤ℤ◌, ◌<ℤ◌, refl, sym, ap, subst, ◌∙◌, arith}
use Rattle.std.proofs.lemmas.Int.{ints}
use Rattle.i_shape_core.specs.Point.{Point}
use Rattle.i_shape_core.proofs.Arithmetic.Polynomials.{variable, plus, times, minus, by_polynomials}
use Rattle.i_shape_contacts.specs.Meeting.{IsOnSegment, Meet}
use Rattle.i_shape_contacts.proofs.Parting.{times_point, segment_scaled}
use Rattle.i_shape_contacts.proofs.Signs.{product_least, product_positive, mixed_least}
use Rattle.i_shape_touching.specs.Places.{LiesOn, sum_of_points}
use Rattle.i_shape_touching.proofs.PieceNumbers.{weak, share_between}

-- the same numbers, written otherwise
pub on_same : (d e : ℤ) (p q a b : Point) → d ≡ e → p.x ≡ q.x → p.y ≡ q.y → IsOnSegment d p a b → IsOnSegment e q a b
on_same d e p q a b de x y on = record {
  share = on.share;
  least = on.least;
  most = subst (λ (z : ℤ). on.share ≤ℤ z) de on.most;
  x = sym x ∙ on.x ∙ ap (λ (z : ℤ). z *ℤ a.x +ℤ on.share *ℤ (b.x -ℤ a.x)) de;
  y = sym y ∙ on.y ∙ ap (λ (z : ℤ). z *ℤ a.y +ℤ on.share *ℤ (b.y -ℤ a.y)) de;
}

-- a share of the way lies on the segment
pub on_lies : (d : ℤ) (p a b : Point) → IsOnSegment d p a b → LiesOn d p a b
on_lies d p a b on = record { factor = pos 1; positive = omega (arith, ints); on = segment_scaled (pos 1) d p a b (omega (arith, ints)) on }

swapped : (n f z : ℤ) → n *ℤ (f *ℤ z) ≡ f *ℤ (n *ℤ z)
swapped n f z = by_polynomials (n ∷ f ∷ z ∷ []) (times (variable 0) (times (variable 1) (variable 2))) (times (variable 1) (times (variable 0) (variable 2))) refl

associated : (n f z : ℤ) → n *ℤ (f *ℤ z) ≡ (n *ℤ f) *ℤ z
associated n f z = by_polynomials (n ∷ f ∷ z ∷ []) (times (variable 0) (times (variable 1) (variable 2))) (times (times (variable 0) (variable 1)) (variable 2)) refl

-- a point of a segment lies on it with both numbers taken n times
pub lies_scaled : (n d : ℤ) (p a b : Point) → pos 0 <ℤ n → LiesOn d p a b → LiesOn (n *ℤ d) (times_point n p) a b
lies_scaled n d p a b above h = record {
  factor = h.factor;
  positive = h.positive;
  on = on_same (n *ℤ (h.factor *ℤ d)) (h.factor *ℤ (n *ℤ d)) (times_point n (times_point h.factor p)) (times_point h.factor (times_point n p)) a b
      (swapped n h.factor d) (swapped n h.factor p.x) (swapped n h.factor p.y) (segment_scaled n (h.factor *ℤ d) (times_point h.factor p) a b above h.on);
}

-- one point in other numbers lies on the segment too
pub lies_same : (d e : ℤ) (p q a b : Point) → pos 0 <ℤ d → pos 0 <ℤ e → e *ℤ p.x ≡ d *ℤ q.x → e *ℤ p.y ≡ d *ℤ q.y → LiesOn d p a b → LiesOn e q a b
lies_same d e p q a b d_above e_above x y h = record {
  factor = h.factor *ℤ d;
  positive = product_positive h.factor d h.positive d_above;
  on = on_same (e *ℤ (h.factor *ℤ d)) ((h.factor *ℤ d) *ℤ e) (times_point e (times_point h.factor p)) (times_point (h.factor *ℤ d) q) a b
      (by_polynomials (d ∷ e ∷ h.factor ∷ []) (times (variable 1) (times (variable 2) (variable 0))) (times (times (variable 2) (variable 0)) (variable 1)) refl)
      (swapped e h.factor p.x ∙ ap (λ (z : ℤ). h.factor *ℤ z) x ∙ associated h.factor d q.x)
      (swapped e h.factor p.y ∙ ap (λ (z : ℤ). h.factor *ℤ z) y ∙ associated h.factor d q.y)
      (segment_scaled e (h.factor *ℤ d) (times_point h.factor p) a b e_above h.on);
}

-- a point that lies on two segments does so by one factor
pub record LiesOnBoth (d : ℤ) (p a b c e : Point) : Type 0 where
  pub factor : ℤ
  pub positive : pos 0 <ℤ factor
  pub on_first : IsOnSegment (factor *ℤ d) (times_point factor p) a b
  pub on_second : IsOnSegment (factor *ℤ d) (times_point factor p) c e

pub lies_on_both : (d : ℤ) (p a b c e : Point) → LiesOn d p a b → LiesOn d p c e → LiesOnBoth d p a b c e
lies_on_both d p a b c e f g = record {
  factor = g.factor *ℤ f.factor;
  positive = product_positive g.factor f.factor g.positive f.positive;
  on_first = on_same (g.factor *ℤ (f.factor *ℤ d)) ((g.factor *ℤ f.factor) *ℤ d) (times_point g.factor (times_point f.factor p)) (times_point (g.factor *ℤ f.factor) p) a b
      (associated g.factor f.factor d) (associated g.factor f.factor p.x) (associated g.factor f.factor p.y) (segment_scaled g.factor (f.factor *ℤ d) (times_point f.factor p) a b g.positive f.on);
  on_second = on_same (f.factor *ℤ (g.factor *ℤ d)) ((g.factor *ℤ f.factor) *ℤ d) (times_point f.factor (times_point g.factor p)) (times_point (g.factor *ℤ f.factor) p) c e
      (swapped f.factor g.factor d ∙ associated g.factor f.factor d) (swapped f.factor g.factor p.x ∙ associated g.factor f.factor p.x) (swapped f.factor g.factor p.y ∙ associated g.factor f.factor p.y)
      (segment_scaled f.factor (g.factor *ℤ d) (times_point g.factor p) c e f.positive g.on);
}

-- so they meet
pub lies_meet : (d : ℤ) (p a b c e : Point) → pos 0 <ℤ d → LiesOn d p a b → LiesOn d p c e → Meet a b c e
lies_meet d p a b c e d_above f g =
    let both = lies_on_both d p a b c e f g in
    record {
      divisor = both.factor *ℤ d;
      positive = product_positive both.factor d both.positive d_above;
      scaled = times_point both.factor p;
      on_first = both.on_first;
      on_second = both.on_second;
    }

-- what lies between two points of a segment lies on it
pub lies_between : (a b : Point) (d e g : ℤ) (p q z : Point) → pos 0 <ℤ d → pos 0 <ℤ e → LiesOn d p a b → LiesOn e q a b → IsOnSegment g z (times_point e p) (times_point d q) → LiesOn (g *ℤ (d *ℤ e)) z a b
lies_between a b d e g p q z d_above e_above h k on = record {
  factor = h.factor *ℤ k.factor;
  positive = product_positive h.factor k.factor h.positive k.positive;
  on = record {
    share = (g -ℤ on.share) *ℤ ((e *ℤ k.factor) *ℤ h.on.share) +ℤ on.share *ℤ ((d *ℤ h.factor) *ℤ k.on.share);
    least = mixed_least (g -ℤ on.share) on.share ((e *ℤ k.factor) *ℤ h.on.share) ((d *ℤ h.factor) *ℤ k.on.share) (rest g on.share on.most) on.least
        (product_least (e *ℤ k.factor) h.on.share (weak (e *ℤ k.factor) e_k) h.on.least) (product_least (d *ℤ h.factor) k.on.share (weak (d *ℤ h.factor) d_h) k.on.least);
    most = close ((h.factor *ℤ k.factor) *ℤ (g *ℤ (d *ℤ e))) ((g -ℤ on.share) *ℤ ((e *ℤ k.factor) *ℤ h.on.share) +ℤ on.share *ℤ ((d *ℤ h.factor) *ℤ k.on.share))
        ((g -ℤ on.share) *ℤ ((e *ℤ k.factor) *ℤ (h.factor *ℤ d -ℤ h.on.share)) +ℤ on.share *ℤ ((d *ℤ h.factor) *ℤ (k.factor *ℤ e -ℤ k.on.share)))
        (by_polynomials (h.factor ∷ k.factor ∷ g ∷ on.share ∷ d ∷ e ∷ h.on.share ∷ k.on.share ∷ [])
        (plus (times (times (variable 0) (variable 1)) (times (variable 2) (times (variable 4) (variable 5))))
        (minus (plus (times (plus (variable 2) (minus (variable 3))) (times (times (variable 5) (variable 1)) (variable 6))) (times (variable 3) (times (times (variable 4) (variable 0)) (variable 7))))))
        (plus (times (plus (variable 2) (minus (variable 3))) (times (times (variable 5) (variable 1)) (plus (times (variable 0) (variable 4)) (minus (variable 6)))))
        (times (variable 3) (times (times (variable 4) (variable 0)) (plus (times (variable 1) (variable 5)) (minus (variable 7)))))) refl)
        (mixed_least (g -ℤ on.share) on.share ((e *ℤ k.factor) *ℤ (h.factor *ℤ d -ℤ h.on.share)) ((d *ℤ h.factor) *ℤ (k.factor *ℤ e -ℤ k.on.share)) (rest g on.share on.most) on.least
        (product_least (e *ℤ k.factor) (h.factor *ℤ d -ℤ h.on.share) (weak (e *ℤ k.factor) e_k) (rest (h.factor *ℤ d) h.on.share h.on.most))
        (product_least (d *ℤ h.factor) (k.factor *ℤ e -ℤ k.on.share) (weak (d *ℤ h.factor) d_h) (rest (k.factor *ℤ e) k.on.share k.on.most)));
    x = share_between h.factor k.factor g on.share d e h.on.share k.on.share a.x b.x p.x q.x z.x h.on.x k.on.x on.x;
    y = share_between h.factor k.factor g on.share d e h.on.share k.on.share a.y b.y p.y q.y z.y h.on.y k.on.y on.y;
  };
}
  where
    rest : (x s : ℤ) → s ≤ℤ x → pos 0 ≤ℤ (x -ℤ s)
    rest x s l = omega (arith, ints)

    e_k : pos 0 <ℤ (e *ℤ k.factor)
    e_k = product_positive e k.factor e_above k.positive

    d_h : pos 0 <ℤ (d *ℤ h.factor)
    d_h = product_positive d h.factor d_above h.positive

    close : (x y z : ℤ) → x -ℤ y ≡ z → pos 0 ≤ℤ z → y ≤ℤ x
    close x y z same l = omega (arith, ints)

-- the ends of a segment lie on it
pub on_start : (a b : Point) → IsOnSegment (pos 1) a a b
on_start a b = record { share = pos 0; least = omega (arith, ints); most = omega (arith, ints); x = still a.x b.x; y = still a.y b.y }
  where
    still : (x y : ℤ) → x ≡ pos 1 *ℤ x +ℤ pos 0 *ℤ (y -ℤ x)
    still x y = omega (arith, ints)

pub on_end : (a b : Point) → IsOnSegment (pos 1) b a b
on_end a b = record { share = pos 1; least = omega (arith, ints); most = omega (arith, ints); x = whole a.x b.x; y = whole a.y b.y }
  where
    whole : (x y : ℤ) → y ≡ pos 1 *ℤ x +ℤ pos 1 *ℤ (y -ℤ x)
    whole x y = omega (arith, ints)

pub lies_at_start : (a b : Point) → LiesOn (pos 1) a a b
lies_at_start a b = on_lies (pos 1) a a b (on_start a b)

pub lies_at_end : (a b : Point) → LiesOn (pos 1) b a b
lies_at_end a b = on_lies (pos 1) b a b (on_end a b)

-- so does the middle between two of its points
pub lies_middle : (p q a b : Point) → LiesOn (pos 1) p a b → LiesOn (pos 1) q a b → LiesOn (pos 2) (sum_of_points p q) a b
lies_middle p q a b h k = lies_between a b (pos 1) (pos 1) (pos 2) p q (sum_of_points p q) (omega (arith, ints)) (omega (arith, ints)) h k (record {
  share = pos 1;
  least = omega (arith, ints);
  most = omega (arith, ints);
  x = half p.x q.x;
  y = half p.y q.y;
})
  where
    half : (x y : ℤ) → x +ℤ y ≡ pos 2 *ℤ (pos 1 *ℤ x) +ℤ pos 1 *ℤ (pos 1 *ℤ y -ℤ pos 1 *ℤ x)
    half x y = omega (arith, ints)
