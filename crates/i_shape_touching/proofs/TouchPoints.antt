-- Where two segments touch: an end of one of them, and the only point that they share.
use Rattle.std.proofs.Common.{◌≡◌, ℕ, ◌+◌, ◌<◌, ◌≤◌, List, [], ◌∷◌, length, ℤ, pos, ◌+ℤ◌, ◌-ℤ◌, ◌*ℤ◌, ◌≤ℤ◌, ◌<ℤ◌, refl, sym, ap, subst, ◌∙◌, arith, ◌⊎◌, inl, inr}
use Rattle.std.proofs.lemmas.Bool.{cases_lt}
use Rattle.std.proofs.lemmas.Int.{ints}
use Rattle.std.proofs.Math.IntN.{*ℤ_comm}
use Rattle.i_shape_core.specs.Point.{Point, cross}
use Rattle.i_shape_core.specs.Contour.{point_at}
use Rattle.i_shape_core.specs.Rings.{offset, AreRising}
use Rattle.i_shape_core.proofs.Arithmetic.Polynomials.{number, variable, plus, times, minus, by_polynomials}
use Rattle.i_shape_core.proofs.Arithmetic.WholeNumbers.{zero_product, zero_of_positive, equal_of_difference}
use Rattle.i_shape_core.proofs.Lists.Rings.{rises_to}
use Rattle.i_shape_core.proofs.Plane.CrossProducts.{same_point}
use Rattle.i_shape_contacts.specs.Along.{AreAtMost, ShareRange}
use Rattle.i_shape_contacts.specs.Contacts.{IsAfter, IsRingContact, NoContact}
use Rattle.i_shape_contacts.specs.Courses.{Divides}
use Rattle.i_shape_contacts.specs.Kinds.{DoOverlap, DoTouch, EdgesLie}
use Rattle.i_shape_contacts.specs.Meeting.{IsOnSegment, IsPoint, Meet}
use Rattle.i_shape_contacts.proofs.Apart.{meet_swapped, shares_balance}
use Rattle.i_shape_contacts.proofs.ContactTests.{share_meets}
use Rattle.i_shape_contacts.proofs.Courses.{after_unique}
use Rattle.i_shape_contacts.proofs.Crossing.{slant, second_side, fourth_side}
use Rattle.i_shape_contacts.proofs.Overlaps.{along_overlap}
use Rattle.i_shape_contacts.proofs.Parting.{times_point, segment_scaled}
use Rattle.i_shape_contacts.proofs.Signs.{product_least, product_positive, compared}
use Rattle.i_shape_touching.specs.Places.{LiesOn}
use Rattle.i_shape_touching.specs.Touching.{IsEdgeOf, AreTouching, IsFaultyContact}

-- ---- points on a segment
-- a point that is there with some divisor
pub lies_by : (d : ℤ) (q p a b : Point) → pos 0 <ℤ d → IsPoint d q p → IsOnSegment d q a b → LiesOn (pos 1) p a b
lies_by d q p a b some is on = record {
  factor = d;
  positive = some;
  on = record {
    share = on.share;
    least = on.least;
    most = most on.share d on.most;
    x = sym is.x ∙ on.x ∙ ap (λ (z : ℤ). z *ℤ a.x +ℤ on.share *ℤ (b.x -ℤ a.x)) (once d);
    y = sym is.y ∙ on.y ∙ ap (λ (z : ℤ). z *ℤ a.y +ℤ on.share *ℤ (b.y -ℤ a.y)) (once d);
  };
}
  where
    most : (s d : ℤ) → s ≤ℤ d → s ≤ℤ (d *ℤ pos 1)
    most s d h = omega (arith, ints)

    once : (d : ℤ) → d ≡ d *ℤ pos 1
    once d = omega (arith, ints)

-- the start of a segment
pub start_lies : (a b : Point) → LiesOn (pos 1) a a b
start_lies a b = lies_by (pos 1) a a a b (omega (arith, ints)) (record { x = once a.x; y = once a.y }) (record { share = pos 0; least = omega (arith, ints); most = omega (arith, ints); x = none a.x b.x; y = none a.y b.y })
  where
    once : (z : ℤ) → z ≡ pos 1 *ℤ z
    once z = omega (arith, ints)

    none : (z w : ℤ) → z ≡ pos 1 *ℤ z +ℤ pos 0 *ℤ (w -ℤ z)
    none z w = omega (arith, ints)

-- the end of a segment
pub end_lies : (a b : Point) → LiesOn (pos 1) b a b
end_lies a b = lies_by (pos 1) b b a b (omega (arith, ints)) (record { x = once b.x; y = once b.y }) (record { share = pos 1; least = omega (arith, ints); most = omega (arith, ints); x = all a.x b.x; y = all a.y b.y })
  where
    once : (z : ℤ) → z ≡ pos 1 *ℤ z
    once z = omega (arith, ints)

    all : (z w : ℤ) → w ≡ pos 1 *ℤ z +ℤ pos 1 *ℤ (w -ℤ z)
    all z w = omega (arith, ints)

-- a point that a segment of that point alone shares
pub meet_lies : (p a b : Point) → Meet p p a b → LiesOn (pos 1) p a b
meet_lies p a b m = lies_by m.divisor m.scaled p a b m.positive (record { x = m.on_first.x ∙ still m.divisor m.on_first.share p.x; y = m.on_first.y ∙ still m.divisor m.on_first.share p.y }) m.on_second
  where
    still : (d s z : ℤ) → d *ℤ z +ℤ s *ℤ (z -ℤ z) ≡ d *ℤ z
    still d s z = by_polynomials (d ∷ s ∷ z ∷ []) (plus (times (variable 0) (variable 2)) (times (variable 1) (plus (variable 2) (minus (variable 2))))) (times (variable 0) (variable 2)) refl

-- a point that some divisor gives is shared by a segment of that point alone
point_meets : (d : ℤ) (q p a b : Point) → pos 0 <ℤ d → IsPoint d q p → IsOnSegment d q a b → Meet p p a b
point_meets d q p a b some is on = record {
  divisor = d;
  positive = some;
  scaled = q;
  on_first = record { share = pos 0; least = omega (arith, ints); most = weak d some; x = is.x ∙ still d p.x; y = is.y ∙ still d p.y };
  on_second = on;
}
  where
    weak : (d : ℤ) → pos 0 <ℤ d → pos 0 ≤ℤ d
    weak d h = omega (arith, ints)

    still : (d z : ℤ) → d *ℤ z ≡ d *ℤ z +ℤ pos 0 *ℤ (z -ℤ z)
    still d z = omega (arith, ints)

-- the place of share 0 is the start, and that of share d the end
at_start : (d : ℤ) (q a b : Point) (on : IsOnSegment d q a b) → on.share ≤ℤ pos 0 → IsPoint d q a
at_start d q a b on low = record { x = on.x ∙ none d a.x b.x; y = on.y ∙ none d a.y b.y }
  where
    zero_share : (s : ℤ) → pos 0 ≤ℤ s → s ≤ℤ pos 0 → s ≡ pos 0
    zero_share s h k = omega (arith, ints)

    less : (u w v : ℤ) → u +ℤ pos 0 *ℤ w ≡ u
    less u w v = omega (arith, ints)

    none : (d z w : ℤ) → d *ℤ z +ℤ on.share *ℤ (w -ℤ z) ≡ d *ℤ z
    none d z w = ap (λ (s : ℤ). d *ℤ z +ℤ s *ℤ (w -ℤ z)) (zero_share on.share on.least low) ∙ less (d *ℤ z) (w -ℤ z) w

at_end : (d : ℤ) (q a b : Point) (on : IsOnSegment d q a b) → d ≤ℤ on.share → IsPoint d q b
at_end d q a b on high = record { x = on.x ∙ all a.x b.x; y = on.y ∙ all a.y b.y }
  where
    whole : (s d : ℤ) → s ≤ℤ d → d ≤ℤ s → s ≡ d
    whole s d h k = omega (arith, ints)

    to_end : (d z w : ℤ) → d *ℤ z +ℤ d *ℤ (w -ℤ z) ≡ d *ℤ w
    to_end d z w = by_polynomials (d ∷ z ∷ w ∷ []) (plus (times (variable 0) (variable 1)) (times (variable 0) (plus (variable 2) (minus (variable 1))))) (times (variable 0) (variable 2)) refl

    all : (z w : ℤ) → d *ℤ z +ℤ on.share *ℤ (w -ℤ z) ≡ d *ℤ w
    all z w = ap (λ (s : ℤ). d *ℤ z +ℤ s *ℤ (w -ℤ z)) (whole on.share d on.most high) ∙ to_end d z w

-- ---- whole numbers
-- two numbers are equal or not
alike : (x y : ℤ) → (x ≡ y) ⊎ (x ≡ y → ⊥)
alike x y = elim (compared x y) [
  | inr more ↦ inr (above x y more)
  | inl low ↦ elim (compared y x) [ inl high ↦ inl (both x y low high) | inr less ↦ inr (below x y less) ]
]
  where
    above : (x y : ℤ) → y <ℤ x → x ≡ y → ⊥
    above x y h e = omega (arith, ints)

    below : (x y : ℤ) → x <ℤ y → x ≡ y → ⊥
    below x y h e = omega (arith, ints)

    both : (x y : ℤ) → x ≤ℤ y → y ≤ℤ x → x ≡ y
    both x y h k = omega (arith, ints)

-- numbers whose positive shares add up to 0 have opposite signs, if the first isn't 0
opposite : (u t x y : ℤ) → pos 0 <ℤ u → pos 0 <ℤ t → u *ℤ x +ℤ t *ℤ y ≡ pos 0 → (x ≡ pos 0) ⊎ (((pos 0 <ℤ x) × (y <ℤ pos 0)) ⊎ ((x <ℤ pos 0) × (pos 0 <ℤ y)))
opposite u t x y hu ht e = elim (compared x (pos 0)) [
  | inr above ↦ inr (inl (
    above,
    elim (compared (pos 0) y) [
      | inr less ↦ less
      | inl more ↦ absurd (clash (u *ℤ x) (t *ℤ y) (product_positive u x hu above) (product_least t y (weak t ht) more) e)
    ],
  ))
  | inl low ↦ elim (compared (pos 0) x) [
    | inl high ↦ inl (none x low high)
    | inr below ↦ inr (inr (
      below,
      elim (compared y (pos 0)) [
        | inr more ↦ more
        | inl less ↦ absurd (clash-below (u *ℤ (pos 0 -ℤ x)) (t *ℤ (pos 0 -ℤ y)) (u *ℤ x) (t *ℤ y) (product_positive u (pos 0 -ℤ x) hu (turned x below)) (product_least t (pos 0 -ℤ y) (weak t ht) (turned_least y less)) (negative u x) (negative t y) e)
      ],
    ))
  ]
]
  where
    weak : (z : ℤ) → pos 0 <ℤ z → pos 0 ≤ℤ z
    weak z h = omega (arith, ints)

    none : (z : ℤ) → z ≤ℤ pos 0 → pos 0 ≤ℤ z → z ≡ pos 0
    none z h k = omega (arith, ints)

    turned : (z : ℤ) → z <ℤ pos 0 → pos 0 <ℤ (pos 0 -ℤ z)
    turned z h = omega (arith, ints)

    turned_least : (z : ℤ) → z ≤ℤ pos 0 → pos 0 ≤ℤ (pos 0 -ℤ z)
    turned_least z h = omega (arith, ints)

    negative : (u x : ℤ) → u *ℤ (pos 0 -ℤ x) ≡ pos 0 -ℤ u *ℤ x
    negative u x = by_polynomials (u ∷ x ∷ []) (times (variable 0) (plus (number (pos 0)) (minus (variable 1)))) (plus (number (pos 0)) (minus (times (variable 0) (variable 1)))) refl

    clash : (p q : ℤ) → pos 0 <ℤ p → pos 0 ≤ℤ q → p +ℤ q ≡ pos 0 → ⊥
    clash p q h k e = omega (arith, ints)

    clash-below : (p q v w : ℤ) → pos 0 <ℤ p → pos 0 ≤ℤ q → p ≡ pos 0 -ℤ v → q ≡ pos 0 -ℤ w → v +ℤ w ≡ pos 0 → ⊥
    clash-below p q v w h k f g e = omega (arith, ints)

-- ---- segments that share a place between the ends of both
-- places of two ranges, neither a single number, between the ends of both: the first range doesn't end where the second
-- starts or before
not_past : (d s t a b c e p : ℤ) → pos 0 <ℤ s → s <ℤ d → pos 0 <ℤ t → t <ℤ d → p ≡ d *ℤ a +ℤ s *ℤ (b -ℤ a) → p ≡ d *ℤ c +ℤ t *ℤ (e -ℤ c) → (a ≡ b → ⊥) → AreAtMost a b c e → ⊥
not_past d s t a b c e p s0 sd t0 td first second differ h = elim (compared c e) [
  | inl ce ↦ clash p (d *ℤ c) (t *ℤ (e -ℤ c)) (d *ℤ c +ℤ t *ℤ (e -ℤ c)) (below c h.first h.second) second refl (product_least t (e -ℤ c) (weak t t0) (room e c ce))
  | inr ec ↦ clash p (d *ℤ e) ((d -ℤ t) *ℤ (c -ℤ e)) (d *ℤ c +ℤ t *ℤ (e -ℤ c)) (below e h.third h.fourth) second (from_end d t c e) (product_least (d -ℤ t) (c -ℤ e) (weak (d -ℤ t) (gap d t td)) (room c e (weaken e c ec)))
]
  where
    weak : (z : ℤ) → pos 0 <ℤ z → pos 0 ≤ℤ z
    weak z h = omega (arith, ints)

    weaken : (u v : ℤ) → u <ℤ v → u ≤ℤ v
    weaken u v h = omega (arith, ints)

    room : (u v : ℤ) → v ≤ℤ u → pos 0 ≤ℤ (u -ℤ v)
    room u v h = omega (arith, ints)

    gap : (u v : ℤ) → v <ℤ u → pos 0 <ℤ (u -ℤ v)
    gap u v h = omega (arith, ints)

    clash : (p m r q : ℤ) → p <ℤ m → p ≡ q → q ≡ m +ℤ r → pos 0 ≤ℤ r → ⊥
    clash p m r q h e f k = omega (arith, ints)

    from_end : (d t c e : ℤ) → d *ℤ c +ℤ t *ℤ (e -ℤ c) ≡ d *ℤ e +ℤ (d -ℤ t) *ℤ (c -ℤ e)
    from_end d t c e = by_polynomials (d ∷ t ∷ c ∷ e ∷ [])
        (plus (times (variable 0) (variable 2)) (times (variable 1) (plus (variable 3) (minus (variable 2)))))
        (plus (times (variable 0) (variable 3)) (times (plus (variable 0) (minus (variable 1))) (plus (variable 2) (minus (variable 3))))) refl

    rest : (d s a b m : ℤ) → d *ℤ m -ℤ (d *ℤ a +ℤ s *ℤ (b -ℤ a)) ≡ (d -ℤ s) *ℤ (m -ℤ a) +ℤ s *ℤ (m -ℤ b)
    rest d s a b m = by_polynomials (d ∷ s ∷ a ∷ b ∷ m ∷ [])
        (plus (times (variable 0) (variable 4)) (minus (plus (times (variable 0) (variable 2)) (times (variable 1) (plus (variable 3) (minus (variable 2)))))))
        (plus (times (plus (variable 0) (minus (variable 1))) (plus (variable 4) (minus (variable 2)))) (times (variable 1) (plus (variable 4) (minus (variable 3))))) refl

    close : (p q m u v : ℤ) → p ≡ q → m -ℤ q ≡ u +ℤ v → pos 0 <ℤ (u +ℤ v) → p <ℤ m
    close p q m u v e f h = omega (arith, ints)

    first_more : (u v : ℤ) → pos 0 <ℤ u → pos 0 ≤ℤ v → pos 0 <ℤ (u +ℤ v)
    first_more u v h k = omega (arith, ints)

    second_more : (u v : ℤ) → pos 0 ≤ℤ u → pos 0 <ℤ v → pos 0 <ℤ (u +ℤ v)
    second_more u v h k = omega (arith, ints)

    end_of : (a m : ℤ) → a ≤ℤ m → (m -ℤ a) ≤ℤ pos 0 → a ≡ m
    end_of a m h k = omega (arith, ints)

    further : (b m : ℤ) → b ≤ℤ m → (m ≡ b → ⊥) → pos 0 <ℤ (m -ℤ b)
    further b m h n = elim (compared (m -ℤ b) (pos 0)) [ inr more ↦ more | inl none ↦ absurd (n (sym (end_of b m h none))) ]

    below : (m : ℤ) → a ≤ℤ m → b ≤ℤ m → p <ℤ (d *ℤ m)
    below m am bm = close p (d *ℤ a +ℤ s *ℤ (b -ℤ a)) (d *ℤ m) ((d -ℤ s) *ℤ (m -ℤ a)) (s *ℤ (m -ℤ b)) first (rest d s a b m) (elim (compared (m -ℤ a) (pos 0)) [
      | inr more ↦ first_more _ _ (product_positive (d -ℤ s) (m -ℤ a) (gap d s sd) more) (product_least s (m -ℤ b) (weak s s0) (room m b bm))
      | inl none ↦ second_more _ _ (product_least (d -ℤ s) (m -ℤ a) (weak (d -ℤ s) (gap d s sd)) (room m a am)) (product_positive s (m -ℤ b) s0 (further b m bm (λ e. differ (end_of a m am none ∙ e))))
    ])

-- they share more than one number
share_range : (d s t a b c e p : ℤ) → pos 0 <ℤ s → s <ℤ d → pos 0 <ℤ t → t <ℤ d → p ≡ d *ℤ a +ℤ s *ℤ (b -ℤ a) → p ≡ d *ℤ c +ℤ t *ℤ (e -ℤ c) → (a ≡ b → ⊥) → (c ≡ e → ⊥) → ShareRange a b c e
share_range d s t a b c e p s0 sd t0 td first second ab ce = record {
  not_single = λ h. ab (both a b h.third h.second);
  other_not_single = λ h. ce (both c e h.third h.second);
  not_less = not_past d s t a b c e p s0 sd t0 td first second ab;
  not_more = not_past d t s c e a b p t0 td s0 sd second first ce;
}
  where
    both : (x y : ℤ) → x ≤ℤ y → y ≤ℤ x → x ≡ y
    both x y h k = omega (arith, ints)

-- an end of one of the segments lies on the other
abbrev pub IsAtEnd : Point → Point → Point → Point → Type 0
IsAtEnd a b c e = Meet a a c e ⊎ (Meet b b c e ⊎ (Meet c c a b ⊎ Meet e e a b))

-- parallel segments that share a place between the ends of both overlap, if neither is a single point
level_overlap : (a b c e : Point) (m : Meet a b c e) → pos 0 <ℤ m.on_first.share → m.on_first.share <ℤ m.divisor → pos 0 <ℤ m.on_second.share → m.on_second.share <ℤ m.divisor → slant a b c e ≡ pos 0
    → (DoOverlap a b c e → ⊥) → IsAtEnd a b c e
unfolding slant
level_overlap a b c e m s0 sd t0 td level none = elim (alike a.x b.x) [
  | inr ab ↦ elim (alike c.x e.x) [
    | inr ce ↦ absurd (none (along_overlap a b c e m (record { parallel = level; range = inl (share_range m.divisor m.on_first.share m.on_second.share a.x b.x c.x e.x m.scaled.x s0 sd t0 td m.on_first.x m.on_second.x ab ce) })))
    | inl ce ↦ elim (zero_product (b.x -ℤ a.x) (e.y -ℤ c.y) (first_product (b.x -ℤ a.x) (e.y -ℤ c.y) (b.y -ℤ a.y) (e.x -ℤ c.x) (no_way c.x e.x ce) level)) [
      | inl h ↦ absurd (ab (sym (equal_of_difference b.x a.x h)))
      | inr h ↦ second_single (same_point c e ce (sym (equal_of_difference e.y c.y h)))
    ]
  ]
  | inl ab ↦ elim (alike a.y b.y) [
    | inl too ↦ first_single (same_point a b ab too)
    | inr up ↦ elim (alike c.y e.y) [
      | inr ce ↦ absurd (none (along_overlap a b c e m (record { parallel = level; range = inr (share_range m.divisor m.on_first.share m.on_second.share a.y b.y c.y e.y m.scaled.y s0 sd t0 td m.on_first.y m.on_second.y up ce) })))
      | inl ce ↦ elim (zero_product (b.y -ℤ a.y) (e.x -ℤ c.x) (second_product (b.x -ℤ a.x) (e.y -ℤ c.y) (b.y -ℤ a.y) (e.x -ℤ c.x) (no_way a.x b.x ab) level)) [
        | inl h ↦ absurd (up (sym (equal_of_difference b.y a.y h)))
        | inr h ↦ second_single (same_point c e (sym (equal_of_difference e.x c.x h)) ce)
      ]
    ]
  ]
]
  where
    first_single : a ≡ b → IsAtEnd a b c e
    first_single same = inl (subst (λ (z : Point). Meet a z c e) (sym same) m)

    second_single : c ≡ e → IsAtEnd a b c e
    second_single same = inr (inr (inl (meet_swapped a b c c (subst (λ (z : Point). Meet a b c z) (sym same) m))))

    no_way : (x y : ℤ) → x ≡ y → y -ℤ x ≡ pos 0
    no_way x y h = omega (arith, ints)

    first_product : (u v w z : ℤ) → z ≡ pos 0 → u *ℤ v -ℤ w *ℤ z ≡ pos 0 → u *ℤ v ≡ pos 0
    first_product u v w z h e = drop (u *ℤ v) w (ap (λ (n : ℤ). u *ℤ v -ℤ w *ℤ n) (sym h) ∙ e)
      where
        drop : (p w : ℤ) → p -ℤ w *ℤ pos 0 ≡ pos 0 → p ≡ pos 0
        drop p w e = omega (arith, ints)

    second_product : (u v w z : ℤ) → u ≡ pos 0 → u *ℤ v -ℤ w *ℤ z ≡ pos 0 → w *ℤ z ≡ pos 0
    second_product u v w z h e = drop (w *ℤ z) v (ap (λ (n : ℤ). n *ℤ v -ℤ w *ℤ z) (sym h) ∙ e)
      where
        drop : (p v : ℤ) → pos 0 *ℤ v -ℤ p ≡ pos 0 → p ≡ pos 0
        drop p v e = omega (arith, ints)

-- segments that touch share an end of one of them
pub touch_end : (a b c e : Point) → DoTouch a b c e → IsAtEnd a b c e
touch_end a b c e touch = elim (compared s (pos 0)) [
  | inl low ↦ inl (point_meets d m.scaled a c e m.positive (at_start d m.scaled a b m.on_first low) m.on_second)
  | inr s0 ↦ elim (compared d s) [
    | inl high ↦ inr (inl (point_meets d m.scaled b c e m.positive (at_end d m.scaled a b m.on_first high) m.on_second))
    | inr sd ↦ elim (compared t (pos 0)) [
      | inl low ↦ inr (inr (inl (point_meets d m.scaled c a b m.positive (at_start d m.scaled c e m.on_second low) m.on_first)))
      | inr t0 ↦ elim (compared d t) [
        | inl high ↦ inr (inr (inr (point_meets d m.scaled e a b m.positive (at_end d m.scaled c e m.on_second high) m.on_first)))
        | inr td ↦ inside s0 sd t0 td
      ]
    ]
  ]
]
  where
    m : Meet a b c e
    m = touch.meet

    d : ℤ
    d = m.divisor

    s : ℤ
    s = m.on_first.share

    t : ℤ
    t = m.on_second.share

    gap : (u v : ℤ) → v <ℤ u → pos 0 <ℤ (u -ℤ v)
    gap u v h = omega (arith, ints)

    other_zero : (u t x y : ℤ) → pos 0 <ℤ t → x ≡ pos 0 → u *ℤ x +ℤ t *ℤ y ≡ pos 0 → y ≡ pos 0
    other_zero u t x y ht h e = zero_of_positive t y ht (drop u (t *ℤ y) (ap (λ (z : ℤ). u *ℤ z +ℤ t *ℤ y) (sym h) ∙ e))
      where
        drop : (u q : ℤ) → u *ℤ pos 0 +ℤ q ≡ pos 0 → q ≡ pos 0
        drop u q e = omega (arith, ints)

    rise : (x y k : ℤ) → x ≡ pos 0 → y ≡ pos 0 → y ≡ x +ℤ k → k ≡ pos 0
    rise x y k h j e = omega (arith, ints)

    fall : (x y k : ℤ) → x ≡ pos 0 → y ≡ pos 0 → y ≡ x -ℤ k → k ≡ pos 0
    fall x y k h j e = omega (arith, ints)

    inside : pos 0 <ℤ s → s <ℤ d → pos 0 <ℤ t → t <ℤ d → IsAtEnd a b c e
    inside s0 sd t0 td =
        let first = shares_balance d m.scaled a b c e m.on_first m.on_second in
        let second = shares_balance d m.scaled c e a b m.on_second m.on_first in
        elim (opposite (d -ℤ t) t (cross a b c) (cross a b e) (gap d t td) t0 first) [
          | inl h ↦ level_overlap a b c e m s0 sd t0 td (rise (cross a b c) (cross a b e) (slant a b c e) h (other_zero (d -ℤ t) t (cross a b c) (cross a b e) t0 h first) (second_side a b c e)) touch.sole
          | inr over ↦ elim (opposite (d -ℤ s) s (cross c e a) (cross c e b) (gap d s sd) s0 second) [
            | inl h ↦ level_overlap a b c e m s0 sd t0 td (fall (cross c e a) (cross c e b) (slant a b c e) h (other_zero (d -ℤ s) s (cross c e a) (cross c e b) s0 h second) (fourth_side a b c e)) touch.sole
            | inr across ↦ absurd (touch.not_across (record { second = over; first = across }))
          ]
        ]

-- if the other ends don't lie on the other segment, the last one does
pub last_end : (a b c e : Point) → DoTouch a b c e → (Meet a a c e → ⊥) → (Meet b b c e → ⊥) → (Meet c c a b → ⊥) → LiesOn (pos 1) e a b
last_end a b c e touch not_a not_b not_c = go (touch_end a b c e touch)
  where
    go : IsAtEnd a b c e → LiesOn (pos 1) e a b
    go (inl h) = absurd (not_a h)
    go (inr (inl h)) = absurd (not_b h)
    go (inr (inr (inl h))) = absurd (not_c h)
    go (inr (inr (inr h))) = meet_lies e a b h

-- ---- the only point
-- points are equal if they can't differ
points_stable : (p q : Point) → ((p ≡ q → ⊥) → ⊥) → p ≡ q
points_stable p q n = elim (alike p.x q.x) [
  | inr h ↦ absurd (n (λ e. h (ap (λ (z : Point). z.x) e)))
  | inl h ↦ elim (alike p.y q.y) [
    | inr k ↦ absurd (n (λ e. k (ap (λ (z : Point). z.y) e)))
    | inl k ↦ same_point p q h k
  ]
]

-- segments that touch share no two points that differ
pub sole_point : (a b c e : Point) (d n : ℤ) (p q : Point) → DoTouch a b c e → pos 0 <ℤ d → pos 0 <ℤ n → IsOnSegment d p a b → IsOnSegment d p c e → IsOnSegment n q a b → IsOnSegment n q c e → times_point n p ≡ times_point d q
sole_point a b c e d n p q touch some more one_first one_second other_first other_second = points_stable (times_point n p) (times_point d q) (λ differ. touch.sole (record {
  divisor = n *ℤ d;
  positive = product_positive n d more some;
  one = times_point n p;
  one_on_first = segment_scaled n d p a b more one_first;
  one_on_second = segment_scaled n d p c e more one_second;
  other = times_point d q;
  other_on_first = subst (λ (k : ℤ). IsOnSegment k (times_point d q) a b) (*ℤ_comm d n) (segment_scaled d n q a b some other_first);
  other_on_second = subst (λ (k : ℤ). IsOnSegment k (times_point d q) c e) (*ℤ_comm d n) (segment_scaled d n q c e some other_second);
  differ = differ;
}))

-- ---- the ring of an edge
-- a place below the end of a ring isn't one of a later ring
not_later : (offsets : List ℕ) (k r s : ℕ) → AreRising offsets (length offsets) → s + 1 < length offsets → k < offset offsets (r + 1) → offset offsets s ≤ k → r < s → ⊥
not_later offsets k r s order inside below from less =
    let rising : offset offsets (r + 1) ≤ offset offsets s = rises_to offsets (length offsets) (r + 1) s order (omega (arith, less)) (omega (arith, inside)) in
    omega (arith, rising, below, from)

-- an edge is one of one ring
pub edge_unique : (offsets : List ℕ) (k r s : ℕ) → Divides offsets → IsEdgeOf offsets r k → IsEdgeOf offsets s k → r ≡ s
edge_unique offsets k r s d f g = elim (cases_lt r s) [
  | inl l ↦ absurd (not_later offsets k r s d.order g.is_ring f.below g.from l)
  | inr l ↦ elim (cases_lt s r) [
    | inl b ↦ absurd (not_later offsets k s r d.order f.is_ring g.below f.from b)
    | inr b ↦ omega (arith, l, b)
  ]
]

-- ---- where no contact is faulty
module _ (offsets : List ℕ) (c : List Point) (divides : Divides offsets) (clear : NoContact (IsFaultyContact offsets c)) where
  -- the segments of edges that touch
  ends_touch : (i j i' j' : ℕ) → IsAfter offsets i i' → IsAfter offsets j j' → EdgesLie DoTouch (IsAfter offsets) c i j → DoTouch (point_at c i) (point_at c i') (point_at c j) (point_at c j')
  ends_touch i j i' j' first second h =
      subst (λ (m : ℕ). DoTouch (point_at c i) (point_at c i') (point_at c j) (point_at c m)) (after_unique offsets j h.second_end j' divides h.second_follows second)
      (subst (λ (m : ℕ). DoTouch (point_at c i) (point_at c m) (point_at c j) (point_at c h.second_end)) (after_unique offsets i h.first_end i' divides h.first_follows first) h.lie)

  -- the segments of edges in contact touch
  pub segments_touch : (i j i' j' : ℕ) → IsRingContact offsets c i j → IsAfter offsets i i' → IsAfter offsets j j' → DoTouch (point_at c i) (point_at c i') (point_at c j) (point_at c j')
  segments_touch i j i' j' h first second = record {
    meet = subst (λ (m : ℕ). Meet (point_at c i) (point_at c i') (point_at c j) (point_at c m)) (after_unique offsets j h.second_end j' divides h.second_follows second)
        (subst (λ (m : ℕ). Meet (point_at c i) (point_at c m) (point_at c j) (point_at c h.second_end)) (after_unique offsets i h.first_end i' divides h.first_follows first) (share_meets c i h.first_end j h.second_end h.shared));
    sole = λ over. clear.none i j (record { contact = h; more = λ t. (ends_touch i j i' j' first second t.touch).sole over });
    not_across = λ across. clear.none i j (record { contact = h; more = λ t. (ends_touch i j i' j' first second t.touch).not_across across });
  }

  -- edges in contact are of two rings, and touch
  pub edges_touch : (i j : ℕ) → IsRingContact offsets c i j → AreTouching offsets c i j
  edges_touch i j h = record {
    touch = record {
      first_end = h.first_end;
      first_follows = h.first_follows;
      second_end = h.second_end;
      second_follows = h.second_follows;
      lie = segments_touch i j h.first_end h.second_end h h.first_follows h.second_follows;
    };
    differ = λ r first second. clear.none i j (record { contact = h; more = λ t. t.differ r first second });
  }
