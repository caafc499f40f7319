-- Segments that share a point share another exactly where they are parallel, and share more than one number in a
-- coordinate.
use Rattle.std.proofs.Common.{◌≡◌, ◌↔◌, Bool, true, false, not, ◌&&◌, ◌||◌, IsTrue, [], ◌∷◌, ℤ, pos, ◌+ℤ◌, ◌-ℤ◌, ◌*ℤ◌, neg_ℤ, ◌≤ℤ◌, ◌<ℤ◌, refl, sym, ap, ◌∙◌, arith, ◌⊎◌, inl, inr}
use Rattle.std.proofs.lemmas.Int.{ints}
use Rattle.i_shape_core.specs.Point.{Point, cross}
use Rattle.i_shape_core.proofs.Arithmetic.Polynomials.{Term, variable, plus, times, minus, by_polynomials}
use Rattle.i_shape_core.proofs.Arithmetic.WholeNumbers.{zero_product}
use Rattle.i_shape_core.proofs.Plane.CrossProducts.{coordinates, same_point, cross_term, A, B, C, D}
use Rattle.i_shape_contacts.specs.Meeting.{IsOnSegment, Meet}
use Rattle.i_shape_contacts.specs.Along.{AreAtMost, ShareRange, AreAlong}
use Rattle.i_shape_contacts.specs.Kinds.{DoCross, DoOverlap}
use Rattle.i_shape_contacts.proofs.Signs.{product_least, product_positive, mixed_least, compared}
use Rattle.i_shape_contacts.proofs.Apart.{meet_straddle}
use Rattle.i_shape_contacts.proofs.Crossing.{slant, second_side, segment_reversed}

-- the cross product of the ways along both segments, as a polynomial
abbrev ways_term : Term
ways_term = plus (times (plus B.x (minus A.x)) (plus D.y (minus C.y))) (minus (times (plus B.y (minus A.y)) (plus D.x (minus C.x))))

-- ---- segments of one line that share more than one number in a coordinate
heights_differ : (v : ℤ) (a b c e : Point) → ((b.x -ℤ a.x) *ℤ (e.x -ℤ c.x)) *ℤ c.y +ℤ ((v -ℤ c.x) *ℤ (b.x -ℤ a.x)) *ℤ (e.y -ℤ c.y)
    ≡ (((b.x -ℤ a.x) *ℤ (e.x -ℤ c.x)) *ℤ a.y +ℤ ((v -ℤ a.x) *ℤ (e.x -ℤ c.x)) *ℤ (b.y -ℤ a.y)) +ℤ ((e.x -ℤ c.x) *ℤ cross a b c +ℤ (v -ℤ c.x) *ℤ slant a b c e)
unfolding cross slant
heights_differ v a b c e = by_polynomials (a.x ∷ a.y ∷ b.x ∷ b.y ∷ c.x ∷ c.y ∷ e.x ∷ e.y ∷ v ∷ [])
    (plus (times (times (plus B.x (minus A.x)) (plus D.x (minus C.x))) C.y) (times (times (plus (variable 8) (minus C.x)) (plus B.x (minus A.x))) (plus D.y (minus C.y))))
    (plus (plus (times (times (plus B.x (minus A.x)) (plus D.x (minus C.x))) A.y) (times (times (plus (variable 8) (minus A.x)) (plus D.x (minus C.x))) (plus B.y (minus A.y))))
    (plus (times (plus D.x (minus C.x)) (cross_term A B C)) (times (plus (variable 8) (minus C.x)) ways_term))) refl

-- at each x of both, the points of both segments are one
one_height : (v : ℤ) (a b c e : Point) → slant a b c e ≡ pos 0 → cross a b c ≡ pos 0
    → ((b.x -ℤ a.x) *ℤ (e.x -ℤ c.x)) *ℤ a.y +ℤ ((v -ℤ a.x) *ℤ (e.x -ℤ c.x)) *ℤ (b.y -ℤ a.y) ≡ ((b.x -ℤ a.x) *ℤ (e.x -ℤ c.x)) *ℤ c.y +ℤ ((v -ℤ c.x) *ℤ (b.x -ℤ a.x)) *ℤ (e.y -ℤ c.y)
one_height v a b c e level line =
    sym (heights_differ v a b c e ∙ ap (λ (z : ℤ). first +ℤ ((e.x -ℤ c.x) *ℤ z +ℤ (v -ℤ c.x) *ℤ slant a b c e)) line ∙ ap (λ (z : ℤ). first +ℤ ((e.x -ℤ c.x) *ℤ pos 0 +ℤ (v -ℤ c.x) *ℤ z)) level ∙ plus_none first (e.x -ℤ c.x) (v -ℤ c.x))
  where
    first : ℤ
    first = ((b.x -ℤ a.x) *ℤ (e.x -ℤ c.x)) *ℤ a.y +ℤ ((v -ℤ a.x) *ℤ (e.x -ℤ c.x)) *ℤ (b.y -ℤ a.y)

    plus_none : (x v w : ℤ) → x +ℤ (v *ℤ pos 0 +ℤ w *ℤ pos 0) ≡ x
    plus_none x v w = omega (arith, ints)

-- a share of a product is at most the whole
share_most : (u v w : ℤ) → pos 0 ≤ℤ w → u ≤ℤ v → (u *ℤ w) ≤ℤ (v *ℤ w)
share_most u v w h k = close (u *ℤ w) (v *ℤ w) ((v -ℤ u) *ℤ w) (product_least (v -ℤ u) w (room u v k) h) (by_polynomials (u ∷ v ∷ w ∷ []) (times (plus (variable 1) (minus (variable 0))) (variable 2)) (plus (times (variable 1) (variable 2)) (minus (times (variable 0) (variable 2)))) refl)
  where
    room : (u v : ℤ) → u ≤ℤ v → pos 0 ≤ℤ (v -ℤ u)
    room u v h = omega (arith, ints)

    close : (p q r : ℤ) → pos 0 ≤ℤ r → r ≡ q -ℤ p → p ≤ℤ q
    close p q r h e = omega (arith, ints)

module _ (a b c e : Point) (ab : a.x <ℤ b.x) (ce : c.x <ℤ e.x) (level : slant a b c e ≡ pos 0) (line : cross a b c ≡ pos 0) where
  abbrev d : ℤ
  d = (b.x -ℤ a.x) *ℤ (e.x -ℤ c.x)

  gap : (u v : ℤ) → u <ℤ v → pos 0 <ℤ (v -ℤ u)
  gap u v h = omega (arith, ints)

  room : (u v : ℤ) → u ≤ℤ v → pos 0 ≤ℤ (v -ℤ u)
  room u v h = omega (arith, ints)

  weak : (u v : ℤ) → u <ℤ v → u ≤ℤ v
  weak u v h = omega (arith, ints)

  less : (u v w : ℤ) → u ≤ℤ v → (u -ℤ w) ≤ℤ (v -ℤ w)
  less u v w h = omega (arith, ints)

  above : pos 0 <ℤ d
  above = product_positive (b.x -ℤ a.x) (e.x -ℤ c.x) (gap a.x b.x ab) (gap c.x e.x ce)

  -- the point at x
  abbrev at : ℤ → Point
  at v = record { x = d *ℤ v; y = d *ℤ a.y +ℤ ((v -ℤ a.x) *ℤ (e.x -ℤ c.x)) *ℤ (b.y -ℤ a.y) }

  on_first : (v : ℤ) → a.x ≤ℤ v → v ≤ℤ b.x → IsOnSegment d (at v) a b
  on_first v low high = record {
    share = (v -ℤ a.x) *ℤ (e.x -ℤ c.x);
    least = product_least (v -ℤ a.x) (e.x -ℤ c.x) (room a.x v low) (weak (pos 0) (e.x -ℤ c.x) (gap c.x e.x ce));
    most = share_most (v -ℤ a.x) (b.x -ℤ a.x) (e.x -ℤ c.x) (weak (pos 0) (e.x -ℤ c.x) (gap c.x e.x ce)) (less v b.x a.x high);
    x = by_polynomials (a.x ∷ a.y ∷ b.x ∷ b.y ∷ c.x ∷ c.y ∷ e.x ∷ e.y ∷ v ∷ [])
        (times (times (plus B.x (minus A.x)) (plus D.x (minus C.x))) (variable 8))
        (plus (times (times (plus B.x (minus A.x)) (plus D.x (minus C.x))) A.x) (times (times (plus (variable 8) (minus A.x)) (plus D.x (minus C.x))) (plus B.x (minus A.x)))) refl;
    y = refl;
  }

  on_second : (v : ℤ) → c.x ≤ℤ v → v ≤ℤ e.x → IsOnSegment d (at v) c e
  on_second v low high = record {
    share = (v -ℤ c.x) *ℤ (b.x -ℤ a.x);
    least = product_least (v -ℤ c.x) (b.x -ℤ a.x) (room c.x v low) (weak (pos 0) (b.x -ℤ a.x) (gap a.x b.x ab));
    most = flip ((v -ℤ c.x) *ℤ (b.x -ℤ a.x)) ((e.x -ℤ c.x) *ℤ (b.x -ℤ a.x)) d (share_most (v -ℤ c.x) (e.x -ℤ c.x) (b.x -ℤ a.x) (weak (pos 0) (b.x -ℤ a.x) (gap a.x b.x ab)) (less v e.x c.x high))
        (by_polynomials (a.x ∷ a.y ∷ b.x ∷ b.y ∷ c.x ∷ c.y ∷ e.x ∷ []) (times (plus D.x (minus C.x)) (plus B.x (minus A.x))) (times (plus B.x (minus A.x)) (plus D.x (minus C.x))) refl);
    x = by_polynomials (a.x ∷ a.y ∷ b.x ∷ b.y ∷ c.x ∷ c.y ∷ e.x ∷ e.y ∷ v ∷ [])
        (times (times (plus B.x (minus A.x)) (plus D.x (minus C.x))) (variable 8))
        (plus (times (times (plus B.x (minus A.x)) (plus D.x (minus C.x))) C.x) (times (times (plus (variable 8) (minus C.x)) (plus B.x (minus A.x))) (plus D.x (minus C.x)))) refl;
    y = one_height v a b c e level line;
  }
    where
      flip : (p q r : ℤ) → p ≤ℤ q → q ≡ r → p ≤ℤ r
      flip p q r h k = omega (arith, ints)

  -- two numbers of both ranges give two points
  between : (v w : ℤ) → v <ℤ w → a.x ≤ℤ v → c.x ≤ℤ v → w ≤ℤ b.x → w ≤ℤ e.x → DoOverlap a b c e
  between v w up av cv wb we = record {
    divisor = d;
    positive = above;
    one = at v;
    one_on_first = on_first v av (through v w b.x up wb);
    one_on_second = on_second v cv (through v w e.x up we);
    other = at w;
    other_on_first = on_first w (back a.x v w av up) wb;
    other_on_second = on_second w (back c.x v w cv up) we;
    differ = λ same. never (d *ℤ v) (d *ℤ w) (d *ℤ (w -ℤ v)) (product_positive d (w -ℤ v) above (gap v w up)) (by_polynomials (d ∷ v ∷ w ∷ []) (times (variable 0) (plus (variable 2) (minus (variable 1)))) (plus (times (variable 0) (variable 2)) (minus (times (variable 0) (variable 1)))) refl) (ap (λ (p : Point). p.x) same);
  }
    where
      through : (v w z : ℤ) → v <ℤ w → w ≤ℤ z → v ≤ℤ z
      through v w z h k = omega (arith, ints)

      back : (z v w : ℤ) → z ≤ℤ v → v <ℤ w → z ≤ℤ w
      back z v w h k = omega (arith, ints)

      never : (p q r : ℤ) → pos 0 <ℤ r → r ≡ q -ℤ p → p ≡ q → ⊥
      never p q r h e f = omega (arith, ints)

  -- the greater start and the lesser end
  rising : c.x <ℤ b.x → a.x <ℤ e.x → DoOverlap a b c e
  rising cb ae = elim (compared a.x c.x) [
    | inl ac ↦ elim (compared b.x e.x) [
      | inl be ↦ between c.x b.x cb ac (own c.x) (own b.x) be
      | inr eb ↦ between c.x e.x ce ac (own c.x) (weak e.x b.x eb) (own e.x)
    ]
    | inr ca ↦ elim (compared b.x e.x) [
      | inl be ↦ between a.x b.x ab (own a.x) (weak c.x a.x ca) (own b.x) be
      | inr eb ↦ between a.x e.x ae (own a.x) (weak c.x a.x ca) (weak e.x b.x eb) (own e.x)
    ]
  ]
    where
      own : (z : ℤ) → z ≤ℤ z
      own z = omega (arith, ints)

-- ---- segments read backwards, and with their coordinates swapped
first_reversed : (a b c e : Point) → DoOverlap b a c e → DoOverlap a b c e
first_reversed a b c e o = record {
  divisor = o.divisor;
  positive = o.positive;
  one = o.one;
  one_on_first = segment_reversed o.divisor o.one b a o.one_on_first;
  one_on_second = o.one_on_second;
  other = o.other;
  other_on_first = segment_reversed o.divisor o.other b a o.other_on_first;
  other_on_second = o.other_on_second;
  differ = o.differ;
}

second_reversed : (a b c e : Point) → DoOverlap a b e c → DoOverlap a b c e
second_reversed a b c e o = record {
  divisor = o.divisor;
  positive = o.positive;
  one = o.one;
  one_on_first = o.one_on_first;
  one_on_second = segment_reversed o.divisor o.one e c o.one_on_second;
  other = o.other;
  other_on_first = o.other_on_first;
  other_on_second = segment_reversed o.divisor o.other e c o.other_on_second;
  differ = o.differ;
}

slant_second_reversed : (a b c e : Point) → slant a b e c ≡ neg_ℤ (slant a b c e)
unfolding slant
slant_second_reversed a b c e = by_polynomials (coordinates (a ∷ b ∷ c ∷ e ∷ [])) (plus (times (plus B.x (minus A.x)) (plus C.y (minus D.y))) (minus (times (plus B.y (minus A.y)) (plus C.x (minus D.x))))) (minus ways_term) refl

line_first_reversed : (a b c : Point) → cross b a c ≡ neg_ℤ (cross a b c)
unfolding cross
line_first_reversed a b c = by_polynomials (coordinates (a ∷ b ∷ c ∷ [])) (cross_term B A C) (minus (cross_term A B C)) refl

slant_first_reversed : (a b c e : Point) → slant b a c e ≡ neg_ℤ (slant a b c e)
unfolding slant
slant_first_reversed a b c e = by_polynomials (coordinates (a ∷ b ∷ c ∷ e ∷ [])) (plus (times (plus A.x (minus B.x)) (plus D.y (minus C.y))) (minus (times (plus A.y (minus B.y)) (plus D.x (minus C.x))))) (minus ways_term) refl

negated : (x y : ℤ) → y ≡ neg_ℤ x → x ≡ pos 0 → y ≡ pos 0
negated x y e h = omega (arith, ints)

abbrev mirrored : Point → Point
mirrored p = record { x = p.y; y = p.x }

segment_mirrored : (d : ℤ) (p a b : Point) → IsOnSegment d p (mirrored a) (mirrored b) → IsOnSegment d (mirrored p) a b
segment_mirrored d p a b h = record { share = h.share; least = h.least; most = h.most; x = h.y; y = h.x }

overlap_mirrored : (a b c e : Point) → DoOverlap (mirrored a) (mirrored b) (mirrored c) (mirrored e) → DoOverlap a b c e
overlap_mirrored a b c e o = record {
  divisor = o.divisor;
  positive = o.positive;
  one = mirrored o.one;
  one_on_first = segment_mirrored o.divisor o.one a b o.one_on_first;
  one_on_second = segment_mirrored o.divisor o.one c e o.one_on_second;
  other = mirrored o.other;
  other_on_first = segment_mirrored o.divisor o.other a b o.other_on_first;
  other_on_second = segment_mirrored o.divisor o.other c e o.other_on_second;
  differ = λ same. o.differ (same_point o.one o.other (ap (λ (p : Point). p.y) same) (ap (λ (p : Point). p.x) same));
}

slant_mirrored : (a b c e : Point) → slant (mirrored a) (mirrored b) (mirrored c) (mirrored e) ≡ neg_ℤ (slant a b c e)
unfolding slant
slant_mirrored a b c e = by_polynomials (coordinates (a ∷ b ∷ c ∷ e ∷ [])) (plus (times (plus B.y (minus A.y)) (plus D.x (minus C.x))) (minus (times (plus B.x (minus A.x)) (plus D.y (minus C.y))))) (minus ways_term) refl

line_mirrored : (a b c : Point) → cross (mirrored a) (mirrored b) (mirrored c) ≡ neg_ℤ (cross a b c)
unfolding cross
line_mirrored a b c = by_polynomials (coordinates (a ∷ b ∷ c ∷ [])) (plus (times (plus B.y (minus A.y)) (plus C.x (minus B.x))) (minus (times (plus B.x (minus A.x)) (plus C.y (minus B.y))))) (minus (cross_term A B C)) refl

-- ---- any ranges
-- ranges in order that share more than one number
reached : (a b c e : ℤ) → a <ℤ b → c <ℤ e → (AreAtMost a b c e → ⊥) → c <ℤ b
reached a b c e ab ce none = elim (compared b c) [
  | inr h ↦ h
  | inl bc ↦ absurd (none (record { first = one a b c ab bc; second = bc; third = two a b c e ab ce bc; fourth = three b c e ce bc }))
]
  where
    one : (a b c : ℤ) → a <ℤ b → b ≤ℤ c → a ≤ℤ c
    one a b c h k = omega (arith, ints)

    two : (a b c e : ℤ) → a <ℤ b → c <ℤ e → b ≤ℤ c → a ≤ℤ e
    two a b c e h k l = omega (arith, ints)

    three : (b c e : ℤ) → c <ℤ e → b ≤ℤ c → b ≤ℤ e
    three b c e h k = omega (arith, ints)

-- the ends of a range that isn't a single number are in order one way
ordered : (a b : ℤ) → (AreAtMost a b a b → ⊥) → (a <ℤ b) ⊎ (b <ℤ a)
ordered a b n = elim (compared a b) [
  | inr h ↦ inr h
  | inl h ↦ elim (compared b a) [
    | inr k ↦ inl k
    | inl k ↦ absurd (n (record { first = own a; second = k; third = h; fourth = own b }))
  ]
]
  where
    own : (z : ℤ) → z ≤ℤ z
    own z = omega (arith, ints)

first_turned : (a b c e : ℤ) → AreAtMost b a c e → AreAtMost a b c e
first_turned a b c e h = record { first = h.second; second = h.first; third = h.fourth; fourth = h.third }

second_turned : (a b c e : ℤ) → AreAtMost a b e c → AreAtMost a b c e
second_turned a b c e h = record { first = h.third; second = h.fourth; third = h.first; fourth = h.second }

range_turned : (a b c e : ℤ) → ShareRange a b c e → ShareRange b a c e
range_turned a b c e s = record {
  not_single = λ h. s.not_single (second_turned a b a b (first_turned a b b a h));
  other_not_single = s.other_not_single;
  not_less = λ h. s.not_less (first_turned a b c e h);
  not_more = λ h. s.not_more (second_turned c e a b h);
}

-- ends at one height over a line, between which it passes, lie on it
on_line : (x y d : ℤ) → d ≡ pos 0 → y ≡ x +ℤ d → (x ≤ℤ pos 0) ⊎ (y ≤ℤ pos 0) → (pos 0 ≤ℤ x) ⊎ (pos 0 ≤ℤ y) → x ≡ pos 0
on_line x y d e f (inl h) (inl k) = omega (arith, ints)
on_line x y d e f (inl h) (inr k) = omega (arith, ints)
on_line x y d e f (inr h) (inl k) = omega (arith, ints)
on_line x y d e f (inr h) (inr k) = omega (arith, ints)

-- segments of one line, the first one rising
second_way : (a b c e : Point) → a.x <ℤ b.x → slant a b c e ≡ pos 0 → cross a b c ≡ pos 0 → ShareRange a.x b.x c.x e.x → DoOverlap a b c e
second_way a b c e ab level line s = elim (ordered c.x e.x s.other_not_single) [
  | inl ce ↦ rising a b c e ab ce level line (reached a.x b.x c.x e.x ab ce s.not_less) (reached c.x e.x a.x b.x ce ab s.not_more)
  | inr ec ↦ second_reversed a b c e (rising a b e c ab ec (negated (slant a b c e) (slant a b e c) (slant_second_reversed a b c e) level) (second_side a b c e ∙ both_none (cross a b c) (slant a b c e) line level)
      (reached a.x b.x e.x c.x ab ec (λ h. s.not_less (second_turned a.x b.x c.x e.x h))) (reached e.x c.x a.x b.x ec ab (λ h. s.not_more (first_turned c.x e.x a.x b.x h))))
]
  where
    both_none : (x y : ℤ) → x ≡ pos 0 → y ≡ pos 0 → x +ℤ y ≡ pos 0
    both_none x y h k = omega (arith, ints)

by_x : (a b c e : Point) → slant a b c e ≡ pos 0 → cross a b c ≡ pos 0 → ShareRange a.x b.x c.x e.x → DoOverlap a b c e
by_x a b c e level line s = elim (ordered a.x b.x s.not_single) [
  | inl ab ↦ second_way a b c e ab level line s
  | inr ba ↦ first_reversed a b c e (second_way b a c e ba (negated (slant a b c e) (slant b a c e) (slant_first_reversed a b c e) level) (negated (cross a b c) (cross b a c) (line_first_reversed a b c) line) (range_turned a.x b.x c.x e.x s))
]

by_either : (a b c e : Point) → slant a b c e ≡ pos 0 → cross a b c ≡ pos 0 → ShareRange a.x b.x c.x e.x ⊎ ShareRange a.y b.y c.y e.y → DoOverlap a b c e
by_either a b c e level line (inl s) = by_x a b c e level line s
by_either a b c e level line (inr s) = overlap_mirrored a b c e (by_x (mirrored a) (mirrored b) (mirrored c) (mirrored e) (negated (slant a b c e) _ (slant_mirrored a b c e) level) (negated (cross a b c) _ (line_mirrored a b c) line) s)

-- segments along one another that share a point share another
pub along_overlap : (a b c e : Point) → Meet a b c e → AreAlong a b c e → DoOverlap a b c e
unfolding slant
along_overlap a b c e m h =
    let sides = meet_straddle a b c e m in
    by_either a b c e h.parallel (on_line (cross a b c) (cross a b e) (slant a b c e) h.parallel (second_side a b c e) sides.not_left sides.not_right) h.range

-- ---- the other way
-- a place between a and b is at most d times what both are at most
place_most : (d s a b h p : ℤ) → pos 0 ≤ℤ s → s ≤ℤ d → p ≡ d *ℤ a +ℤ s *ℤ (b -ℤ a) → a ≤ℤ h → b ≤ℤ h → p ≤ℤ (d *ℤ h)
place_most d s a b h p least most e ah bh =
    close (d *ℤ h) p (d *ℤ a +ℤ s *ℤ (b -ℤ a)) ((d -ℤ s) *ℤ (h -ℤ a) +ℤ s *ℤ (h -ℤ b)) e
    (by_polynomials (d ∷ s ∷ a ∷ b ∷ h ∷ [])
    (plus (times (variable 0) (variable 4)) (minus (plus (times (variable 0) (variable 2)) (times (variable 1) (plus (variable 3) (minus (variable 2)))))))
    (plus (times (plus (variable 0) (minus (variable 1))) (plus (variable 4) (minus (variable 2)))) (times (variable 1) (plus (variable 4) (minus (variable 3))))) refl)
    (mixed_least (d -ℤ s) s (h -ℤ a) (h -ℤ b) (rest d s most) least (rest h a ah) (rest h b bh))
  where
    rest : (x y : ℤ) → y ≤ℤ x → pos 0 ≤ℤ (x -ℤ y)
    rest x y h = omega (arith, ints)

    close : (x p q r : ℤ) → p ≡ q → x -ℤ q ≡ r → pos 0 ≤ℤ r → p ≤ℤ x
    close x p q r e f h = omega (arith, ints)

-- and at least d times what both are at least
place_least : (d s a b l p : ℤ) → pos 0 ≤ℤ s → s ≤ℤ d → p ≡ d *ℤ a +ℤ s *ℤ (b -ℤ a) → l ≤ℤ a → l ≤ℤ b → (d *ℤ l) ≤ℤ p
place_least d s a b l p least most e la lb =
    close (d *ℤ l) p (d *ℤ a +ℤ s *ℤ (b -ℤ a)) ((d -ℤ s) *ℤ (a -ℤ l) +ℤ s *ℤ (b -ℤ l)) e
    (by_polynomials (d ∷ s ∷ a ∷ b ∷ l ∷ [])
    (plus (plus (times (variable 0) (variable 2)) (times (variable 1) (plus (variable 3) (minus (variable 2))))) (minus (times (variable 0) (variable 4))))
    (plus (times (plus (variable 0) (minus (variable 1))) (plus (variable 2) (minus (variable 4)))) (times (variable 1) (plus (variable 3) (minus (variable 4))))) refl)
    (mixed_least (d -ℤ s) s (a -ℤ l) (b -ℤ l) (rest d s most) least (rest a l la) (rest b l lb))
  where
    rest : (x y : ℤ) → y ≤ℤ x → pos 0 ≤ℤ (x -ℤ y)
    rest x y h = omega (arith, ints)

    close : (x p q r : ℤ) → p ≡ q → q -ℤ x ≡ r → pos 0 ≤ℤ r → x ≤ℤ p
    close x p q r e f h = omega (arith, ints)

-- no place of a range lies below one of another range that ends where the first starts or before
not_past : (d s t a b c e h p q : ℤ) → pos 0 ≤ℤ s → s ≤ℤ d → pos 0 ≤ℤ t → t ≤ℤ d → p ≡ d *ℤ c +ℤ t *ℤ (e -ℤ c) → q ≡ d *ℤ a +ℤ s *ℤ (b -ℤ a)
    → p <ℤ q → a ≤ℤ h → b ≤ℤ h → h ≤ℤ c → h ≤ℤ e → ⊥
not_past d s t a b c e h p q s0 sd t0 td is_p is_q up ah bh hc he = close p q (d *ℤ h) (place_most d s a b h q s0 sd is_q ah bh) (place_least d t c e h p t0 td is_p hc he) up
  where
    close : (p q z : ℤ) → q ≤ℤ z → z ≤ℤ p → p <ℤ q → ⊥
    close p q z h k l = omega (arith, ints)

not_below : (d s t a b c e p q : ℤ) → pos 0 ≤ℤ s → s ≤ℤ d → pos 0 ≤ℤ t → t ≤ℤ d → p ≡ d *ℤ c +ℤ t *ℤ (e -ℤ c) → q ≡ d *ℤ a +ℤ s *ℤ (b -ℤ a) → p <ℤ q → AreAtMost a b c e → ⊥
not_below d s t a b c e p q s0 sd t0 td is_p is_q up h = elim (compared c e) [
  | inl ce ↦ not_past d s t a b c e c p q s0 sd t0 td is_p is_q up h.first h.second (own c) ce
  | inr ec ↦ not_past d s t a b c e e p q s0 sd t0 td is_p is_q up h.third h.fourth (weak e c ec) (own e)
]
  where
    own : (z : ℤ) → z ≤ℤ z
    own z = omega (arith, ints)

    weak : (u v : ℤ) → u <ℤ v → u ≤ℤ v
    weak u v h = omega (arith, ints)

-- two different places of two ranges: these share more than one number
places_range : (d p q a b c e s1 s2 t1 t2 : ℤ)
    → pos 0 ≤ℤ s1 → s1 ≤ℤ d → pos 0 ≤ℤ s2 → s2 ≤ℤ d → pos 0 ≤ℤ t1 → t1 ≤ℤ d → pos 0 ≤ℤ t2 → t2 ≤ℤ d
    → p ≡ d *ℤ a +ℤ s1 *ℤ (b -ℤ a) → p ≡ d *ℤ c +ℤ t1 *ℤ (e -ℤ c) → q ≡ d *ℤ a +ℤ s2 *ℤ (b -ℤ a) → q ≡ d *ℤ c +ℤ t2 *ℤ (e -ℤ c)
    → p <ℤ q → ShareRange a b c e
places_range d p q a b c e s1 s2 t1 t2 s10 s1d s20 s2d t10 t1d t20 t2d p1 p2 q1 q2 up = record {
  not_single = not_below d s2 s1 a b a b p q s20 s2d s10 s1d p1 q1 up;
  other_not_single = not_below d t2 t1 c e c e p q t20 t2d t10 t1d p2 q2 up;
  not_less = not_below d s2 t1 a b c e p q s20 s2d t10 t1d p2 q1 up;
  not_more = not_below d t2 s1 c e a b p q t20 t2d s10 s1d p1 q2 up;
}

range_x : (a b c e : Point) (o : DoOverlap a b c e) → o.one.x <ℤ o.other.x → ShareRange a.x b.x c.x e.x
range_x a b c e o = places_range o.divisor o.one.x o.other.x a.x b.x c.x e.x o.one_on_first.share o.other_on_first.share o.one_on_second.share o.other_on_second.share
    o.one_on_first.least o.one_on_first.most o.other_on_first.least o.other_on_first.most o.one_on_second.least o.one_on_second.most o.other_on_second.least o.other_on_second.most
    o.one_on_first.x o.one_on_second.x o.other_on_first.x o.other_on_second.x

range_y : (a b c e : Point) (o : DoOverlap a b c e) → o.one.y <ℤ o.other.y → ShareRange a.y b.y c.y e.y
range_y a b c e o = places_range o.divisor o.one.y o.other.y a.y b.y c.y e.y o.one_on_first.share o.other_on_first.share o.one_on_second.share o.other_on_second.share
    o.one_on_first.least o.one_on_first.most o.other_on_first.least o.other_on_first.most o.one_on_second.least o.one_on_second.most o.other_on_second.least o.other_on_second.most
    o.one_on_first.y o.one_on_second.y o.other_on_first.y o.other_on_second.y

abbrev swapped : (a b c e : Point) → DoOverlap a b c e → DoOverlap a b c e
swapped a b c e o = record {
  divisor = o.divisor;
  positive = o.positive;
  one = o.other;
  one_on_first = o.other_on_first;
  one_on_second = o.other_on_second;
  other = o.one;
  other_on_first = o.one_on_first;
  other_on_second = o.one_on_second;
  differ = λ same. o.differ (sym same);
}

-- what lies between two places of a range
way_between : (d s t a b p q : ℤ) → p ≡ d *ℤ a +ℤ s *ℤ (b -ℤ a) → q ≡ d *ℤ a +ℤ t *ℤ (b -ℤ a) → (t -ℤ s) *ℤ (b -ℤ a) ≡ q -ℤ p
way_between d s t a b p q f g =
    by_polynomials (d ∷ s ∷ t ∷ a ∷ b ∷ [])
    (times (plus (variable 2) (minus (variable 1))) (plus (variable 4) (minus (variable 3))))
    (plus (plus (times (variable 0) (variable 3)) (times (variable 2) (plus (variable 4) (minus (variable 3))))) (minus (plus (times (variable 0) (variable 3)) (times (variable 1) (plus (variable 4) (minus (variable 3))))))) refl
    ∙ less (d *ℤ a +ℤ t *ℤ (b -ℤ a)) (d *ℤ a +ℤ s *ℤ (b -ℤ a)) p q f g
  where
    less : (x y p q : ℤ) → p ≡ y → q ≡ x → x -ℤ y ≡ q -ℤ p
    less x y p q f g = omega (arith, ints)

slant_shares : (u w : ℤ) (a b c e : Point) → u *ℤ (b.x -ℤ a.x) ≡ w *ℤ (e.x -ℤ c.x) → u *ℤ (b.y -ℤ a.y) ≡ w *ℤ (e.y -ℤ c.y) → u *ℤ slant a b c e ≡ pos 0
unfolding slant
slant_shares u w a b c e f g =
    by_polynomials (a.x ∷ a.y ∷ b.x ∷ b.y ∷ c.x ∷ c.y ∷ e.x ∷ e.y ∷ u ∷ [])
    (times (variable 8) ways_term)
    (plus (times (times (variable 8) (plus B.x (minus A.x))) (plus D.y (minus C.y))) (minus (times (times (variable 8) (plus B.y (minus A.y))) (plus D.x (minus C.x))))) refl
    ∙ ap (λ (z : ℤ). z *ℤ (e.y -ℤ c.y) -ℤ (u *ℤ (b.y -ℤ a.y)) *ℤ (e.x -ℤ c.x)) f
    ∙ ap (λ (z : ℤ). (w *ℤ (e.x -ℤ c.x)) *ℤ (e.y -ℤ c.y) -ℤ z *ℤ (e.x -ℤ c.x)) g
    ∙ by_polynomials (w ∷ (e.x -ℤ c.x) ∷ (e.y -ℤ c.y) ∷ [])
    (plus (times (times (variable 0) (variable 1)) (variable 2)) (minus (times (times (variable 0) (variable 2)) (variable 1))))
    (plus (variable 0) (minus (variable 0))) refl
    ∙ nothing w
  where
    nothing : (z : ℤ) → z -ℤ z ≡ pos 0
    nothing z = omega (arith, ints)

-- segments that share two points are parallel
overlap_level : (a b c e : Point) → DoOverlap a b c e → slant a b c e ≡ pos 0
overlap_level a b c e o =
    let u = o.other_on_first.share -ℤ o.one_on_first.share in
    let w = o.other_on_second.share -ℤ o.one_on_second.share in
    let first_x = way_between o.divisor o.one_on_first.share o.other_on_first.share a.x b.x o.one.x o.other.x o.one_on_first.x o.other_on_first.x in
    let first_y = way_between o.divisor o.one_on_first.share o.other_on_first.share a.y b.y o.one.y o.other.y o.one_on_first.y o.other_on_first.y in
    let second_x = way_between o.divisor o.one_on_second.share o.other_on_second.share c.x e.x o.one.x o.other.x o.one_on_second.x o.other_on_second.x in
    let second_y = way_between o.divisor o.one_on_second.share o.other_on_second.share c.y e.y o.one.y o.other.y o.one_on_second.y o.other_on_second.y in
    elim (zero_product u (slant a b c e) (slant_shares u w a b c e (first_x ∙ sym second_x) (first_y ∙ sym second_y))) [
      | inr level ↦ level
      | inl still ↦ absurd (o.differ (same_point o.one o.other
          (one_place u (b.x -ℤ a.x) o.one.x o.other.x still first_x)
          (one_place u (b.y -ℤ a.y) o.one.y o.other.y still first_y)))
    ]
  where
    one_place : (u v p q : ℤ) → u ≡ pos 0 → u *ℤ v ≡ q -ℤ p → p ≡ q
    one_place u v p q e f = close p q (sym f ∙ ap (λ (z : ℤ). z *ℤ v) e ∙ nothing v)
      where
        nothing : (v : ℤ) → pos 0 *ℤ v ≡ pos 0
        nothing v = omega (arith, ints)

        close : (p q : ℤ) → q -ℤ p ≡ pos 0 → p ≡ q
        close p q h = omega (arith, ints)

-- and lie along one another
pub overlap_along : (a b c e : Point) → DoOverlap a b c e → AreAlong a b c e
unfolding slant
overlap_along a b c e o = record {
  parallel = overlap_level a b c e o;
  range = elim (compared o.one.x o.other.x) [
    | inr back ↦ inl (range_x a b c e (swapped a b c e o) back)
    | inl low_x ↦ elim (compared o.other.x o.one.x) [
      | inr on ↦ inl (range_x a b c e o on)
      | inl high_x ↦ elim (compared o.one.y o.other.y) [
        | inr back ↦ inr (range_y a b c e (swapped a b c e o) back)
        | inl low_y ↦ elim (compared o.other.y o.one.y) [
          | inr on ↦ inr (range_y a b c e o on)
          | inl high_y ↦ absurd (o.differ (same_point o.one o.other (same o.one.x o.other.x low_x high_x) (same o.one.y o.other.y low_y high_y)))
        ]
      ]
    ]
  ];
}
  where
    same : (p q : ℤ) → p ≤ℤ q → q ≤ℤ p → p ≡ q
    same p q h k = omega (arith, ints)

-- segments that cross aren't parallel, so they don't overlap
pub cross_apart : (a b c e : Point) → DoCross a b c e → DoOverlap a b c e → ⊥
cross_apart a b c e h o = never (cross a b c) (cross a b e) (slant a b c e) (second_side a b c e) (overlap_level a b c e o) h.second
  where
    never : (x y d : ℤ) → y ≡ x +ℤ d → d ≡ pos 0 → ((pos 0 <ℤ x) × (y <ℤ pos 0)) ⊎ ((x <ℤ pos 0) × (pos 0 <ℤ y)) → ⊥
    never x y d e f (inl h) = let p = h.0 in let q = h.1 in omega (arith, ints, p, q)
    never x y d e f (inr h) = let p = h.0 in let q = h.1 in omega (arith, ints, p, q)

-- ---- what the program computes
-- four tests in one
pub all_four : (p q r s : Bool) (a b c e : ℤ) → IsTrue p ↔ (a ≤ℤ c) → IsTrue q ↔ (b ≤ℤ c) → IsTrue r ↔ (a ≤ℤ e) → IsTrue s ↔ (b ≤ℤ e) → IsTrue (((p && q) && r) && s) ↔ AreAtMost a b c e
all_four false q r s a b c e f g h k = (λ t. absurd (cc), λ all. f.1 all.first)
all_four true false r s a b c e f g h k = (λ t. absurd (cc), λ all. g.1 all.second)
all_four true true false s a b c e f g h k = (λ t. absurd (cc), λ all. h.1 all.third)
all_four true true true false a b c e f g h k = (λ t. absurd (cc), λ all. k.1 all.fourth)
all_four true true true true a b c e f g h k = (λ t. record { first = f.0 refl; second = g.0 refl; third = h.0 refl; fourth = k.0 refl }, λ all. refl)

-- none of four tests
pub none_of_four : (p q r s : Bool) (a b c e : ℤ) → IsTrue p ↔ AreAtMost a b a b → IsTrue q ↔ AreAtMost c e c e → IsTrue r ↔ AreAtMost a b c e → IsTrue s ↔ AreAtMost c e a b → IsTrue (((not p && not q) && not r) && not s) ↔ ShareRange a b c e
none_of_four true q r s a b c e f g h k = (λ t. absurd (cc), λ none. absurd (none.not_single (f.0 refl)))
none_of_four false true r s a b c e f g h k = (λ t. absurd (cc), λ none. absurd (none.other_not_single (g.0 refl)))
none_of_four false false true s a b c e f g h k = (λ t. absurd (cc), λ none. absurd (none.not_less (h.0 refl)))
none_of_four false false false true a b c e f g h k = (λ t. absurd (cc), λ none. absurd (none.not_more (k.0 refl)))
none_of_four false false false false a b c e f g h k = (
  λ t. record {
    not_single = λ at. never (f.1 at);
    other_not_single = λ at. never (g.1 at);
    not_less = λ at. never (h.1 at);
    not_more = λ at. never (k.1 at);
  },
  λ none. refl,
)
  where
    never : IsTrue false → ⊥
    never t = absurd (cc)

-- if p and q decide P and Q, `p || q` decides whether one of them holds
pub either_of_two : (p q : Bool) (P Q : Type 0) → IsTrue p ↔ P → IsTrue q ↔ Q → IsTrue (p || q) ↔ (P ⊎ Q)
either_of_two true q P Q f g = (λ t. inl (f.0 refl), λ h. refl)
either_of_two false true P Q f g = (λ t. inr (g.0 refl), λ h. refl)
either_of_two false false P Q f g = (λ t. absurd (cc), λ h. elim h [ inl p ↦ f.1 p | inr q ↦ g.1 q ])
