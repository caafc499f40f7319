-- Segments that overlap in both coordinates, neither strictly on one side of the other, share a point.
use Rattle.std.proofs.Common.{◌≡◌, [], ◌∷◌, ℤ, pos, ◌+ℤ◌, ◌-ℤ◌, ◌*ℤ◌, neg_ℤ, ◌≤ℤ◌, ◌<ℤ◌, refl, sym, ap, ◌∙◌, arith, ◌⊎◌, inl, inr}
use Rattle.std.proofs.lemmas.Int.{ints}
use Rattle.i_shape_core.specs.Point.{Point, cross, cross_of, vector}
use Rattle.i_shape_core.proofs.Arithmetic.Polynomials.{Term, number, variable, plus, times, minus, by_polynomials}
use Rattle.i_shape_core.proofs.Arithmetic.WholeNumbers.{zero_product, equal_of_difference}
use Rattle.i_shape_core.proofs.Plane.CrossProducts.{coordinates, cross_term, A, B, C, D}
use Rattle.i_shape_contacts.specs.Meeting.{IsOnSegment, Meet}
use Rattle.i_shape_contacts.specs.Steps.Deciding.{AreLess, Overlap, Straddle}
use Rattle.i_shape_contacts.proofs.Signs.{compared}

-- the cross product of the ways along both segments
unfoldable pub slant : Point → Point → Point → Point → ℤ
slant a b c e = cross_of (vector a b) (vector c e)

slant_term : Term
slant_term = plus (times (plus B.x (minus A.x)) (plus D.y (minus C.y))) (minus (times (plus B.y (minus A.y)) (plus D.x (minus C.x))))

pub second_side : (a b c e : Point) → cross a b e ≡ cross a b c +ℤ slant a b c e
unfolding cross slant slant_term
second_side a b c e = by_polynomials (coordinates (a ∷ b ∷ c ∷ e ∷ [])) (cross_term A B D) (plus (cross_term A B C) slant_term) refl

pub fourth_side : (a b c e : Point) → cross c e b ≡ cross c e a -ℤ slant a b c e
unfolding cross slant slant_term
fourth_side a b c e = by_polynomials (coordinates (a ∷ b ∷ c ∷ e ∷ [])) (cross_term C D B) (plus (cross_term C D A) (minus slant_term)) refl

crossing_x : (a b c e : Point) → slant a b c e *ℤ a.x +ℤ cross c e a *ℤ (b.x -ℤ a.x) ≡ slant a b c e *ℤ c.x +ℤ neg_ℤ (cross a b c) *ℤ (e.x -ℤ c.x)
unfolding cross slant slant_term
crossing_x a b c e = by_polynomials (coordinates (a ∷ b ∷ c ∷ e ∷ []))
    (plus (times slant_term A.x) (times (cross_term C D A) (plus B.x (minus A.x))))
    (plus (times slant_term C.x) (times (minus (cross_term A B C)) (plus D.x (minus C.x)))) refl

crossing_y : (a b c e : Point) → slant a b c e *ℤ a.y +ℤ cross c e a *ℤ (b.y -ℤ a.y) ≡ slant a b c e *ℤ c.y +ℤ neg_ℤ (cross a b c) *ℤ (e.y -ℤ c.y)
unfolding cross slant slant_term
crossing_y a b c e = by_polynomials (coordinates (a ∷ b ∷ c ∷ e ∷ []))
    (plus (times slant_term A.y) (times (cross_term C D A) (plus B.y (minus A.y))))
    (plus (times slant_term C.y) (times (minus (cross_term A B C)) (plus D.y (minus C.y)))) refl

-- two numbers at least one of which isn't above 0, the second greater: the first isn't above
lower : (x y : ℤ) → x <ℤ y → (x ≤ℤ pos 0) ⊎ (y ≤ℤ pos 0) → x ≤ℤ pos 0
lower x y h (inl k) = k
lower x y h (inr k) = omega (arith, ints)

higher : (x y : ℤ) → x <ℤ y → (pos 0 ≤ℤ x) ⊎ (pos 0 ≤ℤ y) → pos 0 ≤ℤ y
higher x y h (inl k) = omega (arith, ints)
higher x y h (inr k) = k

swapped : {P Q : Type 0} → P ⊎ Q → Q ⊎ P
swapped (inl h) = inr h
swapped (inr h) = inl h

negated_times : (u v : ℤ) → neg_ℤ u *ℤ v ≡ neg_ℤ (u *ℤ v)
negated_times u v = by_polynomials (u ∷ v ∷ []) (times (minus (variable 0)) (variable 1)) (minus (times (variable 0) (variable 1))) refl

-- where the ways turn counterclockwise from the first to the second
pub crossing_left : (a b c e : Point) → pos 0 <ℤ slant a b c e → Straddle a b c e → Straddle c e a b → Meet a b c e
crossing_left a b c e turn first second =
    let d = slant a b c e in
    let o1 = cross a b c in
    let o2 = cross a b e in
    let o3 = cross c e a in
    let o4 = cross c e b in
    let rises : o1 <ℤ o2 = up o1 d o2 turn (second_side a b c e) in
    let falls : o4 <ℤ o3 = down o3 d o4 turn (fourth_side a b c e) in
    let o1_low = lower o1 o2 rises first.not_left in
    let o2_high = higher o1 o2 rises first.not_right in
    let o4_low = lower o4 o3 falls (swapped second.not_left) in
    let o3_high = higher o4 o3 falls (swapped second.not_right) in
    record {
      divisor = d;
      positive = turn;
      scaled = record { x = d *ℤ a.x +ℤ o3 *ℤ (b.x -ℤ a.x); y = d *ℤ a.y +ℤ o3 *ℤ (b.y -ℤ a.y) };
      on_first = record { share = o3; least = o3_high; most = within o3 d o4 o4_low (fourth_side a b c e); x = refl; y = refl };
      on_second = record { share = neg_ℤ o1; least = negated o1 o1_low; most = whole o1 d o2 o2_high (second_side a b c e); x = crossing_x a b c e; y = crossing_y a b c e };
    }
  where
    up : (x d y : ℤ) → pos 0 <ℤ d → y ≡ x +ℤ d → x <ℤ y
    up x d y h e = omega (arith, ints)

    down : (x d y : ℤ) → pos 0 <ℤ d → y ≡ x -ℤ d → y <ℤ x
    down x d y h e = omega (arith, ints)

    within : (x d y : ℤ) → y ≤ℤ pos 0 → y ≡ x -ℤ d → x ≤ℤ d
    within x d y h e = omega (arith, ints)

    negated : (x : ℤ) → x ≤ℤ pos 0 → pos 0 ≤ℤ neg_ℤ x
    negated x h = omega (arith, ints)

    whole : (x d y : ℤ) → pos 0 ≤ℤ y → y ≡ x +ℤ d → neg_ℤ x ≤ℤ d
    whole x d y h e = omega (arith, ints)

-- a segment read backwards has the same points
pub segment_reversed : (d : ℤ) (p a b : Point) → IsOnSegment d p a b → IsOnSegment d p b a
segment_reversed d p a b h = record {
  share = d -ℤ h.share;
  least = least d h.share h.most;
  most = most d h.share h.least;
  x = h.x ∙ turned d h.share a.x b.x;
  y = h.y ∙ turned d h.share a.y b.y;
}
  where
    least : (d s : ℤ) → s ≤ℤ d → pos 0 ≤ℤ (d -ℤ s)
    least d s h = omega (arith, ints)

    most : (d s : ℤ) → pos 0 ≤ℤ s → (d -ℤ s) ≤ℤ d
    most d s h = omega (arith, ints)

    turned : (d s a b : ℤ) → d *ℤ a +ℤ s *ℤ (b -ℤ a) ≡ d *ℤ b +ℤ (d -ℤ s) *ℤ (a -ℤ b)
    turned d s a b = by_polynomials (d ∷ s ∷ a ∷ b ∷ [])
        (plus (times (variable 0) (variable 2)) (times (variable 1) (plus (variable 3) (minus (variable 2)))))
        (plus (times (variable 0) (variable 3)) (times (plus (variable 0) (minus (variable 1))) (plus (variable 2) (minus (variable 3))))) refl

pub meet_second_reversed : (a b c e : Point) → Meet a b e c → Meet a b c e
meet_second_reversed a b c e m = record { divisor = m.divisor; positive = m.positive; scaled = m.scaled; on_first = m.on_first; on_second = segment_reversed m.divisor m.scaled e c m.on_second }

slant_reversed : (a b c e : Point) → slant a b e c ≡ neg_ℤ (slant a b c e)
unfolding slant slant_term
slant_reversed a b c e = by_polynomials (coordinates (a ∷ b ∷ c ∷ e ∷ [])) (plus (times (plus B.x (minus A.x)) (plus C.y (minus D.y))) (minus (times (plus B.y (minus A.y)) (plus C.x (minus D.x))))) (minus slant_term) refl

line_reversed : (c e a : Point) → cross e c a ≡ neg_ℤ (cross c e a)
unfolding cross
line_reversed c e a = by_polynomials (coordinates (c ∷ e ∷ a ∷ [])) (cross_term B A C) (minus (cross_term A B C)) refl

straddle_reversed : (c e a b : Point) → Straddle c e a b → Straddle e c a b
straddle_reversed c e a b h = record {
  not_left = both (λ k. low (cross c e a) (cross e c a) (line_reversed c e a) k) (λ k. low (cross c e b) (cross e c b) (line_reversed c e b) k) h.not_right;
  not_right = both (λ k. high (cross c e a) (cross e c a) (line_reversed c e a) k) (λ k. high (cross c e b) (cross e c b) (line_reversed c e b) k) h.not_left;
}
  where
    both : {P Q R S : Type 0} → (P → R) → (Q → S) → P ⊎ Q → R ⊎ S
    both f g (inl h) = inl (f h)
    both f g (inr h) = inr (g h)

    low : (x y : ℤ) → y ≡ neg_ℤ x → pos 0 ≤ℤ x → y ≤ℤ pos 0
    low x y e h = omega (arith, ints)

    high : (x y : ℤ) → y ≡ neg_ℤ x → x ≤ℤ pos 0 → pos 0 ≤ℤ y
    high x y e h = omega (arith, ints)

-- and clockwise
pub crossing_right : (a b c e : Point) → slant a b c e <ℤ pos 0 → Straddle a b c e → Straddle c e a b → Meet a b c e
crossing_right a b c e turn first second =
    meet_second_reversed a b c e (crossing_left a b e c (above (slant a b c e) (slant a b e c) (slant_reversed a b c e) turn)
    (record { not_left = swapped first.not_left; not_right = swapped first.not_right })
    (straddle_reversed c e a b second))
  where
    above : (x y : ℤ) → y ≡ neg_ℤ x → x <ℤ pos 0 → pos 0 <ℤ y
    above x y e h = omega (arith, ints)

-- ---- parallel segments
-- shares at which two ranges have one number
pub record Mix (a b c e : ℤ) : Type 0 where
  pub divisor : ℤ
  pub positive : pos 0 <ℤ divisor
  pub first : ℤ
  pub first_least : pos 0 ≤ℤ first
  pub first_most : first ≤ℤ divisor
  pub second : ℤ
  pub second_least : pos 0 ≤ℤ second
  pub second_most : second ≤ℤ divisor
  pub same : divisor *ℤ a +ℤ first *ℤ (b -ℤ a) ≡ divisor *ℤ c +ℤ second *ℤ (e -ℤ c)

-- ranges in order
mix_rising : (a b c e : ℤ) → a ≤ℤ b → c ≤ℤ e → a ≤ℤ e → c ≤ℤ b → Mix a b c e
mix_rising a b c e ab ce ae cb = elim (compared c a) [
  | inl ca ↦ elim (compared e c) [
    | inl ec ↦ (let one : a ≡ c = squeezed a c e ca ae ec in record {
      divisor = pos 1;
      positive = omega (arith, ints);
      first = pos 0;
      first_least = omega (arith, ints);
      first_most = omega (arith, ints);
      second = pos 0;
      second_least = omega (arith, ints);
      second_most = omega (arith, ints);
      same = still a b c e one;
    })
    | inr ce ↦ record {
      divisor = e -ℤ c;
      positive = gap c e ce;
      first = pos 0;
      first_least = omega (arith, ints);
      first_most = weak c e ce;
      second = a -ℤ c;
      second_least = reach c a ca;
      second_most = shorter c a e ae;
      same = at_a a b c e;
    }
  ]
  | inr ac ↦ record {
    divisor = b -ℤ a;
    positive = wide a c b ac cb;
    first = c -ℤ a;
    first_least = strict a c ac;
    first_most = shorter a c b cb;
    second = pos 0;
    second_least = omega (arith, ints);
    second_most = wide_least a c b ac cb;
    same = at_c a b c e;
  }
]
  where
    squeezed : (a c e : ℤ) → c ≤ℤ a → a ≤ℤ e → e ≤ℤ c → a ≡ c
    squeezed a c e h k l = omega (arith, ints)

    still : (a b c e : ℤ) → a ≡ c → pos 1 *ℤ a +ℤ pos 0 *ℤ (b -ℤ a) ≡ pos 1 *ℤ c +ℤ pos 0 *ℤ (e -ℤ c)
    still a b c e h = by_polynomials (a ∷ b ∷ []) (plus (times (number (pos 1)) (variable 0)) (times (number (pos 0)) (plus (variable 1) (minus (variable 0))))) (variable 0) refl
        ∙ h
        ∙ sym (by_polynomials (c ∷ e ∷ []) (plus (times (number (pos 1)) (variable 0)) (times (number (pos 0)) (plus (variable 1) (minus (variable 0))))) (variable 0) refl)

    gap : (c e : ℤ) → c <ℤ e → pos 0 <ℤ (e -ℤ c)
    gap c e h = omega (arith, ints)

    weak : (c e : ℤ) → c <ℤ e → pos 0 ≤ℤ (e -ℤ c)
    weak c e h = omega (arith, ints)

    strict : (c e : ℤ) → c <ℤ e → pos 0 ≤ℤ (e -ℤ c)
    strict c e h = omega (arith, ints)

    reach : (c e : ℤ) → c ≤ℤ e → pos 0 ≤ℤ (e -ℤ c)
    reach c e h = omega (arith, ints)

    shorter : (c a e : ℤ) → a ≤ℤ e → (a -ℤ c) ≤ℤ (e -ℤ c)
    shorter c a e h = omega (arith, ints)

    wide : (a c b : ℤ) → a <ℤ c → c ≤ℤ b → pos 0 <ℤ (b -ℤ a)
    wide a c b h k = omega (arith, ints)

    wide_least : (a c b : ℤ) → a <ℤ c → c ≤ℤ b → pos 0 ≤ℤ (b -ℤ a)
    wide_least a c b h k = omega (arith, ints)

    at_a : (a b c e : ℤ) → (e -ℤ c) *ℤ a +ℤ pos 0 *ℤ (b -ℤ a) ≡ (e -ℤ c) *ℤ c +ℤ (a -ℤ c) *ℤ (e -ℤ c)
    at_a a b c e = by_polynomials (a ∷ b ∷ c ∷ e ∷ [])
        (plus (times (plus (variable 3) (minus (variable 2))) (variable 0)) (times (number (pos 0)) (plus (variable 1) (minus (variable 0)))))
        (plus (times (plus (variable 3) (minus (variable 2))) (variable 2)) (times (plus (variable 0) (minus (variable 2))) (plus (variable 3) (minus (variable 2))))) refl

    at_c : (a b c e : ℤ) → (b -ℤ a) *ℤ a +ℤ (c -ℤ a) *ℤ (b -ℤ a) ≡ (b -ℤ a) *ℤ c +ℤ pos 0 *ℤ (e -ℤ c)
    at_c a b c e = by_polynomials (a ∷ b ∷ c ∷ e ∷ [])
        (plus (times (plus (variable 1) (minus (variable 0))) (variable 0)) (times (plus (variable 2) (minus (variable 0))) (plus (variable 1) (minus (variable 0)))))
        (plus (times (plus (variable 1) (minus (variable 0))) (variable 2)) (times (number (pos 0)) (plus (variable 3) (minus (variable 2))))) refl

backwards : (d s a b : ℤ) → d *ℤ b +ℤ s *ℤ (a -ℤ b) ≡ d *ℤ a +ℤ (d -ℤ s) *ℤ (b -ℤ a)
backwards d s a b = by_polynomials (d ∷ s ∷ a ∷ b ∷ [])
    (plus (times (variable 0) (variable 3)) (times (variable 1) (plus (variable 2) (minus (variable 3)))))
    (plus (times (variable 0) (variable 2)) (times (plus (variable 0) (minus (variable 1))) (plus (variable 3) (minus (variable 2))))) refl

rest_least : (d s : ℤ) → s ≤ℤ d → pos 0 ≤ℤ (d -ℤ s)
rest_least d s h = omega (arith, ints)

rest_most : (d s : ℤ) → pos 0 ≤ℤ s → (d -ℤ s) ≤ℤ d
rest_most d s h = omega (arith, ints)

mix_first_reversed : (a b c e : ℤ) → Mix b a c e → Mix a b c e
mix_first_reversed a b c e m = record {
  divisor = m.divisor;
  positive = m.positive;
  first = m.divisor -ℤ m.first;
  first_least = rest_least m.divisor m.first m.first_most;
  first_most = rest_most m.divisor m.first m.first_least;
  second = m.second;
  second_least = m.second_least;
  second_most = m.second_most;
  same = sym (backwards m.divisor m.first a b) ∙ m.same;
}

mix_second_reversed : (a b c e : ℤ) → Mix a b e c → Mix a b c e
mix_second_reversed a b c e m = record {
  divisor = m.divisor;
  positive = m.positive;
  first = m.first;
  first_least = m.first_least;
  first_most = m.first_most;
  second = m.divisor -ℤ m.second;
  second_least = rest_least m.divisor m.second m.second_most;
  second_most = rest_most m.divisor m.second m.second_least;
  same = m.same ∙ backwards m.divisor m.second c e;
}

-- ranges that overlap have such shares
pub overlap_mix : (a b c e : ℤ) → Overlap a b c e → Mix a b c e
overlap_mix a b c e o = elim (compared a b) [
  | inl ab ↦ elim (compared c e) [
    | inl ce ↦ mix_rising a b c e ab ce (reaches a b c e ab ce o.not_more) (reached a b c e ab ce o.not_less)
    | inr ec ↦ mix_second_reversed a b c e (mix_rising a b e c ab (weak e c ec) (reaches a b e c ab (weak e c ec) (λ h. o.not_more (record { first = h.second; second = h.first; third = h.fourth; fourth = h.third }))) (reached a b e c ab (weak e c ec) (λ h. o.not_less (record { first = h.third; second = h.fourth; third = h.first; fourth = h.second }))))
  ]
  | inr ba ↦ mix_first_reversed a b c e (elim (compared c e) [
    | inl ce ↦ mix_rising b a c e (weak b a ba) ce (reaches b a c e (weak b a ba) ce (λ h. o.not_more (record { first = h.third; second = h.fourth; third = h.first; fourth = h.second }))) (reached b a c e (weak b a ba) ce (λ h. o.not_less (record { first = h.second; second = h.first; third = h.fourth; fourth = h.third })))
    | inr ec ↦ mix_second_reversed b a c e (mix_rising b a e c (weak b a ba) (weak e c ec) (reaches b a e c (weak b a ba) (weak e c ec) (λ h. o.not_more (record { first = h.fourth; second = h.third; third = h.second; fourth = h.first }))) (reached b a e c (weak b a ba) (weak e c ec) (λ h. o.not_less (record { first = h.fourth; second = h.third; third = h.second; fourth = h.first }))))
  ])
]
  where
    weak : (x y : ℤ) → x <ℤ y → x ≤ℤ y
    weak x y h = omega (arith, ints)

    -- the first doesn't lie above the second
    reaches : (a b c e : ℤ) → a ≤ℤ b → c ≤ℤ e → (AreLess c e a b → ⊥) → a ≤ℤ e
    reaches a b c e ab ce none = elim (compared a e) [
      | inl h ↦ h
      | inr ea ↦ absurd (none (record { first = one a b c e ab ce ea; second = ea; third = two a b c e ab ce ea; fourth = three a b c e ab ce ea }))
    ]
      where
        one : (a b c e : ℤ) → a ≤ℤ b → c ≤ℤ e → e <ℤ a → c <ℤ a
        one a b c e h k l = omega (arith, ints)

        two : (a b c e : ℤ) → a ≤ℤ b → c ≤ℤ e → e <ℤ a → c <ℤ b
        two a b c e h k l = omega (arith, ints)

        three : (a b c e : ℤ) → a ≤ℤ b → c ≤ℤ e → e <ℤ a → e <ℤ b
        three a b c e h k l = omega (arith, ints)

    -- nor below it
    reached : (a b c e : ℤ) → a ≤ℤ b → c ≤ℤ e → (AreLess a b c e → ⊥) → c ≤ℤ b
    reached a b c e ab ce none = elim (compared c b) [
      | inl h ↦ h
      | inr bc ↦ absurd (none (record { first = one a b c e ab ce bc; second = bc; third = two a b c e ab ce bc; fourth = three a b c e ab ce bc }))
    ]
      where
        one : (a b c e : ℤ) → a ≤ℤ b → c ≤ℤ e → b <ℤ c → a <ℤ c
        one a b c e h k l = omega (arith, ints)

        two : (a b c e : ℤ) → a ≤ℤ b → c ≤ℤ e → b <ℤ c → a <ℤ e
        two a b c e h k l = omega (arith, ints)

        three : (a b c e : ℤ) → a ≤ℤ b → c ≤ℤ e → b <ℤ c → b <ℤ e
        three a b c e h k l = omega (arith, ints)

-- both ranges are single numbers: they are one
pub single_overlap : (a b c e : ℤ) → b -ℤ a ≡ pos 0 → e -ℤ c ≡ pos 0 → Overlap a b c e → a ≡ c
single_overlap a b c e f g o = elim (compared a c) [
  | inl ac ↦ elim (compared c a) [
    | inl ca ↦ omega (arith, ints)
    | inr h ↦ absurd (o.not_less (record { first = h; second = second a b c f h; third = third a c e g h; fourth = fourth a b c e f g h }))
  ]
  | inr h ↦ absurd (o.not_more (record { first = h; second = second c e a g h; third = third c a b f h; fourth = fourth c e a b g f h }))
]
  where
    second : (a b c : ℤ) → b -ℤ a ≡ pos 0 → a <ℤ c → b <ℤ c
    second a b c f h = omega (arith, ints)

    third : (a c e : ℤ) → e -ℤ c ≡ pos 0 → a <ℤ c → a <ℤ e
    third a c e g h = omega (arith, ints)

    fourth : (a b c e : ℤ) → b -ℤ a ≡ pos 0 → e -ℤ c ≡ pos 0 → a <ℤ c → b <ℤ e
    fourth a b c e f g h = omega (arith, ints)

-- how far places of both segments lie apart, times the way along the first in x
along_first : (d s t : ℤ) (a b c e : Point)
    → (b.x -ℤ a.x) *ℤ ((d *ℤ a.y +ℤ s *ℤ (b.y -ℤ a.y)) -ℤ (d *ℤ c.y +ℤ t *ℤ (e.y -ℤ c.y)))
    ≡ (b.y -ℤ a.y) *ℤ ((d *ℤ a.x +ℤ s *ℤ (b.x -ℤ a.x)) -ℤ (d *ℤ c.x +ℤ t *ℤ (e.x -ℤ c.x))) -ℤ (d *ℤ cross a b c +ℤ t *ℤ slant a b c e)
unfolding cross slant slant_term
along_first d s t a b c e = by_polynomials (a.x ∷ a.y ∷ b.x ∷ b.y ∷ c.x ∷ c.y ∷ e.x ∷ e.y ∷ d ∷ s ∷ t ∷ [])
    (times (plus B.x (minus A.x)) (plus (plus (times (variable 8) A.y) (times (variable 9) (plus B.y (minus A.y)))) (minus (plus (times (variable 8) C.y) (times (variable 10) (plus D.y (minus C.y)))))))
    (plus (times (plus B.y (minus A.y)) (plus (plus (times (variable 8) A.x) (times (variable 9) (plus B.x (minus A.x)))) (minus (plus (times (variable 8) C.x) (times (variable 10) (plus D.x (minus C.x)))))))
    (minus (plus (times (variable 8) (cross_term A B C)) (times (variable 10) slant_term)))) refl

along_second : (d s t : ℤ) (a b c e : Point)
    → (e.x -ℤ c.x) *ℤ ((d *ℤ a.y +ℤ s *ℤ (b.y -ℤ a.y)) -ℤ (d *ℤ c.y +ℤ t *ℤ (e.y -ℤ c.y)))
    ≡ (e.y -ℤ c.y) *ℤ ((d *ℤ a.x +ℤ s *ℤ (b.x -ℤ a.x)) -ℤ (d *ℤ c.x +ℤ t *ℤ (e.x -ℤ c.x))) +ℤ (d *ℤ cross c e a -ℤ s *ℤ slant a b c e)
unfolding cross slant slant_term
along_second d s t a b c e = by_polynomials (a.x ∷ a.y ∷ b.x ∷ b.y ∷ c.x ∷ c.y ∷ e.x ∷ e.y ∷ d ∷ s ∷ t ∷ [])
    (times (plus D.x (minus C.x)) (plus (plus (times (variable 8) A.y) (times (variable 9) (plus B.y (minus A.y)))) (minus (plus (times (variable 8) C.y) (times (variable 10) (plus D.y (minus C.y)))))))
    (plus (times (plus D.y (minus C.y)) (plus (plus (times (variable 8) A.x) (times (variable 9) (plus B.x (minus A.x)))) (minus (plus (times (variable 8) C.x) (times (variable 10) (plus D.x (minus C.x)))))))
    (plus (times (variable 8) (cross_term C D A)) (minus (times (variable 9) slant_term)))) refl

-- segments of one line
pub flat : (a b c e : Point) → slant a b c e ≡ pos 0 → cross a b c ≡ pos 0 → cross c e a ≡ pos 0 → Overlap a.x b.x c.x e.x → Overlap a.y b.y c.y e.y → Meet a b c e
flat a b c e level first second over_x over_y =
    let m = overlap_mix a.x b.x c.x e.x over_x in
    let d = m.divisor in
    let s = m.first in
    let t = m.second in
    let dx = (d *ℤ a.x +ℤ s *ℤ (b.x -ℤ a.x)) -ℤ (d *ℤ c.x +ℤ t *ℤ (e.x -ℤ c.x)) in
    let no_dx : dx ≡ pos 0 = none (d *ℤ a.x +ℤ s *ℤ (b.x -ℤ a.x)) (d *ℤ c.x +ℤ t *ℤ (e.x -ℤ c.x)) m.same in
    let by_first = along_first d s t a b c e ∙ ap (λ (z : ℤ). (b.y -ℤ a.y) *ℤ z -ℤ (d *ℤ cross a b c +ℤ t *ℤ slant a b c e)) no_dx ∙ ap (λ (z : ℤ). (b.y -ℤ a.y) *ℤ pos 0 -ℤ (d *ℤ z +ℤ t *ℤ slant a b c e)) first ∙ ap (λ (z : ℤ). (b.y -ℤ a.y) *ℤ pos 0 -ℤ (d *ℤ pos 0 +ℤ t *ℤ z)) level ∙ zeros (b.y -ℤ a.y) d t in
    let by_second = along_second d s t a b c e ∙ ap (λ (z : ℤ). (e.y -ℤ c.y) *ℤ z +ℤ (d *ℤ cross c e a -ℤ s *ℤ slant a b c e)) no_dx ∙ ap (λ (z : ℤ). (e.y -ℤ c.y) *ℤ pos 0 +ℤ (d *ℤ z -ℤ s *ℤ slant a b c e)) second ∙ ap (λ (z : ℤ). (e.y -ℤ c.y) *ℤ pos 0 +ℤ (d *ℤ pos 0 -ℤ s *ℤ z)) level ∙ zeros_too (e.y -ℤ c.y) d s in
    found m (zero_product _ _ by_first) (zero_product _ _ by_second)
  where
    none : (p q : ℤ) → p ≡ q → p -ℤ q ≡ pos 0
    none p q e = omega (arith, ints)

    zeros : (v d t : ℤ) → v *ℤ pos 0 -ℤ (d *ℤ pos 0 +ℤ t *ℤ pos 0) ≡ pos 0
    zeros v d t = omega (arith, ints)

    zeros_too : (v d t : ℤ) → v *ℤ pos 0 +ℤ (d *ℤ pos 0 -ℤ t *ℤ pos 0) ≡ pos 0
    zeros_too v d t = omega (arith, ints)

    made : (m : Mix a.x b.x c.x e.x) → m.divisor *ℤ a.y +ℤ m.first *ℤ (b.y -ℤ a.y) ≡ m.divisor *ℤ c.y +ℤ m.second *ℤ (e.y -ℤ c.y) → Meet a b c e
    made m h = record {
      divisor = m.divisor;
      positive = m.positive;
      scaled = record { x = m.divisor *ℤ a.x +ℤ m.first *ℤ (b.x -ℤ a.x); y = m.divisor *ℤ a.y +ℤ m.first *ℤ (b.y -ℤ a.y) };
      on_first = record { share = m.first; least = m.first_least; most = m.first_most; x = refl; y = refl };
      on_second = record { share = m.second; least = m.second_least; most = m.second_most; x = m.same; y = h };
    }

    upright : b.x -ℤ a.x ≡ pos 0 → e.x -ℤ c.x ≡ pos 0 → Mix a.y b.y c.y e.y → Meet a b c e
    upright f g m =
        let one = single_overlap a.x b.x c.x e.x f g over_x in
        let same : m.divisor *ℤ a.x +ℤ m.first *ℤ (b.x -ℤ a.x) ≡ m.divisor *ℤ c.x +ℤ m.second *ℤ (e.x -ℤ c.x) =
        ap (λ (z : ℤ). m.divisor *ℤ a.x +ℤ m.first *ℤ z) f ∙ ap (λ (z : ℤ). m.divisor *ℤ z +ℤ m.first *ℤ pos 0) one ∙ shift m.divisor c.x m.first m.second ∙ ap (λ (z : ℤ). m.divisor *ℤ c.x +ℤ m.second *ℤ z) (sym g) in
        record {
          divisor = m.divisor;
          positive = m.positive;
          scaled = record { x = m.divisor *ℤ a.x +ℤ m.first *ℤ (b.x -ℤ a.x); y = m.divisor *ℤ a.y +ℤ m.first *ℤ (b.y -ℤ a.y) };
          on_first = record { share = m.first; least = m.first_least; most = m.first_most; x = refl; y = refl };
          on_second = record { share = m.second; least = m.second_least; most = m.second_most; x = same; y = m.same };
        }
      where
        shift : (d c s t : ℤ) → d *ℤ c +ℤ s *ℤ pos 0 ≡ d *ℤ c +ℤ t *ℤ pos 0
        shift d c s t = omega (arith, ints)

    found : (m : Mix a.x b.x c.x e.x)
        → (b.x -ℤ a.x ≡ pos 0) ⊎ ((m.divisor *ℤ a.y +ℤ m.first *ℤ (b.y -ℤ a.y)) -ℤ (m.divisor *ℤ c.y +ℤ m.second *ℤ (e.y -ℤ c.y)) ≡ pos 0)
        → (e.x -ℤ c.x ≡ pos 0) ⊎ ((m.divisor *ℤ a.y +ℤ m.first *ℤ (b.y -ℤ a.y)) -ℤ (m.divisor *ℤ c.y +ℤ m.second *ℤ (e.y -ℤ c.y)) ≡ pos 0)
        → Meet a b c e
    found m (inr h) k = made m (equal_of_difference _ _ h)
    found m (inl h) (inr k) = made m (equal_of_difference _ _ k)
    found m (inl h) (inl k) = upright h k (overlap_mix a.y b.y c.y e.y over_y)

-- ---- any segments
pub meet_decided : (a b c e : Point) → Overlap a.x b.x c.x e.x → Overlap a.y b.y c.y e.y → Straddle a b c e → Straddle c e a b → Meet a b c e
meet_decided a b c e over_x over_y first second = elim (compared (slant a b c e) (pos 0)) [
  | inr left ↦ crossing_left a b c e left first second
  | inl low ↦ elim (compared (pos 0) (slant a b c e)) [
    | inr right ↦ crossing_right a b c e right first second
    | inl high ↦ (let level : slant a b c e ≡ pos 0 = between (slant a b c e) low high in
        flat a b c e level
        (both_ways (cross a b c) (cross a b e) (slant a b c e) level (second_side a b c e) first.not_left first.not_right)
        (both_ways-less (cross c e a) (cross c e b) (slant a b c e) level (fourth_side a b c e) second.not_left second.not_right)
        over_x over_y)
  ]
]
  where
    between : (z : ℤ) → z ≤ℤ pos 0 → pos 0 ≤ℤ z → z ≡ pos 0
    between z h k = omega (arith, ints)

    both_ways : (x y d : ℤ) → d ≡ pos 0 → y ≡ x +ℤ d → (x ≤ℤ pos 0) ⊎ (y ≤ℤ pos 0) → (pos 0 ≤ℤ x) ⊎ (pos 0 ≤ℤ y) → x ≡ pos 0
    both_ways x y d e f (inl h) (inl k) = omega (arith, ints)
    both_ways x y d e f (inl h) (inr k) = omega (arith, ints)
    both_ways x y d e f (inr h) (inl k) = omega (arith, ints)
    both_ways x y d e f (inr h) (inr k) = omega (arith, ints)

    both_ways-less : (x y d : ℤ) → d ≡ pos 0 → y ≡ x -ℤ d → (x ≤ℤ pos 0) ⊎ (y ≤ℤ pos 0) → (pos 0 ≤ℤ x) ⊎ (pos 0 ≤ℤ y) → x ≡ pos 0
    both_ways-less x y d e f (inl h) (inl k) = omega (arith, ints)
    both_ways-less x y d e f (inl h) (inr k) = omega (arith, ints)
    both_ways-less x y d e f (inr h) (inl k) = omega (arith, ints)
    both_ways-less x y d e f (inr h) (inr k) = omega (arith, ints)
