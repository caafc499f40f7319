-- Segments that share a point overlap in both coordinates, and neither lies strictly on one side of the other.
use Rattle.std.proofs.Common.{◌≡◌, [], ◌∷◌, ℤ, pos, ◌+ℤ◌, ◌-ℤ◌, ◌*ℤ◌, neg_ℤ, ◌≤ℤ◌, ◌<ℤ◌, refl, sym, ap, ◌∙◌, arith, ◌⊎◌, inl, inr}
use Rattle.std.proofs.lemmas.Int.{ints}
use Rattle.i_shape_core.specs.Point.{Point, cross}
use Rattle.i_shape_core.proofs.Arithmetic.Polynomials.{number, variable, plus, times, minus, by_polynomials}
use Rattle.i_shape_core.proofs.Plane.CrossProducts.{cross_term, A, B, C, D}
use Rattle.i_shape_contacts.specs.Meeting.{IsOnSegment, Meet}
use Rattle.i_shape_contacts.specs.Steps.Deciding.{AreLess, Overlap, Straddle}
use Rattle.i_shape_contacts.proofs.Signs.{product_positive, mixed_least, mixed_positive, compared}

-- a place between a and b is at most d times what both are at most
at_most : (d s a b h p : ℤ) → pos 0 ≤ℤ s → s ≤ℤ d → p ≡ d *ℤ a +ℤ s *ℤ (b -ℤ a) → a ≤ℤ h → b ≤ℤ h → p ≤ℤ (d *ℤ h)
at_most d s a b h p least most e ah bh =
    let room = mixed_least (d -ℤ s) s (h -ℤ a) (h -ℤ b) (omega (arith, ints)) least (omega (arith, ints)) (omega (arith, ints)) in
    let same : d *ℤ h -ℤ (d *ℤ a +ℤ s *ℤ (b -ℤ a)) ≡ (d -ℤ s) *ℤ (h -ℤ a) +ℤ s *ℤ (h -ℤ b) =
    by_polynomials (d ∷ s ∷ a ∷ b ∷ h ∷ [])
    (plus (times (variable 0) (variable 4)) (minus (plus (times (variable 0) (variable 2)) (times (variable 1) (plus (variable 3) (minus (variable 2)))))))
    (plus (times (plus (variable 0) (minus (variable 1))) (plus (variable 4) (minus (variable 2)))) (times (variable 1) (plus (variable 4) (minus (variable 3))))) refl in
    close (d *ℤ h) p (d *ℤ a +ℤ s *ℤ (b -ℤ a)) ((d -ℤ s) *ℤ (h -ℤ a) +ℤ s *ℤ (h -ℤ b)) e same room
  where
    close : (x p q r : ℤ) → p ≡ q → x -ℤ q ≡ r → pos 0 ≤ℤ r → p ≤ℤ x
    close x p q r e f h = omega (arith, ints)

-- and at least d times what both are at least
at_least : (d s a b l p : ℤ) → pos 0 ≤ℤ s → s ≤ℤ d → p ≡ d *ℤ a +ℤ s *ℤ (b -ℤ a) → l ≤ℤ a → l ≤ℤ b → (d *ℤ l) ≤ℤ p
at_least d s a b l p least most e la lb =
    let room = mixed_least (d -ℤ s) s (a -ℤ l) (b -ℤ l) (omega (arith, ints)) least (omega (arith, ints)) (omega (arith, ints)) in
    let same : (d *ℤ a +ℤ s *ℤ (b -ℤ a)) -ℤ d *ℤ l ≡ (d -ℤ s) *ℤ (a -ℤ l) +ℤ s *ℤ (b -ℤ l) =
    by_polynomials (d ∷ s ∷ a ∷ b ∷ l ∷ [])
    (plus (plus (times (variable 0) (variable 2)) (times (variable 1) (plus (variable 3) (minus (variable 2))))) (minus (times (variable 0) (variable 4))))
    (plus (times (plus (variable 0) (minus (variable 1))) (plus (variable 2) (minus (variable 4)))) (times (variable 1) (plus (variable 3) (minus (variable 4))))) refl in
    close (d *ℤ l) p (d *ℤ a +ℤ s *ℤ (b -ℤ a)) ((d -ℤ s) *ℤ (a -ℤ l) +ℤ s *ℤ (b -ℤ l)) e same room
  where
    close : (x p q r : ℤ) → p ≡ q → q -ℤ x ≡ r → pos 0 ≤ℤ r → x ≤ℤ p
    close x p q r e f h = omega (arith, ints)

-- places of two ranges that are apart differ
pub ranges_apart : (d s t a b c e h l p : ℤ) → pos 0 <ℤ d → pos 0 ≤ℤ s → s ≤ℤ d → pos 0 ≤ℤ t → t ≤ℤ d → p ≡ d *ℤ a +ℤ s *ℤ (b -ℤ a) → p ≡ d *ℤ c +ℤ t *ℤ (e -ℤ c)
    → a ≤ℤ h → b ≤ℤ h → h <ℤ l → l ≤ℤ c → l ≤ℤ e → ⊥
ranges_apart d s t a b c e h l p some s0 sd t0 td first second ah bh hl lc le =
    let gap = product_positive d (l -ℤ h) some (omega (arith, ints)) in
    let same : d *ℤ (l -ℤ h) ≡ d *ℤ l -ℤ d *ℤ h = by_polynomials (d ∷ l ∷ h ∷ []) (times (variable 0) (plus (variable 1) (minus (variable 2)))) (plus (times (variable 0) (variable 1)) (minus (times (variable 0) (variable 2)))) refl in
    close (d *ℤ h) (d *ℤ l) p (d *ℤ (l -ℤ h)) (at_most d s a b h p s0 sd first ah bh) (at_least d t c e l p t0 td second lc le) gap same
  where
    close : (x y p g : ℤ) → p ≤ℤ x → y ≤ℤ p → pos 0 <ℤ g → g ≡ y -ℤ x → ⊥
    close x y p g h k m e = omega (arith, ints)

-- no segments meet of which one has its x below a number and the other above it
pub apart_x : (a b c e : Point) (h l : ℤ) → a.x ≤ℤ h → b.x ≤ℤ h → h <ℤ l → l ≤ℤ c.x → l ≤ℤ e.x → Meet a b c e → ⊥
apart_x a b c e h l ah bh hl lc le m =
    ranges_apart m.divisor m.on_first.share m.on_second.share a.x b.x c.x e.x h l m.scaled.x m.positive m.on_first.least m.on_first.most m.on_second.least m.on_second.most m.on_first.x m.on_second.x ah bh hl lc le

pub apart_y : (a b c e : Point) (h l : ℤ) → a.y ≤ℤ h → b.y ≤ℤ h → h <ℤ l → l ≤ℤ c.y → l ≤ℤ e.y → Meet a b c e → ⊥
apart_y a b c e h l ah bh hl lc le m =
    ranges_apart m.divisor m.on_first.share m.on_second.share a.y b.y c.y e.y h l m.scaled.y m.positive m.on_first.least m.on_first.most m.on_second.least m.on_second.most m.on_first.y m.on_second.y ah bh hl lc le

-- segments meet whichever is named first
pub meet_swapped : (a b c e : Point) → Meet a b c e → Meet c e a b
meet_swapped a b c e m = record { divisor = m.divisor; positive = m.positive; scaled = m.scaled; on_first = m.on_second; on_second = m.on_first }

-- shares of the cross products over a and b: those of a place of both segments add up to 0
pub shares_balance : (d : ℤ) (p a b c e : Point) (f : IsOnSegment d p a b) (g : IsOnSegment d p c e) → (d -ℤ g.share) *ℤ cross a b c +ℤ g.share *ℤ cross a b e ≡ pos 0
unfolding cross
shares_balance d p a b c e f g =
    let s = f.share in
    let t = g.share in
    let v : Point = record { x = b.x -ℤ a.x; y = b.y -ℤ a.y } in
    let from_second : (d -ℤ t) *ℤ cross a b c +ℤ t *ℤ cross a b e ≡ (b.x -ℤ a.x) *ℤ ((d *ℤ c.y +ℤ t *ℤ (e.y -ℤ c.y)) -ℤ d *ℤ b.y) -ℤ (b.y -ℤ a.y) *ℤ ((d *ℤ c.x +ℤ t *ℤ (e.x -ℤ c.x)) -ℤ d *ℤ b.x) =
    by_polynomials (a.x ∷ a.y ∷ b.x ∷ b.y ∷ c.x ∷ c.y ∷ e.x ∷ e.y ∷ d ∷ t ∷ [])
    (plus (times (plus (variable 8) (minus (variable 9))) (cross_term A B C)) (times (variable 9) (cross_term A B D)))
    (plus (times (plus B.x (minus A.x)) (plus (plus (times (variable 8) C.y) (times (variable 9) (plus D.y (minus C.y)))) (minus (times (variable 8) B.y))))
    (minus (times (plus B.y (minus A.y)) (plus (plus (times (variable 8) C.x) (times (variable 9) (plus D.x (minus C.x)))) (minus (times (variable 8) B.x)))))) refl in
    let from_first : (b.x -ℤ a.x) *ℤ ((d *ℤ a.y +ℤ s *ℤ (b.y -ℤ a.y)) -ℤ d *ℤ b.y) -ℤ (b.y -ℤ a.y) *ℤ ((d *ℤ a.x +ℤ s *ℤ (b.x -ℤ a.x)) -ℤ d *ℤ b.x) ≡ pos 0 =
    by_polynomials (a.x ∷ a.y ∷ b.x ∷ b.y ∷ d ∷ s ∷ [])
    (plus (times (plus B.x (minus A.x)) (plus (plus (times (variable 4) A.y) (times (variable 5) (plus B.y (minus A.y)))) (minus (times (variable 4) B.y))))
    (minus (times (plus B.y (minus A.y)) (plus (plus (times (variable 4) A.x) (times (variable 5) (plus B.x (minus A.x)))) (minus (times (variable 4) B.x))))))
    (number (pos 0)) refl in
    let f_x : d *ℤ c.x +ℤ t *ℤ (e.x -ℤ c.x) ≡ d *ℤ a.x +ℤ s *ℤ (b.x -ℤ a.x) = sym g.x ∙ f.x in
    let f_y : d *ℤ c.y +ℤ t *ℤ (e.y -ℤ c.y) ≡ d *ℤ a.y +ℤ s *ℤ (b.y -ℤ a.y) = sym g.y ∙ f.y in
    from_second
    ∙ ap (λ (z : ℤ). (b.x -ℤ a.x) *ℤ (z -ℤ d *ℤ b.y) -ℤ (b.y -ℤ a.y) *ℤ ((d *ℤ c.x +ℤ t *ℤ (e.x -ℤ c.x)) -ℤ d *ℤ b.x)) f_y
    ∙ ap (λ (z : ℤ). (b.x -ℤ a.x) *ℤ ((d *ℤ a.y +ℤ s *ℤ (b.y -ℤ a.y)) -ℤ d *ℤ b.y) -ℤ (b.y -ℤ a.y) *ℤ (z -ℤ d *ℤ b.x)) f_x
    ∙ from_first

-- a segment that meets another doesn't lie strictly on one side of it
pub not_beside : (x y u t : ℤ) → pos 0 ≤ℤ u → pos 0 ≤ℤ t → pos 0 <ℤ (u +ℤ t) → u *ℤ x +ℤ t *ℤ y ≡ pos 0 → (x ≤ℤ pos 0) ⊎ (y ≤ℤ pos 0)
not_beside x y u t hu ht some e = elim (compared x (pos 0)) [
  | inl low ↦ inl low
  | inr high ↦ elim (compared y (pos 0)) [
    | inl low ↦ inr low
    | inr above ↦ absurd (close (u *ℤ x +ℤ t *ℤ y) e (mixed_positive u t x y hu ht some high above))
  ]
]
  where
    close : (z : ℤ) → z ≡ pos 0 → pos 0 <ℤ z → ⊥
    close z e h = omega (arith, ints)

pub not_beside-negated : (x y u t : ℤ) → pos 0 ≤ℤ u → pos 0 ≤ℤ t → pos 0 <ℤ (u +ℤ t) → u *ℤ x +ℤ t *ℤ y ≡ pos 0 → (pos 0 ≤ℤ x) ⊎ (pos 0 ≤ℤ y)
not_beside-negated x y u t hu ht some e =
    let same : u *ℤ neg_ℤ x +ℤ t *ℤ neg_ℤ y ≡ neg_ℤ (u *ℤ x +ℤ t *ℤ y) = by_polynomials (x ∷ y ∷ u ∷ t ∷ []) (plus (times (variable 2) (minus (variable 0))) (times (variable 3) (minus (variable 1)))) (minus (plus (times (variable 2) (variable 0)) (times (variable 3) (variable 1)))) refl in
    let zero_too : u *ℤ neg_ℤ x +ℤ t *ℤ neg_ℤ y ≡ pos 0 = same ∙ ap neg_ℤ e in
    elim (not_beside (neg_ℤ x) (neg_ℤ y) u t hu ht some zero_too) [
      | inl h ↦ inl (back x h)
      | inr h ↦ inr (back y h)
    ]
  where
    back : (z : ℤ) → neg_ℤ z ≤ℤ pos 0 → pos 0 ≤ℤ z
    back z h = omega (arith, ints)

pub meet_straddle : (a b c e : Point) → Meet a b c e → Straddle a b c e
meet_straddle a b c e m =
    let d = m.divisor in
    let t = m.on_second.share in
    let some = m.positive in
    let most = m.on_second.most in
    let least = m.on_second.least in
    let u_least : pos 0 ≤ℤ (d -ℤ t) = rest d t most in
    let all : pos 0 <ℤ ((d -ℤ t) +ℤ t) = whole d t some in
    let balance = shares_balance d m.scaled a b c e m.on_first m.on_second in
    record {
      not_left = not_beside (cross a b c) (cross a b e) (d -ℤ t) t u_least least all balance;
      not_right = not_beside-negated (cross a b c) (cross a b e) (d -ℤ t) t u_least least all balance;
    }
  where
    rest : (d t : ℤ) → t ≤ℤ d → pos 0 ≤ℤ (d -ℤ t)
    rest d t h = omega (arith, ints)

    whole : (d t : ℤ) → pos 0 <ℤ d → pos 0 <ℤ ((d -ℤ t) +ℤ t)
    whole d t h = omega (arith, ints)

-- the greater of two numbers isn't below either
pub meet_overlap-x : (a b c e : Point) → Meet a b c e → Overlap a.x b.x c.x e.x
meet_overlap-x a b c e m = record {
  not_less = λ h. less a b c e h m;
  not_more = λ h. less c e a b h (meet_swapped a b c e m);
}
  where
    less : (a b c e : Point) → AreLess a.x b.x c.x e.x → Meet a b c e → ⊥
    less a b c e h m = elim (compared a.x b.x) [
      | inl ab ↦ elim (compared c.x e.x) [
        | inl ce ↦ apart_x a b c e b.x c.x ab (own b.x) h.second (own c.x) ce m
        | inr ec ↦ apart_x a b c e b.x e.x ab (own b.x) h.fourth (weak e.x c.x ec) (own e.x) m
      ]
      | inr ba ↦ elim (compared c.x e.x) [
        | inl ce ↦ apart_x a b c e a.x c.x (own a.x) (weak b.x a.x ba) h.first (own c.x) ce m
        | inr ec ↦ apart_x a b c e a.x e.x (own a.x) (weak b.x a.x ba) h.third (weak e.x c.x ec) (own e.x) m
      ]
    ]
      where
        own : (z : ℤ) → z ≤ℤ z
        own z = omega (arith, ints)

        weak : (x y : ℤ) → x <ℤ y → x ≤ℤ y
        weak x y h = omega (arith, ints)

pub meet_overlap-y : (a b c e : Point) → Meet a b c e → Overlap a.y b.y c.y e.y
meet_overlap-y a b c e m = record {
  not_less = λ h. less a b c e h m;
  not_more = λ h. less c e a b h (meet_swapped a b c e m);
}
  where
    less : (a b c e : Point) → AreLess a.y b.y c.y e.y → Meet a b c e → ⊥
    less a b c e h m = elim (compared a.y b.y) [
      | inl ab ↦ elim (compared c.y e.y) [
        | inl ce ↦ apart_y a b c e b.y c.y ab (own b.y) h.second (own c.y) ce m
        | inr ec ↦ apart_y a b c e b.y e.y ab (own b.y) h.fourth (weak e.y c.y ec) (own e.y) m
      ]
      | inr ba ↦ elim (compared c.y e.y) [
        | inl ce ↦ apart_y a b c e a.y c.y (own a.y) (weak b.y a.y ba) h.first (own c.y) ce m
        | inr ec ↦ apart_y a b c e a.y e.y (own a.y) (weak b.y a.y ba) h.third (weak e.y c.y ec) (own e.y) m
      ]
    ]
      where
        own : (z : ℤ) → z ≤ℤ z
        own z = omega (arith, ints)

        weak : (x y : ℤ) → x <ℤ y → x ≤ℤ y
        weak x y h = omega (arith, ints)
