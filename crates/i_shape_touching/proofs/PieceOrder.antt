-- The order of points along a segment.
use Rattle.std.proofs.Common.{◌≡◌, [], ◌∷◌, ℤ, pos, ◌+ℤ◌, ◌-ℤ◌, ◌*ℤ◌, ◌≤ℤ◌, ◌<ℤ◌, refl, sym, ap, ◌∙◌, arith, ◌⊎◌, inl, inr}
use Rattle.std.proofs.lemmas.Int.{ints}
use Rattle.i_shape_core.specs.Point.{Point}
use Rattle.i_shape_core.proofs.Arithmetic.Polynomials.{number, variable, plus, times, minus, by_polynomials}
use Rattle.i_shape_core.proofs.Plane.CrossProducts.{same_point}
use Rattle.i_shape_contacts.specs.Meeting.{IsOnSegment}
use Rattle.i_shape_contacts.proofs.Parting.{times_point}
use Rattle.i_shape_contacts.proofs.Signs.{compared}
use Rattle.i_shape_touching.specs.Places.{LiesOn}
use Rattle.i_shape_touching.specs.Touching.{IsLess}
use Rattle.i_shape_touching.proofs.PieceNumbers.{cancel_same, share_same, same_share, share_least, share_most}

-- two numbers are equal or not
pub alike : (x y : ℤ) → (x ≡ y) ⊎ (x ≡ y → ⊥)
alike x y = elim (compared x y) [
  | inr more ↦ inr (above x y more)
  | inl low ↦ elim (compared y x) [
    | inl high ↦ inl (both x y low high)
    | inr less ↦ inr (below x y less)
  ]
]
  where
    above : (x y : ℤ) → y <ℤ x → x ≡ y → ⊥
    above x y h e = omega (arith, ints)

    below : (x y : ℤ) → x <ℤ y → x ≡ y → ⊥
    below x y h e = omega (arith, ints)

    both : (x y : ℤ) → x ≤ℤ y → y ≤ℤ x → x ≡ y
    both x y h k = omega (arith, ints)

-- a sum of multiples of the coordinates
abbrev pub height : ℤ → ℤ → Point → ℤ
height m n p = m *ℤ p.x +ℤ n *ℤ p.y

-- heights grow evenly along a segment
pub share_height : (m n d : ℤ) (p a b : Point) (on : IsOnSegment d p a b) → height m n p ≡ d *ℤ height m n a +ℤ on.share *ℤ (height m n b -ℤ height m n a)
share_height m n d p a b on =
    ap (λ (z : ℤ). m *ℤ z +ℤ n *ℤ p.y) on.x ∙ ap (λ (z : ℤ). m *ℤ (d *ℤ a.x +ℤ on.share *ℤ (b.x -ℤ a.x)) +ℤ n *ℤ z) on.y
    ∙ by_polynomials (m ∷ n ∷ d ∷ on.share ∷ a.x ∷ a.y ∷ b.x ∷ b.y ∷ [])
    (plus (times (variable 0) (plus (times (variable 2) (variable 4)) (times (variable 3) (plus (variable 6) (minus (variable 4))))))
    (times (variable 1) (plus (times (variable 2) (variable 5)) (times (variable 3) (plus (variable 7) (minus (variable 5)))))))
    (plus (times (variable 2) (plus (times (variable 0) (variable 4)) (times (variable 1) (variable 5))))
    (times (variable 3) (plus (plus (times (variable 0) (variable 6)) (times (variable 1) (variable 7))) (minus (plus (times (variable 0) (variable 4)) (times (variable 1) (variable 5))))))) refl

height_times : (m n f : ℤ) (p : Point) → f *ℤ height m n p ≡ height m n (times_point f p)
height_times m n f p = by_polynomials (m ∷ n ∷ f ∷ p.x ∷ p.y ∷ [])
    (times (variable 2) (plus (times (variable 0) (variable 3)) (times (variable 1) (variable 4))))
    (plus (times (variable 0) (times (variable 2) (variable 3))) (times (variable 1) (times (variable 2) (variable 4)))) refl

lies_height : (m n d : ℤ) (p a b : Point) (h : LiesOn d p a b) → h.factor *ℤ height m n p ≡ (h.factor *ℤ d) *ℤ height m n a +ℤ h.on.share *ℤ (height m n b -ℤ height m n a)
lies_height m n d p a b h = height_times m n h.factor p ∙ share_height m n (h.factor *ℤ d) (times_point h.factor p) a b h.on

-- points of a segment are between its ends
pub height_least : (m n d : ℤ) (p a b : Point) → height m n a ≤ℤ height m n b → LiesOn d p a b → (d *ℤ height m n a) ≤ℤ height m n p
height_least m n d p a b up h = share_least h.factor d h.on.share (height m n a) (height m n b) (height m n p) h.positive h.on.least up (lies_height m n d p a b h)

pub height_most : (m n d : ℤ) (p a b : Point) → height m n a ≤ℤ height m n b → LiesOn d p a b → height m n p ≤ℤ (d *ℤ height m n b)
height_most m n d p a b up h = share_most h.factor d h.on.share (height m n a) (height m n b) (height m n p) h.positive h.on.most up (lies_height m n d p a b h)

-- points of one height are one, if the ends' heights differ
pub one_height : (m n d e : ℤ) (p q a b : Point) → (height m n a ≡ height m n b → ⊥) → LiesOn d p a b → LiesOn e q a b → e *ℤ height m n p ≡ d *ℤ height m n q → times_point e p ≡ times_point d q
one_height m n d e p q a b differ h k same =
    let one = same_share h.factor k.factor d e h.on.share k.on.share (height m n a) (height m n b) (height m n p) (height m n q) differ (lies_height m n d p a b h) (lies_height m n e q a b k) same in
    same_point (times_point e p) (times_point d q)
    (share_same h.factor k.factor d e h.on.share k.on.share a.x b.x p.x q.x h.positive k.positive h.on.x k.on.x one)
    (share_same h.factor k.factor d e h.on.share k.on.share a.y b.y p.y q.y h.positive k.positive h.on.y k.on.y one)

-- a height by which the points of a segment are ordered
pub record Axis (a b : Point) : Type 0 where
  pub along : ℤ
  pub across : ℤ
  pub differ : height along across a ≡ height along across b → ⊥
  pub less : (p q : Point) → LiesOn (pos 1) p a b → LiesOn (pos 1) q a b → IsLess p q → height along across p <ℤ height along across q
  pub more : (p q : Point) → LiesOn (pos 1) p a b → LiesOn (pos 1) q a b → height along across p <ℤ height along across q → IsLess p q

once : (x y : ℤ) → pos 1 *ℤ x ≡ pos 1 *ℤ y → x ≡ y
once x y e = omega (arith, ints)

level_axis : (a b : Point) → (a.x ≡ b.x → ⊥) → Axis a b
level_axis a b apart = record {
  along = pos 1;
  across = pos 0;
  differ = differs;
  less = less;
  more = λ p q h k l. inl (back p.x p.y q.x q.y l);
}
  where
    numbers : (x y x' y' : ℤ) → pos 1 *ℤ x +ℤ pos 0 *ℤ y ≡ pos 1 *ℤ x' +ℤ pos 0 *ℤ y' → x ≡ x'
    numbers x y x' y' e = omega (arith, ints)

    differs : height (pos 1) (pos 0) a ≡ height (pos 1) (pos 0) b → ⊥
    differs e = apart (numbers a.x a.y b.x b.y e)

    on : (x y x' y' : ℤ) → x <ℤ x' → (pos 1 *ℤ x +ℤ pos 0 *ℤ y) <ℤ (pos 1 *ℤ x' +ℤ pos 0 *ℤ y')
    on x y x' y' h = omega (arith, ints)

    back : (x y x' y' : ℤ) → (pos 1 *ℤ x +ℤ pos 0 *ℤ y) <ℤ (pos 1 *ℤ x' +ℤ pos 0 *ℤ y') → x <ℤ x'
    back x y x' y' h = omega (arith, ints)

    level : (x y x' y' : ℤ) → x ≡ x' → pos 1 *ℤ (pos 1 *ℤ x +ℤ pos 0 *ℤ y) ≡ pos 1 *ℤ (pos 1 *ℤ x' +ℤ pos 0 *ℤ y')
    level x y x' y' e = omega (arith, ints)

    never : (y y' : ℤ) → pos 1 *ℤ y ≡ pos 1 *ℤ y' → y <ℤ y' → ⊥
    never y y' e h = omega (arith, ints)

    less : (p q : Point) → LiesOn (pos 1) p a b → LiesOn (pos 1) q a b → IsLess p q → height (pos 1) (pos 0) p <ℤ height (pos 1) (pos 0) q
    less p q h k (inl l) = on p.x p.y q.x q.y l
    less p q h k (inr l) = absurd (never p.y q.y (ap (λ (v : Point). v.y) (one_height (pos 1) (pos 0) (pos 1) (pos 1) p q a b differs h k (level p.x p.y q.x q.y l.0))) l.1)

upright_axis : (a b : Point) → a.x ≡ b.x → (a.y ≡ b.y → ⊥) → Axis a b
upright_axis a b same apart = record {
  along = pos 0;
  across = pos 1;
  differ = λ e. apart (numbers a.x a.y b.x b.y e);
  less = less;
  more = λ p q h k l. inr (flat p h ∙ sym (flat q k), back p.x p.y q.x q.y l);
}
  where
    numbers : (x y x' y' : ℤ) → pos 0 *ℤ x +ℤ pos 1 *ℤ y ≡ pos 0 *ℤ x' +ℤ pos 1 *ℤ y' → y ≡ y'
    numbers x y x' y' e = omega (arith, ints)

    on : (x y x' y' : ℤ) → y <ℤ y' → (pos 0 *ℤ x +ℤ pos 1 *ℤ y) <ℤ (pos 0 *ℤ x' +ℤ pos 1 *ℤ y')
    on x y x' y' h = omega (arith, ints)

    back : (x y x' y' : ℤ) → (pos 0 *ℤ x +ℤ pos 1 *ℤ y) <ℤ (pos 0 *ℤ x' +ℤ pos 1 *ℤ y') → y <ℤ y'
    back x y x' y' h = omega (arith, ints)

    flat : (p : Point) → LiesOn (pos 1) p a b → p.x ≡ a.x
    flat p h = cancel_same h.factor p.x a.x h.positive (h.on.x ∙ ap (λ (z : ℤ). (h.factor *ℤ pos 1) *ℤ a.x +ℤ h.on.share *ℤ (z -ℤ a.x)) (sym same)
        ∙ by_polynomials (h.factor ∷ h.on.share ∷ a.x ∷ []) (plus (times (times (variable 0) (number (pos 1))) (variable 2)) (times (variable 1) (plus (variable 2) (minus (variable 2))))) (times (variable 0) (variable 2)) refl)

    never : (x x' y : ℤ) → x ≡ y → x' ≡ y → x <ℤ x' → ⊥
    never x x' y e f h = omega (arith, ints)

    less : (p q : Point) → LiesOn (pos 1) p a b → LiesOn (pos 1) q a b → IsLess p q → height (pos 0) (pos 1) p <ℤ height (pos 0) (pos 1) q
    less p q h k (inl l) = absurd (never p.x q.x a.x (flat p h) (flat q k) l)
    less p q h k (inr l) = on p.x p.y q.x q.y l.1

pub axis_of : (a b : Point) → (a ≡ b → ⊥) → Axis a b
axis_of a b differ = elim (alike a.x b.x) [
  | inr h ↦ level_axis a b h
  | inl h ↦ upright_axis a b h (λ k. differ (same_point a b h k))
]
