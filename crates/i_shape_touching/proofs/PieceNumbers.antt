-- Whole numbers: shares of ways, and what a positive factor keeps.
use Rattle.std.proofs.Common.{◌≡◌, [], ◌∷◌, ℤ, pos, ◌+ℤ◌, ◌-ℤ◌, ◌*ℤ◌, ◌≤ℤ◌, ◌<ℤ◌, refl, sym, ap, ◌∙◌, arith, inl, inr}
use Rattle.std.proofs.lemmas.Int.{ints}
use Rattle.i_shape_core.proofs.Arithmetic.Polynomials.{number, variable, plus, times, minus, by_polynomials}
use Rattle.i_shape_core.proofs.Arithmetic.WholeNumbers.{zero_product, zero_of_positive, equal_of_difference, difference_of_equal}
use Rattle.i_shape_contacts.proofs.Signs.{product_least, product_positive, compared}

-- a positive number isn't negative
pub weak : (z : ℤ) → pos 0 <ℤ z → pos 0 ≤ℤ z
weak z h = omega (arith, ints)

difference_times : (n d s : ℤ) → n *ℤ (d -ℤ s) ≡ n *ℤ d -ℤ n *ℤ s
difference_times n d s = by_polynomials (n ∷ d ∷ s ∷ []) (times (variable 0) (plus (variable 1) (minus (variable 2)))) (plus (times (variable 0) (variable 1)) (minus (times (variable 0) (variable 2)))) refl

-- a product with a greater factor isn't less
pub more_times : (n s d : ℤ) → pos 0 <ℤ n → s ≤ℤ d → (n *ℤ s) ≤ℤ (n *ℤ d)
more_times n s d h k =
    let room = product_least n (d -ℤ s) (weak n h) (omega (arith, ints)) in
    close (n *ℤ d) (n *ℤ s) (n *ℤ (d -ℤ s)) (difference_times n d s) room
  where
    close : (x y z : ℤ) → z ≡ x -ℤ y → pos 0 ≤ℤ z → y ≤ℤ x
    close x y z e h = omega (arith, ints)

-- the same, strictly
pub above_times : (n s d : ℤ) → pos 0 <ℤ n → s <ℤ d → (n *ℤ s) <ℤ (n *ℤ d)
above_times n s d h k =
    let room = product_positive n (d -ℤ s) h (omega (arith, ints)) in
    close (n *ℤ d) (n *ℤ s) (n *ℤ (d -ℤ s)) (difference_times n d s) room
  where
    close : (x y z : ℤ) → z ≡ x -ℤ y → pos 0 <ℤ z → y <ℤ x
    close x y z e h = omega (arith, ints)

-- and back
pub cancel_least : (n x y : ℤ) → pos 0 <ℤ n → (n *ℤ x) ≤ℤ (n *ℤ y) → x ≤ℤ y
cancel_least n x y h k = elim (compared x y) [
  | inl l ↦ l
  | inr l ↦ (let more = above_times n y x h l in absurd (never (n *ℤ x) (n *ℤ y) k more))
]
  where
    never : (u v : ℤ) → u ≤ℤ v → v <ℤ u → ⊥
    never u v f g = omega (arith, ints)

pub cancel_less : (n x y : ℤ) → pos 0 <ℤ n → (n *ℤ x) <ℤ (n *ℤ y) → x <ℤ y
cancel_less n x y h k = elim (compared y x) [
  | inr l ↦ l
  | inl l ↦ (let more = more_times n y x h l in absurd (never (n *ℤ x) (n *ℤ y) k more))
]
  where
    never : (u v : ℤ) → u <ℤ v → v ≤ℤ u → ⊥
    never u v f g = omega (arith, ints)

pub cancel_same : (n x y : ℤ) → pos 0 <ℤ n → n *ℤ x ≡ n *ℤ y → x ≡ y
cancel_same n x y h e = equal_of_difference x y (zero_of_positive n (x -ℤ y) h (difference_times n x y ∙ difference_of_equal (n *ℤ x) (n *ℤ y) e))

-- what lies between two shares of a way is a share of it
pub share_between : (f g h t d e s u a b p q z : ℤ) → f *ℤ p ≡ (f *ℤ d) *ℤ a +ℤ s *ℤ (b -ℤ a) → g *ℤ q ≡ (g *ℤ e) *ℤ a +ℤ u *ℤ (b -ℤ a)
    → z ≡ h *ℤ (e *ℤ p) +ℤ t *ℤ (d *ℤ q -ℤ e *ℤ p)
    → (f *ℤ g) *ℤ z ≡ ((f *ℤ g) *ℤ (h *ℤ (d *ℤ e))) *ℤ a +ℤ ((h -ℤ t) *ℤ ((e *ℤ g) *ℤ s) +ℤ t *ℤ ((d *ℤ f) *ℤ u)) *ℤ (b -ℤ a)
share_between f g h t d e s u a b p q z is_p is_q is_z =
    ap (λ (w : ℤ). (f *ℤ g) *ℤ w) is_z
    ∙ by_polynomials (f ∷ g ∷ h ∷ t ∷ d ∷ e ∷ p ∷ q ∷ [])
    (times (times (variable 0) (variable 1)) (plus (times (variable 2) (times (variable 5) (variable 6))) (times (variable 3) (plus (times (variable 4) (variable 7)) (minus (times (variable 5) (variable 6)))))))
    (plus (times (times (plus (variable 2) (minus (variable 3))) (times (variable 5) (variable 1))) (times (variable 0) (variable 6))) (times (times (variable 3) (times (variable 4) (variable 0))) (times (variable 1) (variable 7)))) refl
    ∙ ap (λ (w : ℤ). ((h -ℤ t) *ℤ (e *ℤ g)) *ℤ w +ℤ (t *ℤ (d *ℤ f)) *ℤ (g *ℤ q)) is_p
    ∙ ap (λ (w : ℤ). ((h -ℤ t) *ℤ (e *ℤ g)) *ℤ ((f *ℤ d) *ℤ a +ℤ s *ℤ (b -ℤ a)) +ℤ (t *ℤ (d *ℤ f)) *ℤ w) is_q
    ∙ by_polynomials (f ∷ g ∷ h ∷ t ∷ d ∷ e ∷ s ∷ u ∷ a ∷ b ∷ [])
    (plus (times (times (plus (variable 2) (minus (variable 3))) (times (variable 5) (variable 1))) (plus (times (times (variable 0) (variable 4)) (variable 8)) (times (variable 6) (plus (variable 9) (minus (variable 8))))))
    (times (times (variable 3) (times (variable 4) (variable 0))) (plus (times (times (variable 1) (variable 5)) (variable 8)) (times (variable 7) (plus (variable 9) (minus (variable 8)))))))
    (plus (times (times (times (variable 0) (variable 1)) (times (variable 2) (times (variable 4) (variable 5)))) (variable 8))
    (times (plus (times (plus (variable 2) (minus (variable 3))) (times (times (variable 5) (variable 1)) (variable 6))) (times (variable 3) (times (times (variable 4) (variable 0)) (variable 7)))) (plus (variable 9) (minus (variable 8))))) refl

-- two shares that are one give one number
pub share_same : (f g d e s t a b p q : ℤ) → pos 0 <ℤ f → pos 0 <ℤ g → f *ℤ p ≡ (f *ℤ d) *ℤ a +ℤ s *ℤ (b -ℤ a) → g *ℤ q ≡ (g *ℤ e) *ℤ a +ℤ t *ℤ (b -ℤ a)
    → (g *ℤ e) *ℤ s ≡ (f *ℤ d) *ℤ t → e *ℤ p ≡ d *ℤ q
share_same f g d e s t a b p q f_above g_above is_p is_q one = cancel_same (f *ℤ g) (e *ℤ p) (d *ℤ q) (product_positive f g f_above g_above) (
    by_polynomials (f ∷ g ∷ e ∷ p ∷ []) (times (times (variable 0) (variable 1)) (times (variable 2) (variable 3))) (times (times (variable 1) (variable 2)) (times (variable 0) (variable 3))) refl
    ∙ ap (λ (w : ℤ). (g *ℤ e) *ℤ w) is_p
    ∙ by_polynomials (f ∷ g ∷ d ∷ e ∷ s ∷ a ∷ b ∷ [])
    (times (times (variable 1) (variable 3)) (plus (times (times (variable 0) (variable 2)) (variable 5)) (times (variable 4) (plus (variable 6) (minus (variable 5))))))
    (plus (times (times (times (variable 0) (variable 2)) (times (variable 1) (variable 3))) (variable 5)) (times (times (times (variable 1) (variable 3)) (variable 4)) (plus (variable 6) (minus (variable 5))))) refl
    ∙ ap (λ (w : ℤ). ((f *ℤ d) *ℤ (g *ℤ e)) *ℤ a +ℤ w *ℤ (b -ℤ a)) one
    ∙ by_polynomials (f ∷ g ∷ d ∷ e ∷ t ∷ a ∷ b ∷ [])
    (plus (times (times (times (variable 0) (variable 2)) (times (variable 1) (variable 3))) (variable 5)) (times (times (times (variable 0) (variable 2)) (variable 4)) (plus (variable 6) (minus (variable 5)))))
    (times (times (variable 0) (variable 2)) (plus (times (times (variable 1) (variable 3)) (variable 5)) (times (variable 4) (plus (variable 6) (minus (variable 5)))))) refl
    ∙ ap (λ (w : ℤ). (f *ℤ d) *ℤ w) (sym is_q)
    ∙ by_polynomials (f ∷ g ∷ d ∷ q ∷ []) (times (times (variable 0) (variable 2)) (times (variable 1) (variable 3))) (times (times (variable 0) (variable 1)) (times (variable 2) (variable 3))) refl)

-- and one number is given by one share, if the ends differ
pub same_share : (f g d e s t a b p q : ℤ) → (a ≡ b → ⊥) → f *ℤ p ≡ (f *ℤ d) *ℤ a +ℤ s *ℤ (b -ℤ a) → g *ℤ q ≡ (g *ℤ e) *ℤ a +ℤ t *ℤ (b -ℤ a)
    → e *ℤ p ≡ d *ℤ q → (g *ℤ e) *ℤ s ≡ (f *ℤ d) *ℤ t
same_share f g d e s t a b p q differ is_p is_q one =
    elim (zero_product ((g *ℤ e) *ℤ s -ℤ (f *ℤ d) *ℤ t) (b -ℤ a) none) [
      | inl h ↦ equal_of_difference ((g *ℤ e) *ℤ s) ((f *ℤ d) *ℤ t) h
      | inr h ↦ absurd (differ (sym (equal_of_difference b a h)))
    ]
  where
    none : ((g *ℤ e) *ℤ s -ℤ (f *ℤ d) *ℤ t) *ℤ (b -ℤ a) ≡ pos 0
    none = by_polynomials (f ∷ g ∷ d ∷ e ∷ s ∷ t ∷ a ∷ b ∷ [])
        (times (plus (times (times (variable 1) (variable 3)) (variable 4)) (minus (times (times (variable 0) (variable 2)) (variable 5)))) (plus (variable 7) (minus (variable 6))))
        (plus (times (times (variable 1) (variable 3)) (plus (times (times (variable 0) (variable 2)) (variable 6)) (times (variable 4) (plus (variable 7) (minus (variable 6))))))
        (minus (times (times (variable 0) (variable 2)) (plus (times (times (variable 1) (variable 3)) (variable 6)) (times (variable 5) (plus (variable 7) (minus (variable 6)))))))) refl
        ∙ ap (λ (w : ℤ). (g *ℤ e) *ℤ w -ℤ (f *ℤ d) *ℤ ((g *ℤ e) *ℤ a +ℤ t *ℤ (b -ℤ a))) (sym is_p)
        ∙ ap (λ (w : ℤ). (g *ℤ e) *ℤ (f *ℤ p) -ℤ (f *ℤ d) *ℤ w) (sym is_q)
        ∙ by_polynomials (f ∷ g ∷ d ∷ e ∷ p ∷ q ∷ [])
        (plus (times (times (variable 1) (variable 3)) (times (variable 0) (variable 4))) (minus (times (times (variable 0) (variable 2)) (times (variable 1) (variable 5)))))
        (times (times (variable 0) (variable 1)) (plus (times (variable 3) (variable 4)) (minus (times (variable 2) (variable 5))))) refl
        ∙ ap (λ (w : ℤ). (f *ℤ g) *ℤ w) (difference_of_equal (e *ℤ p) (d *ℤ q) one)
        ∙ by_polynomials (f ∷ g ∷ []) (times (times (variable 0) (variable 1)) (number (pos 0))) (number (pos 0)) refl

-- a share of a way that rises is at least d times its start, and at most d times its end
pub share_least : (f d s a b p : ℤ) → pos 0 <ℤ f → pos 0 ≤ℤ s → a ≤ℤ b → f *ℤ p ≡ (f *ℤ d) *ℤ a +ℤ s *ℤ (b -ℤ a) → (d *ℤ a) ≤ℤ p
share_least f d s a b p above least up is_p =
    let room = product_least s (b -ℤ a) least (omega (arith, ints)) in
    let same = by_polynomials (f ∷ d ∷ a ∷ []) (times (times (variable 0) (variable 1)) (variable 2)) (times (variable 0) (times (variable 1) (variable 2))) refl in
    cancel_least f (d *ℤ a) p above (close (f *ℤ p) ((f *ℤ d) *ℤ a) (f *ℤ (d *ℤ a)) (s *ℤ (b -ℤ a)) is_p same room)
  where
    close : (x y z r : ℤ) → x ≡ y +ℤ r → y ≡ z → pos 0 ≤ℤ r → z ≤ℤ x
    close x y z r e g h = omega (arith, ints)

pub share_most : (f d s a b p : ℤ) → pos 0 <ℤ f → s ≤ℤ (f *ℤ d) → a ≤ℤ b → f *ℤ p ≡ (f *ℤ d) *ℤ a +ℤ s *ℤ (b -ℤ a) → p ≤ℤ (d *ℤ b)
share_most f d s a b p above most up is_p =
    let room = product_least (f *ℤ d -ℤ s) (b -ℤ a) (rest (f *ℤ d) s most) (omega (arith, ints)) in
    let same = by_polynomials (f ∷ d ∷ s ∷ a ∷ b ∷ [])
    (plus (times (times (variable 0) (variable 1)) (variable 3)) (times (variable 2) (plus (variable 4) (minus (variable 3)))))
    (plus (times (variable 0) (times (variable 1) (variable 4))) (minus (times (plus (times (variable 0) (variable 1)) (minus (variable 2))) (plus (variable 4) (minus (variable 3)))))) refl in
    cancel_least f p (d *ℤ b) above (close (f *ℤ p) ((f *ℤ d) *ℤ a +ℤ s *ℤ (b -ℤ a)) (f *ℤ (d *ℤ b)) ((f *ℤ d -ℤ s) *ℤ (b -ℤ a)) is_p same room)
  where
    close : (x y z r : ℤ) → x ≡ y → y ≡ z -ℤ r → pos 0 ≤ℤ r → x ≤ℤ z
    close x y z r e g h = omega (arith, ints)

    rest : (x s : ℤ) → s ≤ℤ x → pos 0 ≤ℤ (x -ℤ s)
    rest x s h = omega (arith, ints)
