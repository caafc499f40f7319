-- Laws of ℤ that the library lacks.
use Rattle.std.proofs.Common.{◌≡◌, ℕ, zero, suc, ◌*◌, ℤ, pos, negsuc, ◌+ℤ◌, ◌-ℤ◌, ◌*ℤ◌, neg_ℤ, ◌≤ℤ◌, ◌<ℤ◌, int_lt, true, false, ap, refl, sym, ◌∙◌, arith, ◌⊎◌, inl, inr}
use Rattle.std.proofs.lemmas.Int.{ints}
use borrow.Author.Differences.{up, down, sum_is_lem, product_is}

-- multiplication distributes over a sum on its left
pub add-mul : (a b c : ℤ) → (a +ℤ b) *ℤ c ≡ a *ℤ c +ℤ b *ℤ c
add-mul a b c = omega (arith, ints, ap (λ (n : ℕ). n * up c) (sum_is_lem a b), ap (λ (n : ℕ). n * down c) (sum_is_lem a b))

-- multiplication distributes over a sum on its right
pub mul-add : (a b c : ℤ) → a *ℤ (b +ℤ c) ≡ a *ℤ b +ℤ a *ℤ c
mul-add a b c = omega (arith, ints, ap (λ (n : ℕ). n * up a) (sum_is_lem b c), ap (λ (n : ℕ). n * down a) (sum_is_lem b c))

-- multiplication is associative
pub mul_assoc : (a b c : ℤ) → (a *ℤ b) *ℤ c ≡ a *ℤ (b *ℤ c)
mul_assoc a b c = omega (
  arith,
  ints,
  ap (λ (n : ℕ). n * up c) (product_is a b).0,
  ap (λ (n : ℕ). n * down c) (product_is a b).0,
  ap (λ (n : ℕ). n * up c) (product_is a b).1,
  ap (λ (n : ℕ). n * down c) (product_is a b).1,
  ap (λ (n : ℕ). up a * n) (product_is b c).0,
  ap (λ (n : ℕ). down a * n) (product_is b c).0,
  ap (λ (n : ℕ). up a * n) (product_is b c).1,
  ap (λ (n : ℕ). down a * n) (product_is b c).1,
)

-- 1 is neutral
pub one-mul : (a : ℤ) → pos 1 *ℤ a ≡ a
one-mul a = omega (arith, ints)

-- the first two of three summands commute
pub add_swap : (a b c : ℤ) → a +ℤ (b +ℤ c) ≡ b +ℤ (a +ℤ c)
add_swap a b c = omega (arith, ints)

-- `pos` is injective
pub pos_injective : (m n : ℕ) → pos m ≡ pos n → m ≡ n
pos_injective m n e = omega (arith, ints)

-- numbers whose difference is 0 are equal
pub equal_of_difference : (a b : ℤ) → a -ℤ b ≡ pos 0 → a ≡ b
equal_of_difference a b e = omega (arith, ints)

-- the difference of equal numbers is 0
pub difference_of_equal : (a b : ℤ) → a ≡ b → a -ℤ b ≡ pos 0
difference_of_equal a b e = omega (arith, ints)

-- multiples of 0 add up to 0
pub sum_of_zeros : (v w : ℤ) → v *ℤ pos 0 +ℤ w *ℤ pos 0 ≡ pos 0
sum_of_zeros v w = omega (arith, ints)

zero_product_ℕ : (a b : ℕ) → a * b ≡ 0 → (a ≡ 0) ⊎ (b ≡ 0)
zero_product_ℕ zero b e = inl refl
zero_product_ℕ (suc a) zero e = inr refl
zero_product_ℕ (suc a) (suc b) e = absurd (omega arith)

-- a product that is 0 has a factor that is 0
pub zero_product : (a b : ℤ) → a *ℤ b ≡ pos 0 → (a ≡ pos 0) ⊎ (b ≡ pos 0)
zero_product (pos a) (pos b) e = elim (zero_product_ℕ a b (omega (arith, ints))) [ inl h ↦ inl (ap pos h) | inr h ↦ inr (ap pos h) ]
zero_product (pos zero) (negsuc b) e = inl refl
zero_product (pos (suc a)) (negsuc b) e = absurd (omega (arith, ints))
zero_product (negsuc a) (pos zero) e = inr refl
zero_product (negsuc a) (pos (suc b)) e = absurd (omega (arith, ints))
zero_product (negsuc a) (negsuc b) e = absurd (omega (arith, ints))

-- ---- order
-- 0 is at most 0
pub low_of_zero : (x : ℤ) → x ≡ pos 0 → x ≤ℤ pos 0
low_of_zero x e = omega (arith, ints)

-- 0 isn't above 0
pub zero_not_above : (x : ℤ) → x ≡ pos 0 → pos 0 <ℤ x → ⊥
zero_not_above x e h = omega (arith, ints)

-- 0 isn't below 0
pub zero_not_below : (x : ℤ) → x ≡ pos 0 → x <ℤ pos 0 → ⊥
zero_not_below x e h = omega (arith, ints)

pub square_not_negative : (x : ℤ) → pos 0 ≤ℤ (x *ℤ x)
square_not_negative (pos n) = omega (arith, ints)
square_not_negative (negsuc n) = omega (arith, ints)

-- a sum of squares isn't negative
pub squares_not_negative : (x y : ℤ) → pos 0 ≤ℤ (x *ℤ x +ℤ y *ℤ y)
squares_not_negative x y = omega (arith, ints, square_not_negative x, square_not_negative y)

square_zero : (x : ℤ) → x *ℤ x ≡ pos 0 → x ≡ pos 0
square_zero (pos zero) e = refl
square_zero (pos (suc n)) e = absurd (omega (arith, ints))
square_zero (negsuc n) e = absurd (omega (arith, ints))

-- if a sum of squares is 0, so are both numbers
pub squares_zero : (x y : ℤ) → x *ℤ x +ℤ y *ℤ y ≡ pos 0 → (x ≡ pos 0) × (y ≡ pos 0)
squares_zero x y e = (square_zero x (left (x *ℤ x) (y *ℤ y) (square_not_negative x) (square_not_negative y) e), square_zero y (right (x *ℤ x) (y *ℤ y) (square_not_negative x) (square_not_negative y) e))
  where
    left : (a b : ℤ) → pos 0 ≤ℤ a → pos 0 ≤ℤ b → a +ℤ b ≡ pos 0 → a ≡ pos 0
    left a b f g e = omega (arith, ints)

    right : (a b : ℤ) → pos 0 ≤ℤ a → pos 0 ≤ℤ b → a +ℤ b ≡ pos 0 → b ≡ pos 0
    right a b f g e = omega (arith, ints)

-- if a positive multiple of z is 0, so is z
pub zero_of_positive : (s z : ℤ) → pos 0 <ℤ s → s *ℤ z ≡ pos 0 → z ≡ pos 0
zero_of_positive s z h e = elim (zero_product s z e) [ inl f ↦ absurd (omega (arith, ints)) | inr f ↦ f ]

-- if d isn't above 0, neither is e, a positive multiple of which is a multiple of d
pub not_positive_of : (q s d e : ℤ) → pos 0 ≤ℤ q → pos 0 <ℤ s → q *ℤ d ≡ s *ℤ e → d ≤ℤ pos 0 → e ≤ℤ pos 0
not_positive_of q s d (negsuc e) h k f g = omega (arith, ints)
not_positive_of q s d (pos zero) h k f g = omega (arith, ints)
not_positive_of (negsuc q) s d (pos (suc e)) h k f g = absurd (omega (arith, ints))
not_positive_of (pos q) (negsuc s) d (pos (suc e)) h k f g = absurd (omega (arith, ints))
not_positive_of (pos q) (pos zero) d (pos (suc e)) h k f g = absurd (omega (arith, ints))
not_positive_of (pos q) (pos (suc s)) (pos zero) (pos (suc e)) h k f g = absurd (omega (arith, ints))
not_positive_of (pos q) (pos (suc s)) (pos (suc d)) (pos (suc e)) h k f g = absurd (omega (arith, ints))
not_positive_of (pos q) (pos (suc s)) (negsuc d) (pos (suc e)) h k f g = absurd (omega (arith, ints))

-- a number above 0 plus one that isn't negative is above 0
pub sum_above : (q d : ℤ) → pos 0 ≤ℤ q → pos 0 <ℤ d → pos 0 <ℤ (q +ℤ d)
sum_above q d f g = omega (arith, ints)

-- adding a multiple of 0 changes nothing
pub drop_last : (u v w z : ℤ) → u ≡ v +ℤ w *ℤ z → z ≡ pos 0 → u ≡ v
drop_last u v w z f g = f ∙ ap (λ (t : ℤ). v +ℤ w *ℤ t) g ∙ plus_zero v w
  where
    plus_zero : (v w : ℤ) → v +ℤ w *ℤ pos 0 ≡ v
    plus_zero v w = omega (arith, ints)

-- ---- signs
-- the negative of a number is below 0 exactly if the number is above it
pub below_negated : (x : ℤ) → int_lt (neg_ℤ x) (pos 0) ≡ int_lt (pos 0) x
below_negated (pos zero) = refl
below_negated (pos (suc n)) = omega (arith, ints)
below_negated (negsuc n) = sym (omega (arith, ints))

-- the negative of a number is above 0 exactly if the number is below it
pub above_negated : (x : ℤ) → int_lt (pos 0) (neg_ℤ x) ≡ int_lt x (pos 0)
above_negated (pos zero) = refl
above_negated (pos (suc n)) = omega (arith, ints)
above_negated (negsuc n) = sym (omega (arith, ints))

-- x and y have the same sign
pub record Alike (x y : ℤ) : Type 0 where
  pub below : int_lt x (pos 0) ≡ int_lt y (pos 0)
  pub above : int_lt (pos 0) x ≡ int_lt (pos 0) y

-- equal numbers have the same sign
pub alike_same : (x y : ℤ) → x ≡ y → Alike x y
alike_same x y e = record { below = ap (λ (z : ℤ). int_lt z (pos 0)) e; above = ap (λ (z : ℤ). int_lt (pos 0) z) e }

-- numbers with equal positive multiples have the same sign
pub alike_scaled : (u v x y : ℤ) → pos 0 <ℤ u → pos 0 <ℤ v → v *ℤ x ≡ u *ℤ y → Alike x y
alike_scaled (pos zero) v x y h k e = absurd (omega (arith, ints))
alike_scaled (negsuc u) v x y h k e = absurd (omega (arith, ints))
alike_scaled (pos (suc u)) (pos zero) x y h k e = absurd (omega (arith, ints))
alike_scaled (pos (suc u)) (negsuc v) x y h k e = absurd (omega (arith, ints))
alike_scaled (pos (suc u)) (pos (suc v)) (pos zero) (pos zero) h k e = alike_same (pos 0) (pos 0) refl
alike_scaled (pos (suc u)) (pos (suc v)) (pos zero) (pos (suc n)) h k e = absurd (omega (arith, ints))
alike_scaled (pos (suc u)) (pos (suc v)) (pos (suc m)) (pos zero) h k e = absurd (omega (arith, ints))
alike_scaled (pos (suc u)) (pos (suc v)) (pos (suc m)) (pos (suc n)) h k e = record { below = sym (f (suc m)) ∙ f (suc n); above = sym (t m) ∙ t n }
  where
    f : (n : ℕ) → false ≡ int_lt (pos n) (pos 0)
    f n = omega (arith, ints)

    t : (n : ℕ) → true ≡ int_lt (pos 0) (pos (suc n))
    t n = omega (arith, ints)
alike_scaled (pos (suc u)) (pos (suc v)) (pos m) (negsuc n) h k e = absurd (omega (arith, ints))
alike_scaled (pos (suc u)) (pos (suc v)) (negsuc m) (pos n) h k e = absurd (omega (arith, ints))
alike_scaled (pos (suc u)) (pos (suc v)) (negsuc m) (negsuc n) h k e = record { below = refl; above = refl }
