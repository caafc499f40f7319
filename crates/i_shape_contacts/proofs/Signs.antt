-- Sums of products of numbers that aren't negative.
use Rattle.std.proofs.Common.{◌≡◌, zero, suc, ℤ, pos, negsuc, ◌+ℤ◌, ◌-ℤ◌, ◌*ℤ◌, ◌≤ℤ◌, ◌<ℤ◌, refl, arith, ◌⊎◌, inl, inr}
use Rattle.std.proofs.lemmas.Int.{ints}

-- a product of numbers that aren't negative isn't negative
pub product_least : (x y : ℤ) → pos 0 ≤ℤ x → pos 0 ≤ℤ y → pos 0 ≤ℤ (x *ℤ y)
product_least (pos m) (pos n) h k = omega (arith, ints)
product_least (pos m) (negsuc n) h k = absurd (omega (arith, ints))
product_least (negsuc m) y h k = absurd (omega (arith, ints))

-- a product of positive numbers is positive
pub product_positive : (x y : ℤ) → pos 0 <ℤ x → pos 0 <ℤ y → pos 0 <ℤ (x *ℤ y)
product_positive (pos zero) y h k = absurd (omega (arith, ints))
product_positive (negsuc m) y h k = absurd (omega (arith, ints))
product_positive (pos (suc m)) (pos zero) h k = absurd (omega (arith, ints))
product_positive (pos (suc m)) (negsuc n) h k = absurd (omega (arith, ints))
product_positive (pos (suc m)) (pos (suc n)) h k = omega (arith, ints)

-- a number is at most another or greater
pub compared : (x y : ℤ) → (x ≤ℤ y) ⊎ (y <ℤ x)
compared x y = go (x -ℤ y) refl
  where
    go : (z : ℤ) → x -ℤ y ≡ z → (x ≤ℤ y) ⊎ (y <ℤ x)
    go (pos zero) e = inl (omega (arith, ints))
    go (pos (suc n)) e = inr (omega (arith, ints))
    go (negsuc n) e = inl (omega (arith, ints))

-- shares of two numbers that aren't negative, one share positive
pub mixed_least : (u t x y : ℤ) → pos 0 ≤ℤ u → pos 0 ≤ℤ t → pos 0 ≤ℤ x → pos 0 ≤ℤ y → pos 0 ≤ℤ (u *ℤ x +ℤ t *ℤ y)
mixed_least u t x y hu ht hx hy = go (u *ℤ x) (t *ℤ y) (product_least u x hu hx) (product_least t y ht hy)
  where
    go : (p q : ℤ) → pos 0 ≤ℤ p → pos 0 ≤ℤ q → pos 0 ≤ℤ (p +ℤ q)
    go p q h k = omega (arith, ints)

-- the same, strictly
pub mixed_positive : (u t x y : ℤ) → pos 0 ≤ℤ u → pos 0 ≤ℤ t → pos 0 <ℤ (u +ℤ t) → pos 0 <ℤ x → pos 0 <ℤ y → pos 0 <ℤ (u *ℤ x +ℤ t *ℤ y)
mixed_positive u t x y hu ht some hx hy = elim (compared u (pos 0)) [
  | inl low ↦ second (u *ℤ x) (t *ℤ y) (product_least u x hu (weak x hx)) (product_positive t y (right u t low some) hy)
  | inr high ↦ first (u *ℤ x) (t *ℤ y) (product_positive u x high hx) (product_least t y ht (weak y hy))
]
  where
    weak : (z : ℤ) → pos 0 <ℤ z → pos 0 ≤ℤ z
    weak z h = omega (arith, ints)

    right : (u t : ℤ) → u ≤ℤ pos 0 → pos 0 <ℤ (u +ℤ t) → pos 0 <ℤ t
    right u t h k = omega (arith, ints)

    first : (p q : ℤ) → pos 0 <ℤ p → pos 0 ≤ℤ q → pos 0 <ℤ (p +ℤ q)
    first p q h k = omega (arith, ints)

    second : (p q : ℤ) → pos 0 ≤ℤ p → pos 0 <ℤ q → pos 0 <ℤ (p +ℤ q)
    second p q h k = omega (arith, ints)
