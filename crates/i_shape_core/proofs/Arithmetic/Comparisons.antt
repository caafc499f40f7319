-- What comparisons of numbers return, as tests of integers.
use Rattle.std.proofs.Common.{◌≡◌, ◌↔◌, ℤ, pos, ◌<ℤ◌, ◌≤ℤ◌, int_lt, Bool, true, false, cond, IsTrue, Option, Some, rules, refl, sym, ap, subst, ◌∙◌, arith, Ordering, Less, Equal, Greater}
use Rattle.std.specs.Ordering.{int_cmp, is_gt, is_le, is_some_and}
use Rattle.std.proofs.lemmas.Int.{ints}

gt-cases : (x y : ℤ) (s t : Bool) → int_lt x y ≡ s → int_lt y x ≡ t → is_gt (cond s Less (cond t Greater Equal)) ≡ t
gt-cases x y true true e f = absurd (omega (arith, ints))
gt-cases x y true false e f = refl
gt-cases x y false true e f = refl
gt-cases x y false false e f = refl

-- `x > y` is whether y is less than x
pub gt-tells : (b : Bool) (p : Option Ordering) (x y : ℤ) → b ≡ is_some_and is_gt p → p ≡ Some (int_cmp x y) → b ≡ int_lt y x
gt-tells b p x y e f = e ∙ ap (is_some_and is_gt) f ∙ gt-cases x y (int_lt x y) (int_lt y x) refl refl

le-cases : (x y : ℤ) → IsTrue (is_le (int_cmp x y)) ↔ (x ≤ℤ y)
le-cases x y = search rules

-- `x <= y` is true exactly if x is at most y
pub le-tells : (b : Bool) (p : Option Ordering) (x y : ℤ) → b ≡ is_some_and is_le p → p ≡ Some (int_cmp x y) → IsTrue b ↔ (x ≤ℤ y)
le-tells b p x y e f =
    let k : b ≡ is_le (int_cmp x y) = e ∙ ap (is_some_and is_le) f in
    subst (λ (v : Bool). IsTrue v ↔ (x ≤ℤ y)) (sym k) (le-cases x y)

-- a test that is true exactly if z is below 0 is `int_lt z 0`
pub below-tells : (b : Bool) (z : ℤ) → IsTrue b ↔ (z <ℤ pos 0) → b ≡ int_lt z (pos 0)
below-tells true z h = let below : z <ℤ pos 0 = h.0 refl in omega (arith, ints)
below-tells false z h = go (int_lt z (pos 0)) refl
  where
    go : (t : Bool) → int_lt z (pos 0) ≡ t → false ≡ t
    go false e = refl
    go true e = let below : z <ℤ pos 0 = omega (arith, ints) in let t : IsTrue false = h.1 below in absurd (cc)
