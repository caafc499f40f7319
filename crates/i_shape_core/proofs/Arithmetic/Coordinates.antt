-- What comparisons of numbers return, and the bounds of the safe range.
use Rattle.std.proofs.Common.{◌≡◌, ◌↔◌, ℕ, suc, ◌+◌, ◌-◌, ◌*◌, ◌/◌, ◌^◌, ◌<◌, ◌≤◌, ℤ, pos, negsuc, ◌-ℤ◌, ◌<ℤ◌, neg_ℤ, FitsSigned, Bool, ◌&&◌, IsTrue, Option, Some, rules, ap, sym, subst, ◌∙◌, arith, int_div, Ordering, pow-add, pow_pos}
use Rattle.std.specs.Ordering.{int_cmp, is_lt, is_some_and}
use Rattle.std.proofs.Math.Nat.{mul-div_cancel_left, mul-le-mul_left, mul-le-mul_right}
use Rattle.std.proofs.lemmas.Bool.Decides.{Decides-and}
use Rattle.std.proofs.lemmas.Int.{ints, int_wrap_fits}
use Rattle.std.specs.Int.{Width, int_wrap}
use Rattle.i_shape_core.specs.Widths.{bits, hbits}
use Rattle.i_shape_core.proofs.Common.{IsSafeCoordinate, IsSafe, Point, vector}
use Rattle.i_shape_core.proofs.Arithmetic.Products.{InReach, reach-fits}

lt-cases : (x y : ℤ) → IsTrue (is_lt (int_cmp x y)) ↔ (x <ℤ y)
lt-cases x y = search rules

-- `x < y` is true exactly if x is less than y
pub lt-tells : (b : Bool) (p : Option Ordering) (x y : ℤ) → b ≡ is_some_and is_lt p → p ≡ Some (int_cmp x y) → IsTrue b ↔ (x <ℤ y)
lt-tells b p x y e f =
    let k : b ≡ is_lt (int_cmp x y) = e ∙ ap (is_some_and is_lt) f in
    subst (λ (v : Bool). IsTrue v ↔ (x <ℤ y)) (sym k) (lt-cases x y)

-- half the least number is the lower bound of the safe range
pub half-of-least : (w : Width) → 2 ≤ hbits w → bits w ≡ hbits w + 1 → (least two low : ℤ)
    → least ≡ negsuc (2 ^ hbits w - 1) → two ≡ pos 2 → low ≡ int_div least two → low ≡ neg_ℤ (pos (2 ^ (bits w - 2)))
half-of-least w some split least two low el et e =
    let k : ℕ = bits w - 2 in
    let h : hbits w ≡ 1 + k = omega arith in
    let p : 2 ^ hbits w ≡ 2 * 2 ^ k = ap (λ (n : ℕ). 2 ^ n) h ∙ pow-add 2 1 k in
    let one : 0 < 2 ^ k = pow_pos k in
    let top : suc (2 ^ hbits w - 1) ≡ 2 * 2 ^ k = omega arith in
    let two_is : 0 < 2 = omega arith in
    let q : suc (2 ^ hbits w - 1) / 2 ≡ 2 ^ k = ap (λ (n : ℕ). n / 2) top ∙ mul-div_cancel_left (2 ^ k) two_is in
    e ∙ ap (λ (z : ℤ). int_div z two) el ∙ ap (λ (z : ℤ). int_div (negsuc (2 ^ hbits w - 1)) z) et ∙ ap (λ (n : ℕ). neg_ℤ (pos n)) q

-- the negation of half the least number is the upper bound of the safe range
pub safe-high : (w W : Width) → hbits W ≡ 2 * hbits w + 1 → 2 ≤ hbits w → bits w ≡ hbits w + 1 → (none low high : ℤ)
    → none ≡ pos 0 → low ≡ neg_ℤ (pos (2 ^ (bits w - 2))) → high ≡ int_wrap W (none -ℤ low) → high ≡ pos (2 ^ (bits w - 2))
safe-high w W e some split none low high en el eh =
    let k : ℕ = bits w - 2 in
    let h : hbits W ≡ k + (k + 3) = omega arith in
    let p : 2 ^ hbits W ≡ 2 ^ k * 2 ^ (k + 3) = ap (λ (n : ℕ). 2 ^ n) h ∙ pow-add 2 k (k + 3) in
    let one : 0 < 2 ^ k = pow_pos k in
    let more : 2 ^ (k + 3) ≡ 2 ^ k * 8 = pow-add 2 k 3 in
    let big : 1 ≤ 2 ^ (k + 3) = pow_pos (k + 3) in
    let wide : 2 ^ k * 1 ≤ 2 ^ k * 2 ^ (k + 3) = mul-le-mul_left (2 ^ k) big in
    let eight : 1 * 8 ≤ 2 ^ k * 8 = mul-le-mul_right 8 one in
    let wider : 2 ^ k * 2 ≤ 2 ^ k * 2 ^ (k + 3) = let two : 2 ≤ 2 ^ (k + 3) = omega arith in mul-le-mul_left (2 ^ k) two in
    let same : none -ℤ low ≡ pos (2 ^ k) = omega (arith, ints) in
    let fits : FitsSigned W (pos (2 ^ k)) = record { sfits = omega arith } in
    eh ∙ ap (int_wrap W) same ∙ int_wrap_fits W (pos (2 ^ k)) fits

-- two comparisons decide whether a coordinate is safe
pub safe-tells : (w : Width) (z v low high : ℤ) (b d : Bool)
    → low ≡ neg_ℤ (pos (2 ^ (bits w - 2))) → high ≡ pos (2 ^ (bits w - 2)) → v ≡ z
    → IsTrue b ↔ (low <ℤ v) → IsTrue d ↔ (v <ℤ high) → IsTrue (b && d) ↔ IsSafeCoordinate w z
safe-tells w z v low high b d el eh ev hb hd =
    let told = Decides-and b d hb hd in (
      λ t. let both = told.0 t in (
        subst (λ (q : ℤ). q <ℤ z) el (subst (λ (q : ℤ). low <ℤ q) ev both.0),
        subst (λ (q : ℤ). z <ℤ q) eh (subst (λ (q : ℤ). q <ℤ high) ev both.1),
      ),
      λ s. told.1 (
        subst (λ (q : ℤ). low <ℤ q) (sym ev) (subst (λ (q : ℤ). q <ℤ z) (sym el) s.0),
        subst (λ (q : ℤ). v <ℤ q) (sym eh) (subst (λ (q : ℤ). q <ℤ pos (2 ^ (bits w - 2))) (sym ev) s.1),
      ),
    )

-- the difference of two safe coordinates fits
pub safe-difference : (w : Width) → 2 ≤ hbits w → bits w ≡ hbits w + 1 → (a b : ℤ) → IsSafeCoordinate w a → IsSafeCoordinate w b → FitsSigned w (a -ℤ b)
safe-difference w some split a b s t =
    let k : ℕ = bits w - 2 in
    let h : hbits w ≡ 1 + k = omega arith in
    let p : 2 ^ hbits w ≡ 2 * 2 ^ k = ap (λ (n : ℕ). 2 ^ n) h ∙ pow-add 2 1 k in
    reach-fits w (a -ℤ b) (within (2 ^ hbits w) (2 ^ k) p a b s.0 s.1 t.0 t.1)
  where
    within : (r q : ℕ) → r ≡ 2 * q → (a b : ℤ) → neg_ℤ (pos q) <ℤ a → a <ℤ pos q → neg_ℤ (pos q) <ℤ b → b <ℤ pos q → InReach r (a -ℤ b)
    within r q e a b h i j k = record { from = omega (arith, ints); below = omega (arith, ints) }

-- the x of a vector between two safe points isn't the least number
pub safe_vector-above : (w : Width) → 2 ≤ hbits w → bits w ≡ hbits w + 1 → (a b v : Point) (least : ℤ) → IsSafe w a → IsSafe w b → least ≡ negsuc (2 ^ hbits w - 1) → v ≡ vector b a → v.x ≡ least → ⊥
safe_vector-above w some split a b v least s t l is e =
    let k : ℕ = bits w - 2 in
    let h : hbits w ≡ 1 + k = omega arith in
    let p : 2 ^ hbits w ≡ 2 * 2 ^ k = ap (λ (n : ℕ). 2 ^ n) h ∙ pow-add 2 1 k in
    low (2 ^ hbits w) (2 ^ k) p (pow_pos k) a.x b.x s.0.0 t.0.1 (sym (ap (λ (p : Point). p.x) is) ∙ e ∙ l)
  where
    low : (r q : ℕ) → r ≡ 2 * q → 0 < q → (a b : ℤ) → neg_ℤ (pos q) <ℤ a → b <ℤ pos q → a -ℤ b ≡ negsuc (r - 1) → ⊥
    low r q e o a b h i f = omega (arith, ints)

-- the difference of two safe points fits
pub safe_points-apart : (w : Width) → 2 ≤ hbits w → bits w ≡ hbits w + 1 → (a b : Point) → IsSafe w a → IsSafe w b → FitsSigned w (a.x -ℤ b.x) × FitsSigned w (a.y -ℤ b.y)
safe_points-apart w some split a b s t = (safe-difference w some split a.x b.x s.0 t.0, safe-difference w some split a.y b.y s.1 t.1)
