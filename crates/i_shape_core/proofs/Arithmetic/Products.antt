-- The range of products of coordinates, which the wider type holds.
use Rattle.std.proofs.Common.{◌≡◌, ℕ, suc, ◌+◌, ◌*◌, ◌-◌, ◌^◌, ◌<◌, ◌≤◌, ℤ, pos, negsuc, ◌+ℤ◌, ◌-ℤ◌, ◌*ℤ◌, ◌≤ℤ◌, ◌<ℤ◌, neg_ℤ, FitsSigned, to_z, of_z, ap, sym, subst, ◌∙◌, arith, inl, inr, mul-le-mul, pow-add, pow_pos}
use Rattle.std.proofs.lemmas.Bool.{cases_lt}
use Rattle.std.proofs.lemmas.Int.{ints, int_wrap_fits, by_lt_z, to_z-of_z}
use Rattle.std.specs.Int.{Width, int_wrap}
use Rattle.i_shape_core.specs.Widths.{hbits}

-- z is in the range of a type whose least number is -r
pub record InReach (r : ℕ) (z : ℤ) : Type 0 where
  pub from : neg_ℤ (pos r) ≤ℤ z
  pub below : z <ℤ pos r

-- p is at least -r² + r and at most r², as a product of two such numbers is
pub record IsProduct (r : ℕ) (p : ℤ) : Type 0 where
  pub low : pos r ≤ℤ (p +ℤ pos (r * r))
  pub high : p ≤ℤ pos (r * r)

-- a number that fits a width is in its range
pub fits-reach : (w : Width) (z : ℤ) → FitsSigned w z → InReach (2 ^ hbits w) z
fits-reach w (pos n) f = let s = f.sfits in record { from = omega (arith, ints); below = omega (arith, ints) }
fits-reach w (negsuc n) f = let s = f.sfits in record { from = omega (arith, ints); below = omega (arith, ints) }

-- a number in the range of a width fits it
pub reach-fits : (w : Width) (z : ℤ) → InReach (2 ^ hbits w) z → FitsSigned w z
reach-fits w (pos n) h = let b = h.below in record { sfits = omega (arith, ints) }
reach-fits w (negsuc n) h = let b = h.from in record { sfits = omega (arith, ints) }

half-product : (r m n : ℕ) → m < r → n ≤ r → m * n + r ≤ r * r
half-product r m n p q =
    let one = mul-le-mul (let h : m ≤ m = omega arith in h) q in
    let two = mul-le-mul p (let h : r ≤ r = omega arith in h) in
    omega (arith, one, two)

-- a product of two numbers in the range of r is at least -r² + r and at most r²
pub product-of : (r : ℕ) (a b : ℤ) → InReach r a → InReach r b → IsProduct r (a *ℤ b)
product-of r (pos m) (pos n) f g =
    let p : m < r = omega (arith, ints, f.below) in
    let q : n ≤ r = omega (arith, ints, g.below) in
    let h = half-product r m n p q in
    record { low = omega (arith, ints); high = omega (arith, ints) }
product-of r (pos m) (negsuc n) f g =
    let p : m < r = omega (arith, ints, f.below) in
    let q : suc n ≤ r = omega (arith, ints, g.from) in
    let h = half-product r m (suc n) p q in
    record { low = omega (arith, ints); high = omega (arith, ints) }
product-of r (negsuc m) (pos n) f g =
    let p : suc m ≤ r = omega (arith, ints, f.from) in
    let q : n < r = omega (arith, ints, g.below) in
    let h = half-product r n (suc m) q p in
    record { low = omega (arith, ints); high = omega (arith, ints) }
product-of r (negsuc m) (negsuc n) f g =
    let p : suc m ≤ r = omega (arith, ints, f.from) in
    let q : suc n ≤ r = omega (arith, ints, g.from) in
    let h = mul-le-mul p q in
    let k = mul-le-mul (let o : 1 ≤ r = omega arith in o) (let o : r ≤ r = omega arith in o) in
    record { low = omega (arith, ints); high = omega (arith, ints) }

-- the wider type's range is twice that of the products
pub wide-reach : (w W : Width) → hbits W ≡ 2 * hbits w + 1 → 2 ^ hbits W ≡ 2 * (2 ^ hbits w * 2 ^ hbits w)
wide-reach w W e =
    ap (λ (n : ℕ). 2 ^ n) e
    ∙ (let h : 2 * hbits w + 1 ≡ 1 + (hbits w + hbits w) = omega arith in ap (λ (n : ℕ). 2 ^ n) h)
    ∙ pow-add 2 1 (hbits w + hbits w)
    ∙ ap (λ (n : ℕ). 2 * n) (pow-add 2 (hbits w) (hbits w))

wide-fits : (w W : Width) (z : ℤ) → hbits W ≡ 2 * hbits w + 1 → InReach (2 * (2 ^ hbits w * 2 ^ hbits w)) z → FitsSigned W z
wide-fits w W z e h = reach-fits W z (subst (λ (r : ℕ). InReach r z) (sym (wide-reach w W e)) h)

product-reach : (r : ℕ) (p : ℤ) → 0 < r → IsProduct r p → InReach (2 * (r * r)) p
product-reach r p some h =
    let low = h.low in
    let high = h.high in
    let k = mul-le-mul some some in
    record { from = omega (arith, ints); below = omega (arith, ints) }

difference-reach : (r : ℕ) (p q : ℤ) → 0 < r → IsProduct r p → IsProduct r q → InReach (2 * (r * r)) (p -ℤ q)
difference-reach r p q some h k =
    let h1 = h.low in
    let h2 = h.high in
    let k1 = k.low in
    let k2 = k.high in
    record { from = omega (arith, ints); below = omega (arith, ints) }

-- a product of two coordinates fits the wider type
pub product-fits : (w W : Width) → hbits W ≡ 2 * hbits w + 1 → (a b : ℤ) → FitsSigned w a → FitsSigned w b → FitsSigned W (a *ℤ b)
product-fits w W e a b fa fb =
    let r : ℕ = 2 ^ hbits w in
    let p = product-of r a b (fits-reach w a fa) (fits-reach w b fb) in
    wide-fits w W (a *ℤ b) e (product-reach r (a *ℤ b) (pow_pos (hbits w)) p)

-- a product of two coordinates doesn't wrap in the wider type
wrapped-product : (w W : Width) → hbits W ≡ 2 * hbits w + 1 → (a b : ℤ) → FitsSigned w a → FitsSigned w b → int_wrap W (a *ℤ b) ≡ a *ℤ b
wrapped-product w W e a b fa fb = int_wrap_fits W (a *ℤ b) (product-fits w W e a b fa fb)

-- converting a coordinate to the wider type keeps it
pub widened : (w W : Width) → hbits W ≡ 2 * hbits w + 1 → (a a' : ℤ) → FitsSigned w a → a' ≡ to_z w (of_z w a) → to_z W (of_z W a') ≡ a
widened w W e a a' f same =
    let r : ℕ = 2 ^ hbits w in
    let some : 0 < r = pow_pos (hbits w) in
    let k = mul-le-mul some (let o : r ≤ r = omega arith in o) in
    let h = fits-reach w a f in
    let from = h.from in
    let below = h.below in
    let reach : InReach (2 * (r * r)) a = record { from = omega (arith, ints); below = omega (arith, ints) } in
    ap (λ z. to_z W (of_z W z)) (same ∙ to_z-of_z w a f) ∙ to_z-of_z W a (wide-fits w W a e reach)

-- a difference of two products of coordinates is exact in the wider type
pub wrapped-difference : (w W : Width) → hbits W ≡ 2 * hbits w + 1 → (a b c d a' b' c' d' left right out : ℤ)
    → FitsSigned w a → FitsSigned w b → FitsSigned w c → FitsSigned w d
    → a' ≡ a → b' ≡ b → c' ≡ c → d' ≡ d
    → left ≡ int_wrap W (a' *ℤ b') → right ≡ int_wrap W (c' *ℤ d') → out ≡ int_wrap W (left -ℤ right)
    → out ≡ (a *ℤ b) -ℤ (c *ℤ d)
wrapped-difference w W e a b c d a' b' c' d' left right out fa fb fc fd ea eb ec ed el er eo =
    let r : ℕ = 2 ^ hbits w in
    let some : 0 < r = pow_pos (hbits w) in
    let p = product-of r a b (fits-reach w a fa) (fits-reach w b fb) in
    let q = product-of r c d (fits-reach w c fc) (fits-reach w d fd) in
    let lp = wrapped-product w W e a b fa fb in
    let lq = wrapped-product w W e c d fc fd in
    let lo : int_wrap W ((a *ℤ b) -ℤ (c *ℤ d)) ≡ (a *ℤ b) -ℤ (c *ℤ d) =
    int_wrap_fits W _ (wide-fits w W _ e (difference-reach r (a *ℤ b) (c *ℤ d) some p q)) in
    cc

-- a product is r² or more only if both factors are -r
pub product-top : (r : ℕ) (a b : ℤ) → 0 < r → InReach r a → InReach r b → pos (r * r) ≤ℤ (a *ℤ b) → (a ≡ neg_ℤ (pos r)) × (b ≡ neg_ℤ (pos r))
product-top r (pos m) (pos n) some f g top =
    let p : m < r = omega (arith, ints, f.below) in
    let q : n ≤ r = omega (arith, ints, g.below) in
    let h = half-product r m n p q in
    absurd (omega (arith, ints))
product-top r (pos m) (negsuc n) some f g top = let k = mul-le-mul some some in absurd (omega (arith, ints))
product-top r (negsuc m) (pos n) some f g top = let k = mul-le-mul some some in absurd (omega (arith, ints))
product-top r (negsuc m) (negsuc n) some f g top =
    let p : suc m ≤ r = omega (arith, ints, f.from) in
    let q : suc n ≤ r = omega (arith, ints, g.from) in
    let m-most : r ≤ suc m = elim (cases_lt (suc m) r) [ inl l ↦ (let h = half-product r (suc m) (suc n) l q in absurd (omega (arith, ints))) | inr l ↦ l ] in
    let n-most : r ≤ suc n = elim (cases_lt (suc n) r) [ inl l ↦ (let h = half-product r (suc n) (suc m) l p in absurd (omega (arith, ints))) | inr l ↦ l ] in
    (omega (arith, ints), omega (arith, ints))

sum-reach : (r : ℕ) (p q : ℤ) → 0 < r → IsProduct r p → IsProduct r q → (pos (r * r) ≤ℤ p → pos (r * r) ≤ℤ q → ⊥) → InReach (2 * (r * r)) (p +ℤ q)
sum-reach r p q some h k low =
    let h1 = h.low in
    let h2 = h.high in
    let k1 = k.low in
    let k2 = k.high in
    let one = mul-le-mul some some in
    record {
      from = omega (arith, ints);
      below = by_lt_z (p +ℤ q) (pos (2 * (r * r))) (λ l. l)
          (λ l. absurd (low (omega (arith, ints)) (omega (arith, ints))));
    }

-- a sum of two products of coordinates is exact in the wider type unless all four are the least number
pub wrapped-sum : (w W : Width) → hbits W ≡ 2 * hbits w + 1 → (a b c d a' b' c' d' left right out least : ℤ)
    → FitsSigned w a → FitsSigned w b → FitsSigned w c → FitsSigned w d
    → a' ≡ a → b' ≡ b → c' ≡ c → d' ≡ d
    → left ≡ int_wrap W (a' *ℤ b') → right ≡ int_wrap W (c' *ℤ d') → out ≡ int_wrap W (left +ℤ right)
    → least ≡ negsuc (2 ^ hbits w - 1) → (a ≡ least → b ≡ least → c ≡ least → d ≡ least → ⊥)
    → out ≡ (a *ℤ b) +ℤ (c *ℤ d)
wrapped-sum w W e a b c d a' b' c' d' left right out least fa fb fc fd ea eb ec ed el er eo em distinct =
    let r : ℕ = 2 ^ hbits w in
    let some : 0 < r = pow_pos (hbits w) in
    let ra = fits-reach w a fa in
    let rb = fits-reach w b fb in
    let rc = fits-reach w c fc in
    let rd = fits-reach w d fd in
    let p = product-of r a b ra rb in
    let q = product-of r c d rc rd in
    let bottom : neg_ℤ (pos r) ≡ least = omega (arith, ints) in
    let apart : (pos (r * r) ≤ℤ (a *ℤ b) → pos (r * r) ≤ℤ (c *ℤ d) → ⊥) =
    λ s t. let u = product-top r a b some ra rb s in let v = product-top r c d some rc rd t in
    distinct (u.0 ∙ bottom) (u.1 ∙ bottom) (v.0 ∙ bottom) (v.1 ∙ bottom) in
    let lp = wrapped-product w W e a b fa fb in
    let lq = wrapped-product w W e c d fc fd in
    let lo : int_wrap W ((a *ℤ b) +ℤ (c *ℤ d)) ≡ (a *ℤ b) +ℤ (c *ℤ d) =
    int_wrap_fits W _ (wide-fits w W _ e (sum-reach r (a *ℤ b) (c *ℤ d) some p q apart)) in
    cc
