-- What the tests of a middle compute, in the plane at twice its size.
use Rattle.std.proofs.Common.{◌≡◌, ◌↔◌, ℕ, ◌+◌, ◌*◌, ◌-◌, ◌^◌, ◌<◌, ◌≤◌, List, [], ◌∷◌, ℤ, pos, negsuc, neg_ℤ, ◌+ℤ◌, ◌-ℤ◌, ◌*ℤ◌, ◌<ℤ◌, int_lt, FitsSigned, Bool, true, false, cond, IsTrue, refl, sym, ap, ap₂, subst, ◌∙◌, arith, pow-add, pow_pos}
use Rattle.std.proofs.lemmas.Int.{ints, int_wrap_fits}
use Rattle.std.specs.Int.{Width, int_wrap}
use Rattle.std.proofs.Math.Nat.{mul-le-mul_left}
use Rattle.i_shape_core.specs.Widths.{bits, hbits}
use Rattle.i_shape_core.specs.Point.{Point, cross, cross_of, vector}
use Rattle.i_shape_core.specs.IntPoint.{IsSafe, IsSafeCoordinate, point_of, contour_of}
use Rattle.i_shape_core.specs.Moves.{moved, moved_point, scaling}
use Rattle.i_shape_core.specs.declared.point.IntPoint.{IntPoint}
use Rattle.i_shape_core.specs.Winding.{winding_of_edge}
use Rattle.i_shape_core.specs.Edges.{is_right}
use Rattle.i_shape_core.proofs.Sums.Inside.{right_when}
use Rattle.i_shape_core.proofs.Plane.CrossProducts.{edge}
use Rattle.i_shape_core.proofs.Arithmetic.Polynomials.{Term, number, variable, plus, times, minus, by_polynomials}
use Rattle.i_shape_core.proofs.Arithmetic.Products.{InReach, IsProduct, fits-reach, reach-fits, product-of, wide-reach}
use Rattle.i_shape_touching.specs.Places.{sum_of_points}
use Rattle.i_shape_touching.specs.Steps.Middles.{doubled}

-- p and p added: twice the point
abbrev pub twice : Point → Point
twice p = sum_of_points p p

-- ---- sides of a line
-- the cross product about a middle is twice the sum of those about the two points, turned
twice_cross : (low high p q : Point) → cross (twice low) (sum_of_points p q) (twice high)
    ≡ neg_ℤ (pos 2 *ℤ (cross_of (vector low high) (vector low p) +ℤ cross_of (vector low high) (vector low q)))
unfolding cross
twice_cross low high p q =
    let x : ℕ → Term = λ k. variable k in
    by_polynomials (low.x ∷ low.y ∷ high.x ∷ high.y ∷ p.x ∷ p.y ∷ q.x ∷ q.y ∷ [])
    (plus (times (plus (plus (x 4) (x 6)) (minus (plus (x 0) (x 0)))) (plus (plus (x 3) (x 3)) (minus (plus (x 5) (x 7)))))
    (minus (times (plus (plus (x 5) (x 7)) (minus (plus (x 1) (x 1)))) (plus (plus (x 2) (x 2)) (minus (plus (x 4) (x 6)))))))
    (minus (times (number (pos 2)) (plus
    (plus (times (plus (x 2) (minus (x 0))) (plus (x 5) (minus (x 1)))) (minus (times (plus (x 3) (minus (x 1))) (plus (x 4) (minus (x 0))))))
    (plus (times (plus (x 2) (minus (x 0))) (plus (x 7) (minus (x 1)))) (minus (times (plus (x 3) (minus (x 1))) (plus (x 6) (minus (x 0)))))))))
    refl

-- the middle is left of the line exactly if the cross product is below 0
left_sign : (z s t : ℤ) → z ≡ neg_ℤ (pos 2 *ℤ (s +ℤ t)) → ((pos 0 -ℤ t) <ℤ s) ↔ (z <ℤ pos 0)
left_sign z s t e = (λ h. omega (arith, ints), λ h. omega (arith, ints))

-- the test of two cross products is whether the middle is left of the line
pub left_told : (b : Bool) (low high p q : Point) (none second first : ℤ) → first ≡ cross_of (vector low high) (vector low p) → second ≡ cross_of (vector low high) (vector low q)
    → none ≡ pos 0 -ℤ second → IsTrue b ↔ (none <ℤ first) → IsTrue b ↔ (cross (twice low) (sum_of_points p q) (twice high) <ℤ pos 0)
left_told b low high p q none second first ef es en told =
    let sign = left_sign (cross (twice low) (sum_of_points p q) (twice high)) first second (twice_cross low high p q ∙ ap₂ (λ (s t : ℤ). neg_ℤ (pos 2 *ℤ (s +ℤ t))) (sym ef) (sym es)) in
    (λ t. sign.0 (subst (λ (z : ℤ). z <ℤ first) en (told.0 t)), λ h. told.1 (subst (λ (z : ℤ). z <ℤ first) (sym en) (sign.1 h)))

-- ---- ranges
-- the difference of two safe coordinates is in the range of the type
safe_apart : (w : Width) → 2 ≤ hbits w → bits w ≡ hbits w + 1 → (a b : ℤ) → IsSafeCoordinate w a → IsSafeCoordinate w b → InReach (2 ^ hbits w) (a -ℤ b)
safe_apart w some split a b s t =
    let k : ℕ = bits w - 2 in
    let h : hbits w ≡ 1 + k = omega arith in
    let p : 2 ^ hbits w ≡ 2 * 2 ^ k = ap (λ (n : ℕ). 2 ^ n) h ∙ pow-add 2 1 k in
    within (2 ^ hbits w) (2 ^ k) p a b s.0 s.1 t.0 t.1
  where
    within : (r q : ℕ) → r ≡ 2 * q → (a b : ℤ) → neg_ℤ (pos q) <ℤ a → a <ℤ pos q → neg_ℤ (pos q) <ℤ b → b <ℤ pos q → InReach r (a -ℤ b)
    within r q e a b h i j k = record { from = omega (arith, ints); below = omega (arith, ints) }

-- the negative of a difference of two products is in the wider range
negative_reach : (r : ℕ) (p q : ℤ) → 0 < r → r ≤ r * r → IsProduct r p → IsProduct r q → InReach (2 * (r * r)) (pos 0 -ℤ (p -ℤ q))
negative_reach r p q some square h k =
    let h1 = h.low in
    let h2 = h.high in
    let k1 = k.low in
    let k2 = k.high in
    record { from = omega (arith, ints); below = omega (arith, ints) }

-- a number above 0 is at most its square
square_least : (r : ℕ) → 0 < r → r ≤ r * r
square_least r some = omega (arith, mul-le-mul_left r some)

-- the negative of a cross product of safe points fits the wider type
pub negative_fits : (w W : Width) → hbits W ≡ 2 * hbits w + 1 → 2 ≤ hbits w → bits w ≡ hbits w + 1 → (low high q : Point) → IsSafe w low → IsSafe w high → IsSafe w q
    → (second none zero : ℤ) → second ≡ cross_of (vector low high) (vector low q) → zero ≡ pos 0 → none ≡ int_wrap W (zero -ℤ second) → none ≡ pos 0 -ℤ second
negative_fits w W e some split low high q sl sh sq second none zero es ez en =
    let r : ℕ = 2 ^ hbits w in
    let positive : 0 < r = pow_pos (hbits w) in
    let p = product-of r _ _ (safe_apart w some split high.x low.x sh.0 sl.0) (safe_apart w some split q.y low.y sq.1 sl.1) in
    let s = product-of r _ _ (safe_apart w some split high.y low.y sh.1 sl.1) (safe_apart w some split q.x low.x sq.0 sl.0) in
    let reach = negative_reach r _ _ positive (square_least r positive) p s in
    let fits : FitsSigned W (pos 0 -ℤ cross_of (vector low high) (vector low q)) = reach-fits W _ (subst (λ (m : ℕ). InReach m (pos 0 -ℤ cross_of (vector low high) (vector low q))) (sym (wide-reach w W e)) reach) in
    en ∙ ap₂ (λ (z s : ℤ). int_wrap W (z -ℤ s)) ez es ∙ int_wrap_fits W _ fits ∙ ap (λ (s : ℤ). pos 0 -ℤ s) (sym es)

-- the sum of two numbers in the range of r is in the wider range
sum_reach : (r : ℕ) (a b : ℤ) → 0 < r → r ≤ r * r → InReach r a → InReach r b → InReach (2 * (r * r)) (a +ℤ b)
sum_reach r a b some square f g =
    let f1 = f.from in
    let f2 = f.below in
    let g1 = g.from in
    let g2 = g.below in
    record { from = omega (arith, ints); below = omega (arith, ints) }

-- the sum of two coordinates doesn't wrap in the wider type
pub sum_wide : (w W : Width) → hbits W ≡ 2 * hbits w + 1 → (a b a' b' out : ℤ) → FitsSigned w a → FitsSigned w b → a' ≡ a → b' ≡ b → out ≡ int_wrap W (a' +ℤ b') → out ≡ a +ℤ b
sum_wide w W e a b a' b' out fa fb ea eb eo =
    let r : ℕ = 2 ^ hbits w in
    let positive : 0 < r = pow_pos (hbits w) in
    let reach = sum_reach r a b positive (square_least r positive) (fits-reach w a fa) (fits-reach w b fb) in
    let fits : FitsSigned W (a +ℤ b) = reach-fits W (a +ℤ b) (subst (λ (m : ℕ). InReach m (a +ℤ b)) (sym (wide-reach w W e)) reach) in
    eo ∙ ap₂ (λ (x y : ℤ). int_wrap W (x +ℤ y)) ea eb ∙ int_wrap_fits W (a +ℤ b) fits

-- a test that is true exactly if x is less than y is `int_lt x y`
pub less-tells : (b : Bool) (x y : ℤ) → IsTrue b ↔ (x <ℤ y) → b ≡ int_lt x y
less-tells true x y h = let below : x <ℤ y = h.0 refl in omega (arith, ints)
less-tells false x y h = go (int_lt x y) refl
  where
    go : (t : Bool) → int_lt x y ≡ t → false ≡ t
    go false e = refl
    go true e = let below : x <ℤ y = omega (arith, ints) in let t : IsTrue false = h.1 below in absurd (cc)

-- ---- what an edge adds
-- an edge whose ends are both above p adds nothing
pub adds_if_above : (p a b : Point) → int_lt p.y a.y ≡ true → int_lt p.y b.y ≡ true → pos 0 ≡ winding_of_edge p (edge a b)
unfolding winding_of_edge
adds_if_above p a b s t = rw (right_when p a b true true s t) refl

-- an edge neither of whose ends is above p adds nothing
pub adds_if_below : (p a b : Point) → int_lt p.y a.y ≡ false → int_lt p.y b.y ≡ false → pos 0 ≡ winding_of_edge p (edge a b)
unfolding winding_of_edge
adds_if_below p a b s t = rw (right_when p a b false false s t) refl

-- an edge down past the height of p adds -1 if p is left of it read upwards
pub adds_downwards : (p a b : Point) (l : Bool) → int_lt p.y a.y ≡ true → int_lt p.y b.y ≡ false → l ≡ int_lt (cross b p a) (pos 0) → cond l (negsuc 0) (pos 0) ≡ winding_of_edge p (edge a b)
unfolding winding_of_edge
adds_downwards p a b l s t e = go l e
  where
    go : (l : Bool) → l ≡ int_lt (cross b p a) (pos 0) → cond l (negsuc 0) (pos 0) ≡ cond (is_right p (edge a b)) (cond (int_lt p.y b.y) (pos 1) (pos 0) -ℤ cond (int_lt p.y a.y) (pos 1) (pos 0)) (pos 0)
    go true e = rw (right_when p a b true false s t, sym e, s, t) refl
    go false e = rw (right_when p a b true false s t, sym e) refl

-- an edge up past the height of p adds 1 if p is left of it
pub adds_upwards : (p a b : Point) (l : Bool) → int_lt p.y a.y ≡ false → int_lt p.y b.y ≡ true → l ≡ int_lt (cross a p b) (pos 0) → cond l (pos 1) (pos 0) ≡ winding_of_edge p (edge a b)
unfolding winding_of_edge
adds_upwards p a b l s t e = go l e
  where
    go : (l : Bool) → l ≡ int_lt (cross a p b) (pos 0) → cond l (pos 1) (pos 0) ≡ cond (is_right p (edge a b)) (cond (int_lt p.y b.y) (pos 1) (pos 0) -ℤ cond (int_lt p.y a.y) (pos 1) (pos 0)) (pos 0)
    go true e = rw (right_when p a b false true s t, sym e, s, t) refl
    go false e = rw (right_when p a b false true s t, sym e) refl

-- ---- the ring at twice its size
twice_is : (p : Point) → twice p ≡ moved_point (scaling (pos 2)) p
twice_is p = ap₂ (λ (x y : ℤ). record { x = x; y = y }) (first p.x p.y) (second p.x p.y)
  where
    first : (x y : ℤ) → x +ℤ x ≡ pos 2 *ℤ x +ℤ pos 0 *ℤ y +ℤ pos 0
    first x y = omega (arith, ints)

    second : (x y : ℤ) → y +ℤ y ≡ pos 0 *ℤ x +ℤ pos 2 *ℤ y +ℤ pos 0
    second x y = omega (arith, ints)

-- the ring read by doubled values is the ring moved to twice its size
pub twice_ring : {I : Type 0} (value : I → ℤ) (cs : List (IntPoint I)) → contour_of (doubled value) cs ≡ moved (scaling (pos 2)) (contour_of value cs)
twice_ring value [] = refl
twice_ring value (x ∷ cs) = ap₂ (λ (p : Point) (ps : List Point). p ∷ ps) (twice_is (point_of value x)) (twice_ring value cs)
