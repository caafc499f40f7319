-- Removing zero turns keeps whether a point is inside a contour.
use Rattle.std.proofs.Common.{◌≡◌, ℕ, ◌+◌, ◌*◌, ◌%◌, ◌<◌, List, [], ◌∷◌, length, remove, ℤ, pos, ◌+ℤ◌, ◌-ℤ◌, ◌*ℤ◌, neg_ℤ, ◌<ℤ◌, ◌≤ℤ◌, refl, sym, ap, ◌∙◌, arith, ◌↔◌, Bool, true, false, cond, int_lt, count_by}
use Rattle.std.proofs.lemmas.Int.{ints}
use Rattle.std.proofs.lemmas.List.Sums.{sum_by-cons}
use Rattle.i_shape_core.specs.Point.{Point, cross, IsZeroTurn}
use Rattle.i_shape_core.specs.Contour.{point_at, place_before, place_after, Step, Reach, stay, step}
use Rattle.i_shape_core.specs.Edges.{Edge, edges, sum_of, is_right, Inside}
use Rattle.i_shape_core.specs.Laws.{InsideKept}
use Rattle.i_shape_core.proofs.Arithmetic.Polynomials.{variable, plus, times, minus, by_polynomials}
use Rattle.i_shape_core.proofs.Plane.CrossProducts.{edge, coordinates, cross_term, A, B, C, D, triangle_identity, cross_reversed}
use Rattle.i_shape_core.proofs.Arithmetic.WholeNumbers.{alike_scaled, drop_last}
use Rattle.i_shape_core.proofs.Sums.Edges.{sum_without}

-- `cross a p c` by `cross b p c` and `cross a b c`, with differences of heights as factors
height : (a b c p : Point) → (c.y -ℤ b.y) *ℤ cross a p c ≡ (c.y -ℤ a.y) *ℤ cross b p c +ℤ (c.y -ℤ p.y) *ℤ cross a b c
unfolding cross
height a b c p = by_polynomials (coordinates (a ∷ b ∷ c ∷ p ∷ []))
    (times (plus C.y (minus B.y)) (cross_term A D C))
    (plus (times (plus C.y (minus A.y)) (cross_term B D C)) (times (plus C.y (minus D.y)) (cross_term A B C))) refl

-- if a, b and c are collinear, c is above p, and a and b aren't, p is on the same side of ac as of bc
pub right_low : (a b c p : Point) → cross a b c ≡ pos 0 → a.y ≤ℤ p.y → b.y ≤ℤ p.y → p.y <ℤ c.y → int_lt (cross a p c) (pos 0) ≡ int_lt (cross b p c) (pos 0)
right_low a b c p e f g h = (alike_scaled (c.y -ℤ a.y) (c.y -ℤ b.y) (cross a p c) (cross b p c) (omega (arith, ints)) (omega (arith, ints))
    (drop_last ((c.y -ℤ b.y) *ℤ cross a p c) ((c.y -ℤ a.y) *ℤ cross b p c) (c.y -ℤ p.y) (cross a b c) (height a b c p) e)).below

-- if a, b and c are collinear, a and b are above p, and c isn't, p is on the same side of ca as of cb
pub right_high : (a b c p : Point) → cross a b c ≡ pos 0 → p.y <ℤ a.y → p.y <ℤ b.y → c.y ≤ℤ p.y → int_lt (cross c p a) (pos 0) ≡ int_lt (cross c p b) (pos 0)
right_high a b c p e f g h = (alike_scaled (a.y -ℤ c.y) (b.y -ℤ c.y) (cross c p a) (cross c p b) (omega (arith, ints)) (omega (arith, ints)) turned).below
  where
    flipped : (s t x : ℤ) → (s -ℤ t) *ℤ neg_ℤ x ≡ (t -ℤ s) *ℤ x
    flipped s t x = by_polynomials (s ∷ t ∷ x ∷ []) (times (plus (variable 0) (minus (variable 1))) (minus (variable 2))) (times (plus (variable 1) (minus (variable 0))) (variable 2)) refl

    turned : (b.y -ℤ c.y) *ℤ cross c p a ≡ (a.y -ℤ c.y) *ℤ cross c p b
    turned = rw (cross_reversed a p c, cross_reversed b p c) (flipped b.y c.y (cross a p c)
        ∙ drop_last ((c.y -ℤ b.y) *ℤ cross a p c) ((c.y -ℤ a.y) *ℤ cross b p c) (c.y -ℤ p.y) (cross a b c) (height a b c p) e
        ∙ sym (flipped a.y c.y (cross b p c)))

-- 1 for true, 0 for false
abbrev pub bit_of : Bool → ℕ
bit_of t = cond t 1 0

-- 1 for an edge right of p, 0 for any other
abbrev pub bit_of_edge : Point → Edge → ℕ
bit_of_edge p e = bit_of (is_right p e)

-- if the comparison returns true, a is above p
pub above_by_test : (p a : Point) → int_lt p.y a.y ≡ true → p.y <ℤ a.y
above_by_test p a e = omega (arith, ints)

-- if the comparison returns false, a isn't above p
pub not_above : (p a : Point) → int_lt p.y a.y ≡ false → a.y ≤ℤ p.y
not_above p a e = omega (arith, ints)

-- whether an edge is right of p, by which of its ends are above p
pub right_when : (p : Point) (a b : Point) (s t : Bool) → int_lt p.y a.y ≡ s → int_lt p.y b.y ≡ t
    → is_right p (edge a b) ≡ cond s (cond t false (int_lt (cross b p a) (pos 0))) (cond t (int_lt (cross a p b) (pos 0)) false)
unfolding is_right
right_when p a b s t e f = rw (e, f) refl

twice : (t u : Bool) → t ≡ u → bit_of t + bit_of u ≡ 2 * bit_of t
twice t u e = rw (← e) (omega arith)

-- of the edges ab, bc and ac of a triangle without area an even number lie to the right of p
counts : (p a b c : Point) → cross a b c ≡ pos 0 → (n : ℕ) × (bit_of_edge p (edge a b) + bit_of_edge p (edge b c) ≡ bit_of_edge p (edge a c) + 2 * n)
counts p a b c z = go (int_lt p.y a.y) (int_lt p.y b.y) (int_lt p.y c.y) refl refl refl
  where
    go : (s t u : Bool) → int_lt p.y a.y ≡ s → int_lt p.y b.y ≡ t → int_lt p.y c.y ≡ u → (n : ℕ) × (bit_of_edge p (edge a b) + bit_of_edge p (edge b c) ≡ bit_of_edge p (edge a c) + 2 * n)
    go true true true e f g = (0, rw (right_when p a b true true e f, right_when p b c true true f g, right_when p a c true true e g) (omega arith))
    go false false false e f g = (0, rw (right_when p a b false false e f, right_when p b c false false f g, right_when p a c false false e g) (omega arith))
    go true true false e f g = (0, rw (right_when p a b true true e f, right_when p b c true false f g, right_when p a c true false e g, right_high a b c p z (above_by_test p a e) (above_by_test p b f) (not_above p c g)) (omega arith))
    go false false true e f g = (0, rw (right_when p a b false false e f, right_when p b c false true f g, right_when p a c false true e g, right_low a b c p z (not_above p a e) (not_above p b f) (above_by_test p c g)) (omega arith))
    go true false false e f g = (0, rw (right_when p a b true false e f, right_when p b c false false f g, right_when p a c true false e g, right_low b c a p (triangle_identity b c a ∙ triangle_identity c a b ∙ z) (not_above p b f) (not_above p c g) (above_by_test p a e)) (omega arith))
    go false true true e f g = (0, rw (right_when p a b false true e f, right_when p b c true true f g, right_when p a c false true e g, right_high b c a p (triangle_identity b c a ∙ triangle_identity c a b ∙ z) (above_by_test p b f) (above_by_test p c g) (not_above p a e)) (omega arith))
    go true false true e f g = (bit_of (int_lt (cross b p a) (pos 0)), rw (right_when p a b true false e f, right_when p b c false true f g, right_when p a c true true e g) (twice _ _ (sym (right_high c a b p (triangle_identity c a b ∙ z) (above_by_test p c g) (above_by_test p a e) (not_above p b f))) ∙ omega arith))
    go false true false e f g = (bit_of (int_lt (cross a p b) (pos 0)), rw (right_when p a b false true e f, right_when p b c true false f g, right_when p a c false false e g) (twice _ _ (sym (right_low c a b p (triangle_identity c a b ∙ z) (not_above p c g) (not_above p a e) (above_by_test p b f))) ∙ omega arith))

-- the number of edges right of p is a sum over the edges
pub count_as_sum : (p : Point) (es : List Edge) → sum_of (λ e. pos (bit_of_edge p e)) es ≡ pos (count_by (is_right p) es)
count_as_sum p [] = refl
count_as_sum p (e ∷ es) = ap (λ (z : ℤ). pos (bit_of_edge p e) +ℤ z) (count_as_sum p es) ∙ ap pos (sym (sum_by-cons (bit_of_edge p) e es))

-- two counts that differ by an even number have the same parity
pub same_parity_by_even : (m n a b c t : ℕ) → pos m +ℤ pos c ≡ pos n +ℤ (pos a +ℤ pos b) → a + b ≡ c + 2 * t → m % 2 ≡ n % 2
same_parity_by_even m n a b c t e f = omega (arith, ints)

parity_after_step : (p : Point) (c d : List Point) → Step IsZeroTurn c d → count_by (is_right p) (edges c) % 2 ≡ count_by (is_right p) (edges d) % 2
parity_after_step p c d s = let r = s.removable in
    let k : ℕ = s.place in
    let n : ℕ = length c in
    let x : Point = point_at c (place_before n k) in
    let y : Point = point_at c k in
    let z : Point = point_at c (place_after n k) in
    let w = counts p x y z r.passes in
    let e = sum_without (λ e. pos (bit_of_edge p e)) c k (omega (arith, r.enough)) r.within in
    let rest : List Edge = edges (remove c k) in
    same_parity_by_even (count_by (is_right p) (edges c)) (count_by (is_right p) rest) (bit_of_edge p (edge x y)) (bit_of_edge p (edge y z)) (bit_of_edge p (edge x z)) w.0
    (ap (λ (u : ℤ). u +ℤ pos (bit_of_edge p (edge x z))) (sym (count_as_sum p (edges c))) ∙ e ∙ ap (λ (u : ℤ). u +ℤ (pos (bit_of_edge p (edge x y)) +ℤ pos (bit_of_edge p (edge y z)))) (count_as_sum p rest))
    w.1
    ∙ ap (λ (es : List Point). count_by (is_right p) (edges es) % 2) (sym s.left)

parity_kept : (p : Point) (c d : List Point) → Reach IsZeroTurn c d → count_by (is_right p) (edges c) % 2 ≡ count_by (is_right p) (edges d) % 2
parity_kept p c d stay = refl
parity_kept p c d (step {d = m} s r) = parity_after_step p c m s ∙ parity_kept p m d r

-- removing zero turns keeps the points inside
pub inside_kept : (c d : List Point) → Reach IsZeroTurn c d → (p : Point) → Inside c p ↔ Inside d p
unfolding Inside
inside_kept c d r p = (λ h. sym (parity_kept p c d r) ∙ h, λ h. parity_kept p c d r ∙ h)

-- an edge is right of p exactly if it is backwards
pub right_reversed : (p a b : Point) → is_right p (edge a b) ≡ is_right p (edge b a)
right_reversed p a b = go (int_lt p.y a.y) (int_lt p.y b.y) refl refl
  where
    go : (s t : Bool) → int_lt p.y a.y ≡ s → int_lt p.y b.y ≡ t → is_right p (edge a b) ≡ is_right p (edge b a)
    go true true e f = rw (right_when p a b true true e f, right_when p b a true true f e) refl
    go true false e f = rw (right_when p a b true false e f, right_when p b a false true f e) refl
    go false true e f = rw (right_when p a b false true e f, right_when p b a true false f e) refl
    go false false e f = rw (right_when p a b false false e f, right_when p b a false false f e) refl

even : (a b : Bool) → a ≡ b → (bit_of a + (bit_of b + 0)) % 2 ≡ 0
even a true e = rw e refl
even a false e = rw e refl

not_right : (p a : Point) → is_right p (edge a a) ≡ false
not_right p a = go (int_lt p.y a.y) refl
  where
    go : (s : Bool) → int_lt p.y a.y ≡ s → is_right p (edge a a) ≡ false
    go true e = right_when p a a true true e e
    go false e = right_when p a a false false e e

-- no point is inside a contour of fewer than three points
pub none_inside : (c : List Point) → length c < 3 → (p : Point) → Inside c p → ⊥
unfolding Inside
none_inside [] l p h = omega arith
none_inside (a ∷ []) l p h = let e = not_right p a in absurd (omega (arith, rw e at h))
none_inside (a ∷ b ∷ []) l p h = let e = even (is_right p (edge a b)) (is_right p (edge b a)) (right_reversed p a b) in omega arith
none_inside (a ∷ b ∷ c ∷ cs) l p h = omega arith

-- removing zero turns keeps the points inside, and a contour of fewer than three points has none
pub inside_laws : (c d : List Point) → InsideKept c d
inside_laws c d = record { kept = inside_kept c d; none = none_inside c }
