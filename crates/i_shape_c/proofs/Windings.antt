-- Sums of winding numbers over contours that offsets delimit.
use Rattle.std.proofs.Common.{◌≡◌, ℕ, zero, suc, ◌+◌, ◌-◌, ◌^◌, ◌<◌, ◌≤◌, ◌++◌, List, length, map, take, drop, slice_range, FitsSigned, w64, ℤ, ◌+ℤ◌, ap, ap₂, sym, subst, ◌∙◌, arith}
use Rattle.std.proofs.lemmas.List.{append_assoc, drop-drop, length-map, length-take-le, map-append}
use Rattle.std.proofs.Math.Seq.{take-add, take-append_seam, drop-append_seam}
use Rattle.std.specs.List.{range_with_len}
use Rattle.std.proofs.lemmas.Int.{ints}
use Rattle.i_shape_core.proofs.Arithmetic.Products.{reach-fits}
use Rattle.i_shape_c.specs.Windings.{no_winding}
use Rattle.i_shape_core.proofs.Common.{sum_of, IsWithinHalf}

-- the sum over n + 1 numbers from a on is that over n, plus f of the last
sum_more : (f : ℕ → ℤ) (a n : ℕ) → sum_of f (range_with_len a (suc n)) ≡ sum_of f (range_with_len a n) +ℤ f (a + n)
sum_more f a zero = let same : a + 0 ≡ a = omega arith in let one : f (a + 0) ≡ f a = ap f same in omega (arith, ints)
sum_more f a (suc n) =
    let next : a + 1 + n ≡ a + suc n = omega arith in
    ap (λ (z : ℤ). f a +ℤ z) (sum_more f (a + 1) n ∙ ap (λ (k : ℕ). sum_of f (range_with_len (a + 1) n) +ℤ f k) next) ∙ grouped (f a) (sum_of f (range_with_len (a + 1) n)) (f (a + suc n))
  where
    grouped : (x y z : ℤ) → x +ℤ (y +ℤ z) ≡ x +ℤ y +ℤ z
    grouped x y z = omega (arith, ints)

-- the sum over the first n + 1 numbers is that over the first n, plus f n
pub one_more : (f : ℕ → ℤ) (n : ℕ) → sum_of f (range_with_len 0 (suc n)) ≡ sum_of f (range_with_len 0 n) +ℤ f n
one_more f n = sum_more f 0 n ∙ ap (λ (k : ℕ). sum_of f (range_with_len 0 n) +ℤ f k) (let same : 0 + n ≡ n = omega arith in same)

-- adding a contour's winding number keeps the sum within half of the points so far
pub half_more : (n m k : ℕ) (sum turns : ℤ) → IsWithinHalf n sum → IsWithinHalf m turns → n + m ≡ k → IsWithinHalf k (sum +ℤ turns)
half_more n m k sum turns a b e =
    let most = a.most in
    let least = a.least in
    let more = b.most in
    let less = b.least in
    record { most = omega (arith, ints); least = omega (arith, ints) }

-- a sum within half of the points fits 64 bits
pub half_fits : (n : ℕ) (sum : ℤ) → n < 2 ^ 64 → IsWithinHalf n sum → FitsSigned w64 sum
half_fits n sum few half =
    let most = half.most in
    let least = half.least in
    reach-fits w64 sum (record { from = omega (arith, ints); below = omega (arith, ints) })

-- a sum within half of the points isn't the code
pub half_apart : (n : ℕ) (sum : ℤ) → n < 2 ^ 64 → IsWithinHalf n sum → sum ≡ no_winding → ⊥
half_apart n sum few half e =
    let most = half.most in
    let least = half.least in
    omega (arith, ints)

-- ---- batches
-- writing the items of points a to b after those of the first a makes those of the first b
pub batch_more : {P W : Type 0} (f : P → W) (about : List P) (a b : ℕ) (old out part new : List W) → a ≤ b → b ≤ length about
    → out ≡ map f (take a about) ++ drop a old → part ≡ map f (slice_range about a b) ++ drop (length (slice_range about a b)) (drop a out) → length (slice_range about a b) + a ≡ b
    → new ≡ take a out ++ part → new ≡ map f (take b about) ++ drop b old
batch_more f about a b old out part new order within told is many joined =
    let count : length (map f (take a about)) ≡ a = length-map (take a about) f ∙ length-take-le a about (omega (arith, order, within)) in
    let front : take a out ≡ map f (take a about) = ap (take a) told ∙ subst (λ n. take n (map f (take a about) ++ drop a old) ≡ map f (take a about)) count (take-append_seam (map f (take a about)) (drop a old)) in
    let behind : drop a out ≡ drop a old = ap (drop a) told ∙ subst (λ n. drop n (map f (take a about) ++ drop a old) ≡ drop a old) count (drop-append_seam (map f (take a about)) (drop a old)) in
    let middle = slice_range about a b in
    let sum : a + (b - a) ≡ b = omega (arith, order) in
    let sum_again : a + length middle ≡ b = omega (arith, many) in
    let all : take a about ++ middle ≡ take b about = sym (take-add a (b - a) about) ∙ ap (λ n. take n about) sum in
    let rest : drop (length middle) (drop a out) ≡ drop b old = ap (drop (length middle)) behind ∙ drop-drop (length middle) a old ∙ ap (λ n. drop n old) sum_again in
    joined ∙ ap₂ (λ xs ys. xs ++ ys) front (is ∙ ap (λ ys. map f middle ++ ys) rest)
    ∙ sym (append_assoc (map f (take a about)) (map f middle) (drop b old))
    ∙ ap (λ xs. xs ++ drop b old) (sym (map-append f (take a about) middle) ∙ ap (map f) all)
