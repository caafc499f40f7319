-- Sums of list items that wrap at each item, and counts.
use Rattle.std.proofs.Common.{◌≡◌, ℕ, ◌+◌, ◌*◌, ◌^◌, ◌<◌, ℤ, pos, neg_ℤ, ◌+ℤ◌, ◌-ℤ◌, ◌≤ℤ◌, List, map, length, drop, get_or, FitsSigned, w64, sym, ap, ◌∙◌, arith, sum_by}
use Rattle.std.proofs.lemmas.Int.{ints, int_wrap-add_left, int_wrap-add_right}
use Rattle.std.proofs.lemmas.List.Sums.{sum_by-cons}
use Rattle.i_shape.proofs.Common.{Width, int_wrap, w128, sum_of}
use Rattle.i_shape_core.proofs.Plane.Contours.{drop-read}
use Rattle.i_shape_core.proofs.Arithmetic.Products.{fits-reach, reach-fits}

-- s is the wrapped sum of the first k items
abbrev pub IsSummedUp : {A X : Type 0} → Width → (X → ℤ) → (A → X) → List A → ℕ → ℤ → Type 0
IsSummedUp w f view xs k s = s ≡ int_wrap w (sum_of f (map view xs) -ℤ sum_of f (map view (drop k xs)))

-- adding item k to the sum of the first k, wrapped, is the sum of k + 1
pub sum-more : {A X : Type 0} (w : Width) (f : X → ℤ) (view : A → X) (xs : List A) (k : ℕ) (a : A) (before item after : ℤ) → k < length xs → a ≡ get_or xs k a
    → IsSummedUp w f view xs k before → item ≡ int_wrap w (f (view a)) → after ≡ int_wrap w (before +ℤ item) → IsSummedUp w f view xs (k + 1) after
sum-more w f view xs k a before item after within read so_far here now =
    now ∙ ap (λ (z : ℤ). int_wrap w (before +ℤ z)) here ∙ int_wrap-add_right w before (f (view a))
    ∙ ap (λ (z : ℤ). int_wrap w (z +ℤ f (view a))) so_far ∙ int_wrap-add_left w (total -ℤ sum_of f (map view (drop k xs))) (f (view a))
    ∙ ap (int_wrap w) (moved total (sum_of f (map view (drop k xs))) (f (view a)) (sum_of f (map view (drop (k + 1) xs))) (ap (λ ys. sum_of f (map view ys)) (drop-read xs k a within read)))
  where
    total : ℤ
    total = sum_of f (map view xs)

    moved : (t r x q : ℤ) → r ≡ x +ℤ q → (t -ℤ r) +ℤ x ≡ t -ℤ q
    moved t r x q e = omega (arith, ints)

-- s is the sum of the first k numbers of 64 bits, and at most k * 2^63 from 0
pub record IsSummedFar {A X : Type 0} (f : X → ℤ) (view : A → X) (xs : List A) (k : ℕ) (s : ℤ) : Type 0 where
  pub told : s ≡ sum_of f (map view xs) -ℤ sum_of f (map view (drop k xs))
  pub most : s ≤ℤ pos (k * 2 ^ 63)
  pub least : neg_ℤ (pos (k * 2 ^ 63)) ≤ℤ s

-- a number that fits 64 bits fits 128
pub fits-twice : (z : ℤ) → FitsSigned w64 z → FitsSigned w128 z
fits-twice z fits =
    let reach = fits-reach w64 z fits in
    let from = reach.from in
    let below = reach.below in
    reach-fits w128 z (record { from = omega (arith, ints); below = omega (arith, ints) })

-- a sum of fewer than 2^64 numbers of 64 bits fits 128 bits
pub far-fits : (k : ℕ) (before item : ℤ) → k + 1 < 2 ^ 64 → before ≤ℤ pos (k * 2 ^ 63) → neg_ℤ (pos (k * 2 ^ 63)) ≤ℤ before → FitsSigned w64 item → FitsSigned w128 (before +ℤ item)
far-fits k before item few most least fits =
    let reach = fits-reach w64 item fits in
    let from = reach.from in
    let below = reach.below in
    reach-fits w128 (before +ℤ item) (record { from = omega (arith, ints); below = omega (arith, ints) })

-- adding item k to the sum of the first k is the sum of k + 1
pub far-more : {A X : Type 0} (f : X → ℤ) (view : A → X) (xs : List A) (k : ℕ) (a : A) (before item : ℤ) → k < length xs → a ≡ get_or xs k a
    → IsSummedFar f view xs k before → item ≡ f (view a) → FitsSigned w64 item → IsSummedFar f view xs (k + 1) (before +ℤ item)
far-more {A} {X} f view xs k a before item within read far here fits =
    let told = far.told in
    let rest : sum_of f (map view (drop k xs)) ≡ f (view a) +ℤ sum_of f (map view (drop (k + 1) xs)) = ap (λ (ys : List A). sum_of f (map view ys)) (drop-read xs k a within read) in
    let far_most = far.most in
    let far_least = far.least in
    let reach = fits-reach w64 item fits in
    let from = reach.from in
    let below = reach.below in
    record { told = omega (arith, ints); most = omega (arith, ints); least = omega (arith, ints) }

-- n is the count of the first k items
abbrev pub IsCounted : {A : Type 0} → (A → ℕ) → List A → ℕ → ℕ → Type 0
IsCounted f xs k n = n + sum_by f (drop k xs) ≡ sum_by f xs

-- the count of the first k items, that of item k and that of the rest add up to the whole count
pub count-rest : {A : Type 0} (f : A → ℕ) (xs : List A) (k n : ℕ) (a : A) → k < length xs → a ≡ get_or xs k a → IsCounted f xs k n → n + f a + sum_by f (drop (k + 1) xs) ≡ sum_by f xs
count-rest {A} f xs k n a within read so_far = regroup n (f a) (sum_by f (drop (k + 1) xs)) (sum_by f xs) (sym (ap (λ (m : ℕ). n + m) rest) ∙ so_far)
  where
    rest : sum_by f (drop k xs) ≡ f a + sum_by f (drop (k + 1) xs)
    rest = ap (sum_by f) (drop-read xs k a within read) ∙ sum_by-cons f a (drop (k + 1) xs)

    regroup : (n x r t : ℕ) → n + (x + r) ≡ t → n + x + r ≡ t
    regroup n x r t e = omega arith
