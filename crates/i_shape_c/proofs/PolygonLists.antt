-- Polygons in three arrays, as lists.
use Rattle.std.proofs.Common.{◌≡◌, ℕ, zero, suc, ◌+◌, ◌-◌, ◌≤◌, ◌<◌, ◌++◌, List, [], ◌∷◌, map, length, take, drop, slice_range, refl, sym, ap, ap₂, subst, ◌∙◌, arith}
use Rattle.std.specs.List.{All, range_with_len}
use Rattle.std.proofs.lemmas.List.{length-map, map-append}
use Rattle.std.proofs.lemmas.List.FromFn.{length-map-range_with_len, take-map-range_with_len, get_or-map-range_with_len}
use Rattle.i_shape.specs.Paths.{concatenated}
use Rattle.i_shape.proofs.Buffers.ShapeRanges.{slice_range-map}
use Rattle.i_shape_c.specs.Batch.{offset, nth_contour}
use Rattle.i_shape_c.specs.Polygons.{parts, polygons, offsets_of}

-- mapping n numbers and dropping the first a is mapping the rest
drop_range : {X : Type 0} (f : ℕ → X) (a n s : ℕ) → a ≤ n → drop a (map f (range_with_len s n)) ≡ map f (range_with_len (s + a) (n - a))
drop_range f zero n s less =
    let start : s + 0 ≡ s = omega arith in
    let all : n - 0 ≡ n = omega arith in
    rw (start, all) refl
drop_range f (suc a) zero s less = absurd (omega (arith, less))
drop_range f (suc a) (suc n) s less =
    let start : s + 1 + a ≡ s + suc a = omega arith in
    let count : suc n - suc a ≡ n - a = omega arith in
    rw (count, ← start) (drop_range f a n (s + 1) (omega (arith, less)))

-- mapping the first n numbers and taking a to b is mapping a to b
part_of_range : {X : Type 0} (f : ℕ → X) (n a b : ℕ) → a ≤ b → b ≤ n → slice_range (map f (range_with_len 0 n)) a b ≡ map f (range_with_len a (b - a))
part_of_range f n a b some within =
    let start : 0 + a ≡ a = omega arith in
    let behind = subst (λ s. drop a (map f (range_with_len 0 n)) ≡ map f (range_with_len s (n - a))) start (drop_range f a n 0 (omega (arith, some, within))) in
    ap (take (b - a)) behind ∙ take-map-range_with_len f a (n - a) (b - a) (omega (arith, some, within))

-- the contours of polygon k are those that its offsets name
pub polygon_at : {P : Type 0} (points : List P) (contours shapes : List ℕ) (k : ℕ) → offset shapes k ≤ offset shapes (k + 1) → offset shapes (k + 1) ≤ length contours - 1
    → nth_contour (parts points contours) shapes k ≡ map (nth_contour points contours) (range_with_len (offset shapes k) (offset shapes (k + 1) - offset shapes k))
polygon_at points contours shapes k some within = part_of_range (nth_contour points contours) (length contours - 1) (offset shapes k) (offset shapes (k + 1)) some within

-- the parts of a mapped list are the mapped parts
pub parts-map : {X Y : Type 0} (f : X → Y) (list : List X) (offsets : List ℕ) → parts (map f list) offsets ≡ map (map f) (parts list offsets)
parts-map f list offsets = go (range_with_len 0 (length offsets - 1))
  where
    go : (ks : List ℕ) → map (nth_contour (map f list) offsets) ks ≡ map (map f) (map (nth_contour list offsets) ks)
    go [] = refl
    go (k ∷ ks) = ap₂ (λ part rest. part ∷ rest) (slice_range-map f list (offset offsets k) (offset offsets (k + 1))) (go ks)

-- the polygons of mapped points are the mapped polygons
pub polygons-map : {X Y : Type 0} (f : X → Y) (points : List X) (contours shapes : List ℕ) → polygons (map f points) contours shapes ≡ map (map (map f)) (polygons points contours shapes)
polygons-map f points contours shapes = ap (λ rings. parts rings shapes) (parts-map f points contours) ∙ parts-map (map f) (parts points contours) shapes

-- if Q holds of f k for each k below n, it holds of the mapped range
pub all_from : {X : Type 0} (f : ℕ → X) (Q : X → Type 0) (n : ℕ) → ((k : ℕ) → k < n → Q (f k)) → All Q (map f (range_with_len 0 n))
all_from f Q n each = λ k d less.
    let count = length-map-range_with_len f 0 n in
    let within : k < n = omega (arith, less, count) in
    let here : 0 + k ≡ k = omega arith in
    subst Q (sym (get_or-map-range_with_len f 0 n k k d within here)) (each k within)

-- concatenating mapped lists is mapping the concatenation
pub concatenated-map : {X Y : Type 0} (f : X → Y) (xs : List (List X)) → concatenated (map (map f) xs) ≡ map f (concatenated xs)
concatenated-map f [] = refl
concatenated-map f (x ∷ xs) = ap (λ w. map f x ++ w) (concatenated-map f xs) ∙ sym (map-append f x (concatenated xs))

-- mapping the items of lists keeps their offsets
pub offsets-map : {X Y : Type 0} (f : X → Y) (start : ℕ) (xs : List (List X)) → offsets_of start (map (map f) xs) ≡ offsets_of start xs
offsets-map f start [] = refl
offsets-map f start (x ∷ xs) = rw (length-map x f) (ap (λ w. start ∷ w) (offsets-map f (start + length x) xs))
