-- Concatenated lists that are read, sorted and written.
use Rattle.std.specs.List.{AllZip, range_with_len}
use Rattle.std.proofs.Common.{◌≡◌, ℕ, ◌+◌, ◌-◌, ◌≤◌, ◌<◌, ◌++◌, List, [], ◌∷◌, length, take, drop, get_or, map, slice_range, append-nil, length-append, sym, ap, ◌∙◌, subst, arith, zero, suc}
use Rattle.std.proofs.lemmas.List.{map_more, length-map, take-take, drop-take, drop_all}
use Rattle.std.proofs.lemmas.List.FromFn.{length-map-range_with_len}
use Rattle.i_shape_c.specs.Batch.{offset, nth_contour, AreRising}
use Rattle.i_shape_c.specs.Steps.Appended.{IsPut}
use Rattle.i_shape_c.specs.Polygons.{parts, offsets_of}
use Rattle.i_shape.specs.Paths.{concatenated}
use Rattle.i_shape_core.proofs.Lists.Rings.{rises_to, each_more}
use Rattle.i_shape_c.proofs.Appended.{put_front, offsets-ends_from, ends-append}
use Rattle.i_shape.proofs.Lists.EndToEnd.{concatenated-append, length_concatenated_take}

-- if R relates f k and g k for each k of a range, it relates the mapped ranges
pub zip_from : {X Y : Type 0} (R : X → Y → Type 0) (f : ℕ → X) (g : ℕ → Y) (s n : ℕ) → ((k : ℕ) → s ≤ k → k < s + n → R (f k) (g k)) → AllZip R (map f (range_with_len s n)) (map g (range_with_len s n))
zip_from R f g s zero each = tt
zip_from R f g s (suc n) each = (each s (omega arith) (omega arith), zip_from R f g (s + 1) n (λ k low high. each k (omega (arith, low)) (omega (arith, high))))

-- lists with equal first n items have equal parts within them
same_part : {X : Type 0} (xs ys : List X) (n a b : ℕ) → a ≤ b → b ≤ n → take n xs ≡ take n ys → slice_range xs a b ≡ slice_range ys a b
same_part xs ys n a b some within same =
    let m = b - a in
    let fits : a + m ≤ n = omega (arith, some, within) in
    sym (drop-take a m xs) ∙ ap (drop a) (sym (take-take (a + m) n xs fits) ∙ ap (take (a + m)) same ∙ take-take (a + m) n ys fits) ∙ drop-take a m ys

-- changing a part extends the changed parts by one
pub change_more : {X : Type 0} (Changes : List X → List X → Type 0) (given old new : List X) (offsets : List ℕ) (place : ℕ) → AreRising offsets (length offsets) → 0 < place → place < length offsets
    → ((k : ℕ) → k + 1 < place → Changes (nth_contour given offsets k) (nth_contour old offsets k)) → drop (offset offsets (place - 1)) old ≡ drop (offset offsets (place - 1)) given
    → take (offset offsets (place - 1)) new ≡ take (offset offsets (place - 1)) old
    → Changes (slice_range old (offset offsets (place - 1)) (offset offsets place)) (slice_range new (offset offsets (place - 1)) (offset offsets place))
    → (k : ℕ) → k + 1 < place + 1 → Changes (nth_contour given offsets k) (nth_contour new offsets k)
change_more Changes given old new offsets place order some within done behind before here =
    let a = offset offsets (place - 1) in
    let next : place - 1 + 1 ≡ place = omega (arith, some) in
    let up : a ≤ offset offsets place = rises_to offsets (length offsets) (place - 1) place order (omega arith) within in
    let part : slice_range old a (offset offsets place) ≡ slice_range given a (offset offsets place) = ap (take (offset offsets place - a)) behind in
    let last : Changes (nth_contour given offsets (place - 1)) (nth_contour new offsets (place - 1)) =
    subst (λ n. Changes (slice_range given a (offset offsets n)) (slice_range new a (offset offsets n))) (sym next) (subst (λ w. Changes w (slice_range new a (offset offsets place))) part here) in
    each_more (λ k. Changes (nth_contour given offsets k) (nth_contour new offsets k)) place some
    (λ k less.
    let low = rises_to offsets (length offsets) k (k + 1) order (omega arith) (omega (arith, less, within)) in
    let high = rises_to offsets (length offsets) (k + 1) (place - 1) order (omega (arith, less)) (omega (arith, within)) in
    subst (Changes (nth_contour given offsets k)) (sym (same_part new old a (offset offsets k) (offset offsets (k + 1)) low high before)) (done k less))
    last

-- appending a list appends its end to the offsets
pub offsets_more : {X : Type 0} (start : ℕ) (lists : List (List X)) (list : List X) → offsets_of start (lists ++ (list ∷ [])) ≡ offsets_of start lists ++ ((start + length (concatenated lists) + length list) ∷ [])
offsets_more start lists list =
    offsets-ends_from start (lists ++ (list ∷ [])) ∙ ap (λ w. start ∷ w) (ends-append start lists (list ∷ [])) ∙ sym (ap (λ w. w ++ ((start + length (concatenated lists) + length list) ∷ [])) (offsets-ends_from start lists))

-- appending a list appends its items to the concatenation
pub list_more : {X : Type 0} (lists : List (List X)) (list : List X) → concatenated (lists ++ (list ∷ [])) ≡ concatenated lists ++ list
list_more lists list = concatenated-append lists (list ∷ []) ∙ ap (λ w. concatenated lists ++ w) (append-nil list)

-- the lists before `place` and that at `place` have at most as many items as all
pub list_fits : {X B : Type 0} (f : B → List X) (lists : List B) (place : ℕ) (d : B) → place < length lists → length (concatenated (map f (take place lists))) + length (f (get_or lists place d)) ≤ length (concatenated (map f lists))
list_fits f lists place d within =
    let front = map f (take place lists) in
    let here = ap length (ap concatenated (map_more f lists place d within) ∙ list_more front (f (get_or lists place d))) in
    omega (arith, here, length-append (concatenated front) (f (get_or lists place d)), length_concatenated_take f lists (place + 1))

-- a part as long as the list fills it
pub filled : {X : Type 0} (part old new : List X) → IsPut 0 part old new → length part ≡ length old → new ≡ part
filled part old new put long =
    let none : drop (length part) old ≡ [] = drop_all (length part) old (omega (arith, long)) in
    (put_front part old new put).2 ∙ ap (λ w. part ++ w) none ∙ append-nil part

-- there is one list between each offset and the next
pub listed : {B X : Type 0} (f : B → List X) (lists : List B) (items : List X) (offsets : List ℕ) → map f lists ≡ parts items offsets → length lists ≡ length offsets - 1
listed f lists items offsets are = sym (length-map lists f) ∙ ap length are ∙ length-map-range_with_len (nth_contour items offsets) 0 (length offsets - 1)
