-- Contours that are cleaned, and then sorted except for the first of each polygon.
use Rattle.std.proofs.Common.{◌≡◌, ℕ, zero, suc, ◌+◌, ◌-◌, ◌≤◌, ◌<◌, ◌++◌, List, [], length, take, drop, map, slice_range, set, length-take-le, length-drop, refl, sym, ap, subst, ◌∙◌, arith}
use Rattle.std.specs.Int.{Width}
use Rattle.std.specs.List.{AllPairs, AllZip, sum_by, range_with_len}
use Rattle.std.proofs.Math.Seq.{take-add}
use Rattle.std.proofs.lemmas.List.{drop-drop, drop_all, length-map}
use Rattle.std.proofs.lemmas.List.FromFn.{map-range_with_len_more}
use Rattle.std.proofs.lemmas.List.Sorted.{IsPermutation-refl, sum_by-IsPermutation}
use Rattle.std.proofs.lemmas.List.Sums.{sum_by-take-drop}
use Rattle.std.proofs.lemmas.Simd.{map-map}
use Rattle.i_shape_core.proofs.Common.{Point, IsAtMost}
use Rattle.i_shape_core.proofs.Lists.Rings.{rises_to}
use Rattle.i_shape.specs.Cleaning.{Cleaning}
use Rattle.i_shape.specs.Paths.{concatenated}
use Rattle.i_shape.specs.Written.{slot, IsCleaned}
use Rattle.i_shape.proofs.Buffers.ShapeRanges.{slice_range-map}
use Rattle.i_shape.proofs.Lists.Fewer.{sum_by-length, sum_by-concatenated}
use Rattle.i_shape_c.specs.Batch.{contour_arrays, offset, nth_contour, AreRising, PartsPoints, IsCleanedBatch}
use Rattle.i_shape_c.specs.Formed.{AreFormed, HoldForms}
use Rattle.i_shape_c.specs.Polygons.{polygon_arrays, parts}
use Rattle.i_shape_c.specs.Steps.Sorted.{SortsRest, ChangesEach, SortsEachRest}
use Rattle.i_shape_c.proofs.Appended.{put_none, put_one}
use Rattle.i_shape_c.proofs.Nested.{zip_from, list_more}
use Rattle.i_shape_c.proofs.Parts.{nothing_between}
use Rattle.i_shape_c.proofs.PolygonLists.{concatenated-map}
use Rattle.i_shape_c.proofs.SortedPolygons.{zip_sums}

-- a part, and the one behind it
part_more : {X : Type 0} (xs : List X) (a b c : ℕ) → a ≤ b → b ≤ c → slice_range xs a b ++ slice_range xs b c ≡ slice_range xs a c
part_more xs a b c low high =
    let sum : (b - a) + (c - b) ≡ c - a = omega (arith, low, high) in
    let start : a + (b - a) ≡ b = omega (arith, low) in
    let behind : drop (b - a) (drop a xs) ≡ drop b xs = drop-drop (b - a) a xs ∙ ap (λ n. drop n xs) start in
    ap (λ w. take (b - a) (drop a xs) ++ take (c - b) w) (sym behind) ∙ sym (take-add (b - a) (c - b) (drop a xs)) ∙ ap (λ n. take n (drop a xs)) sum

-- the parts, end to end, are what lies between the first offset and the last
parts_joined : {X : Type 0} (xs : List X) {offsets : List ℕ} {n : ℕ} → PartsPoints n offsets → concatenated (parts xs offsets) ≡ slice_range xs (offset offsets 0) (offset offsets (length offsets - 1))
parts_joined {X} xs {offsets} {n} parted = go (length offsets - 1) (omega (arith, parted.some))
  where
    go : (k : ℕ) → k < length offsets → concatenated (map (nth_contour xs offsets) (range_with_len 0 k)) ≡ slice_range xs (offset offsets 0) (offset offsets k)
    go zero less = sym (nothing_between xs (offset offsets 0))
    go (suc k) less =
        let next : suc k ≡ k + 1 = omega arith in
        let here : 0 + k ≡ k = omega arith in
        let low = rises_to offsets (length offsets) 0 k parted.order (omega arith) (omega (arith, less)) in
        let high = rises_to offsets (length offsets) k (k + 1) parted.order (omega arith) (omega (arith, less)) in
        let front = map (nth_contour xs offsets) (range_with_len 0 k) in
        subst (λ m. concatenated (map (nth_contour xs offsets) (range_with_len 0 m)) ≡ slice_range xs (offset offsets 0) (offset offsets m)) (sym next)
        (ap concatenated (map-range_with_len_more (nth_contour xs offsets) 0 k k here) ∙ list_more front (nth_contour xs offsets k)
        ∙ ap (λ w. w ++ nth_contour xs offsets k) (go k (omega (arith, less))) ∙ part_more xs (offset offsets 0) (offset offsets k) (offset offsets (k + 1)) low high)

-- sorting all items but the first changes no sum
rest_sum : {X : Type 0} (Sorted : List X → Type 0) (f : X → ℕ) (s t : List X) → SortsRest Sorted s t → sum_by f t ≡ sum_by f s
rest_sum Sorted f s t sorts = omega (arith, sum_by-take-drop f t 1, sum_by-take-drop f s 1, ap (sum_by f) sorts.first, sum_by-IsPermutation f (drop 1 s) (drop 1 t) sorts.same)

-- a sum is that before some parts, that of the parts, and that behind them
parts_sum : {X : Type 0} (f : X → ℕ) (xs : List X) {offsets : List ℕ} {n : ℕ} → PartsPoints n offsets
    → sum_by f xs ≡ sum_by f (take (offset offsets 0) xs) + (sum_by (λ part. sum_by f part) (parts xs offsets) + sum_by f (drop (offset offsets (length offsets - 1)) xs))
parts_sum f xs {offsets} {n} parted =
    let a = offset offsets 0 in
    let b = offset offsets (length offsets - 1) in
    let up : a ≤ b = rises_to offsets (length offsets) 0 (length offsets - 1) parted.order (omega arith) (omega (arith, parted.some)) in
    let start : a + (b - a) ≡ b = omega (arith, up) in
    let behind : sum_by f (drop (b - a) (drop a xs)) ≡ sum_by f (drop b xs) = ap (sum_by f) (drop-drop (b - a) a xs ∙ ap (λ n. drop n xs) start) in
    let within : sum_by f (take (b - a) (drop a xs)) ≡ sum_by (λ part. sum_by f part) (parts xs offsets) = ap (sum_by f) (sym (parts_joined xs parted)) ∙ sum_by-concatenated f (parts xs offsets) in
    omega (arith, sum_by-take-drop f xs a, sum_by-take-drop f (drop a xs) (b - a), behind, within)

-- if a change keeps a sum, so does changing each part
pub each_sum : {X : Type 0} (Changes : List X → List X → Type 0) (f : X → ℕ) → ((s t : List X) → Changes s t → sum_by f t ≡ sum_by f s) → (old new : List X) {offsets : List ℕ} {n : ℕ} → PartsPoints n offsets → ChangesEach Changes old new offsets → sum_by f new ≡ sum_by f old
each_sum Changes f kept old new {offsets} {n} parted changed =
    let within = zip_sums Changes (λ part. sum_by f part) (λ part. sum_by f part) kept (parts old offsets) (parts new offsets) changed.each in
    omega (arith, parts_sum f old parted, parts_sum f new parted, ap (sum_by f) changed.before, ap (sum_by f) changed.behind, within)

-- contours that a cleaner left, in arrays that it filled
module _ {P : Type 0} (cleaning : Cleaning) (width : Width) (at : P → Point) {points : List P} {contours : List ℕ} {old_points new_points : List P} {old_contours new_contours : List ℕ} {n : ℕ}
    (left : IsCleanedBatch cleaning width at (contour_arrays points contours) (contour_arrays old_points old_contours) (contour_arrays new_points new_contours) n)
    (some : 0 < length contours) (same_contours : length new_contours ≡ length contours) (same_points : length new_points ≡ length points) where
  last_left : offset new_contours (length new_contours - 1) ≡ n
  last_left = ap (λ m. offset new_contours (m - 1)) same_contours ∙ left.last

  -- they are parted
  pub left_parted : PartsPoints (length new_points) new_contours
  left_parted = record { some = omega (arith, same_contours, some); order = subst (AreRising new_contours) (sym same_contours) left.order; last = omega (arith, last_left, left.fewer, same_points) }

  -- they are what the cleaner makes of the given ones
  forms_left : AllZip (λ contour form. IsCleaned cleaning width contour (slot form)) (parts (map at points) contours) (map (map at) (parts new_points new_contours))
  forms_left =
      let count = length contours - 1 in
      let made : map (λ k. map at (nth_contour new_points new_contours k)) (range_with_len 0 count) ≡ map (map at) (parts new_points new_contours) =
      sym (map-map (map at) (nth_contour new_points new_contours) (range_with_len 0 count)) ∙ ap (λ m. map (map at) (map (nth_contour new_points new_contours) (range_with_len 0 (m - 1)))) (sym same_contours) in
      subst (λ w. AllZip (λ contour form. IsCleaned cleaning width contour (slot form)) (parts (map at points) contours) w) made
      (zip_from (λ contour form. IsCleaned cleaning width contour (slot form)) (nth_contour (map at points) contours) (λ k. map at (nth_contour new_points new_contours k)) 0 count
      (λ k low high. rw (slice_range-map at points (offset contours k) (offset contours (k + 1))) (left.cleaned k (omega (arith, high)))))

  -- they have n points
  count_left : length (concatenated (parts new_points new_contours)) ≡ n
  count_left =
      let joined = ap length (parts_joined new_points left_parted) in
      let end = last_left in
      let begin = left.first in
      let room : offset new_contours (length new_contours - 1) - offset new_contours 0 ≤ length (drop (offset new_contours 0) new_points) = omega (arith, end, begin, left.fewer, same_points, length-drop (offset new_contours 0) new_points) in
      let long = length-take-le (offset new_contours (length new_contours - 1) - offset new_contours 0) (drop (offset new_contours 0) new_points) room in
      omega (arith, joined, long, end, begin)

  -- once they are sorted, they are the form of each polygon
  module _ {B : Type 0} (ring : B → List P) (old new : List B) {shapes : List ℕ} {m : ℕ} (parted : PartsPoints m shapes) (are : map ring old ≡ parts new_points new_contours)
      (sorts : SortsEachRest (AllPairs IsAtMost) (map (λ b. map at (ring b)) old) (map (λ b. map at (ring b)) new) shapes) where
    read_new : map (map at) (map ring new) ≡ map (λ b. map at (ring b)) new
    read_new = map-map (map at) ring new

    read_old : map (map at) (parts new_points new_contours) ≡ map (λ b. map at (ring b)) old
    read_old = ap (map (map at)) (sym are) ∙ map-map (map at) ring old

    pub formed : AreFormed cleaning width at (polygon_arrays points contours shapes) (map ring new)
    formed = record {
      forms = map (λ b. map at (ring b)) old;
      cleaned = subst (λ w. AllZip (λ contour form. IsCleaned cleaning width contour (slot form)) (parts (map at points) contours) w) read_old forms_left;
      sorted = subst (λ w. SortsEachRest (AllPairs IsAtMost) (map (λ b. map at (ring b)) old) w shapes) (sym read_new) sorts;
    }

    made_points : (lists : List (List P)) → length (concatenated (map (map at) lists)) ≡ length (concatenated lists)
    made_points lists = ap length (concatenated-map at lists) ∙ length-map (concatenated lists) at

    -- with as many points
    pub count_formed : length (concatenated (map ring new)) ≡ n
    count_formed =
        let same = each_sum (SortsRest (AllPairs IsAtMost)) length (rest_sum (AllPairs IsAtMost) length) (map (λ b. map at (ring b)) old) (map (λ b. map at (ring b)) new) parted sorts in
        let after = ap (λ w. length (concatenated w)) read_new in
        let before = ap (λ w. length (concatenated w)) read_old in
        omega (arith, same, sum_by-length (map (λ b. map at (ring b)) old), sum_by-length (map (λ b. map at (ring b)) new), after, before, made_points (map ring new), made_points (parts new_points new_contours), count_left)

-- of no contours there is nothing to write
pub no_forms : {P : Type 0} (cleaning : Cleaning) (width : Width) (at : P → Point) (points : List P) (contours shapes : List ℕ) (old_points : List P) (old_contours : List ℕ) → length contours ≡ 1 → 0 < length old_contours
    → HoldForms cleaning width at (polygon_arrays points contours shapes) (contour_arrays old_points old_contours) (contour_arrays old_points (set old_contours 0 0)) 0
no_forms {P} cleaning width at points contours shapes old_points old_contours none room = record {
  contours = [];
  formed = record { forms = []; cleaned = nothing_cleaned; sorted = record { each = zip_from (SortsRest (AllPairs IsAtMost)) (nth_contour [] shapes) (nth_contour [] shapes) 0 (length shapes - 1) (λ k low high. nothing_sorted k); before = refl; behind = refl } };
  count = refl;
  fewer = omega arith;
  points_are = put_none 0 old_points;
  offsets_are = put_one old_contours 0 0 room;
}
  where
    nothing_cleaned : AllZip (λ contour form. IsCleaned cleaning width contour (slot form)) (parts (map at points) contours) []
    nothing_cleaned =
        let zero : length contours - 1 ≡ 0 = omega (arith, none) in
        subst (λ m. AllZip (λ contour form. IsCleaned cleaning width contour (slot form)) (map (nth_contour (map at points) contours) (range_with_len 0 m)) []) (sym zero) tt

    take_none : (m : ℕ) → take {A = List Point} m [] ≡ []
    take_none zero = refl
    take_none (suc m) = refl

    part_none : (k : ℕ) → nth_contour {P = List Point} [] shapes k ≡ []
    part_none k = ap (take (offset shapes (k + 1) - offset shapes k)) (drop_all (offset shapes k) [] (omega arith)) ∙ take_none (offset shapes (k + 1) - offset shapes k)

    empty : SortsRest (AllPairs IsAtMost) [] []
    empty = record { first = refl; same = IsPermutation-refl []; sorted = λ i j d low high. absurd (omega (arith, high)) }

    nothing_sorted : (k : ℕ) → SortsRest (AllPairs IsAtMost) (nth_contour [] shapes k) (nth_contour [] shapes k)
    nothing_sorted k = subst (λ w. SortsRest (AllPairs IsAtMost) w w) (sym (part_none k)) empty
