-- Rings in one array of points, separated by offsets, and parts of lists that are written in place.
use Rattle.std.proofs.Common.{◌≡◌, ℕ, ◌+◌, ◌-◌, ◌≤◌, ◌<◌, ◌++◌, suc, zero, List, [], length, take, drop, set, slice_range, refl, ap, sym, subst, ◌∙◌, arith, ◌⊎◌, inl, inr, Option, Some, None, max, eq-or-lt_of_le, unwrap_or}
use Rattle.std.proofs.lemmas.List.{take_rest, drop_all, length-drop, append-nil, length-take-le, drop-drop, drop-set-lt, take-take, drop-take, get_or-set_same, get_or-set_other}
use Rattle.std.proofs.Math.Seq.{drop-append_seam}
use Rattle.i_shape_core.specs.Point.{Point}
use Rattle.i_shape_core.specs.Unclean.{LongestUnclean}
use Rattle.i_shape_core.specs.Rings.{offset, nth_ring, AreRising, LongestUncleanRing, AreCleanedRings, ring_arrays}
use Rattle.i_shape_core.proofs.Lists.Longest.{longer, unclean_alone, longest_of_both}

-- writing index n keeps the items after it
pub back_more : {X : Type 0} (xs ys : List X) (n m : ℕ) (v : X) → m ≡ n + 1 → drop n xs ≡ drop n ys → drop m (set xs n v) ≡ drop m ys
back_more xs ys n m v next same = rw next (drop-set-lt (n + 1) xs n v (omega arith) ∙ sym (drop-drop 1 n xs) ∙ ap (drop 1) same ∙ drop-drop 1 n ys)

-- A list whose items from index `at` on were replaced.
module _ {X : Type 0} (old new part : List X) (at : ℕ) (within : at ≤ length old) (is : new ≡ take at old ++ (part ++ drop (length old - at) (drop at old))) where
  pub anew : new ≡ take at old ++ part
  anew =
      let none : drop (length old - at) (drop at old) ≡ [] = drop_all (length old - at) (drop at old) (omega (arith, length-drop at old)) in
      is ∙ ap (λ l. take at old ++ (part ++ l)) none ∙ ap (λ l. take at old ++ l) (append-nil part)

  behind : drop at new ≡ part
  behind = ap (drop at) anew ∙ subst (λ m. drop m (take at old ++ part) ≡ part) (length-take-le at old within) (drop-append_seam (take at old) part)

  -- the n items from `at` on are the first n of the part
  pub part_from : (n : ℕ) → slice_range new at (at + n) ≡ take n part
  part_from n =
      let count : at + n - at ≡ n = omega arith in
      rw (count, behind) refl

  -- items that are unchanged in the part are unchanged in the list
  pub rest_from : (n : ℕ) → drop n part ≡ drop n (take (length old - at) (drop at old)) → drop (at + n) new ≡ drop (at + n) old
  rest_from n same = sym (drop-drop n at new) ∙ ap (drop n) behind ∙ same ∙ ap (drop n) (take_rest old at) ∙ drop-drop n at old

-- lists that agree from index n on agree from each later index on
pub same_further : {X : Type 0} (xs ys : List X) (n m : ℕ) → n ≤ m → drop n xs ≡ drop n ys → drop m xs ≡ drop m ys
same_further xs ys n m less same =
    let split : n + (m - n) ≡ m = omega (arith, less) in
    subst (λ k. drop k xs ≡ drop k ys) split (sym (drop-drop (m - n) n xs) ∙ ap (drop (m - n)) same ∙ drop-drop (m - n) n ys)

-- lists with equal first n items have equal parts within them
same_part_at : {X : Type 0} (xs ys : List X) (n a m : ℕ) → a + m ≤ n → take n xs ≡ take n ys → take m (drop a xs) ≡ take m (drop a ys)
same_part_at xs ys n a m within same =
    sym (drop-take a m xs) ∙ ap (drop a) (sym (take-take (a + m) n xs within) ∙ ap (take (a + m)) same ∙ take-take (a + m) n ys within) ∙ drop-take a m ys

same_part : {X : Type 0} (xs ys : List X) (n a b : ℕ) → a ≤ b → b ≤ n → take n xs ≡ take n ys → slice_range xs a b ≡ slice_range ys a b
same_part xs ys n a b some within same = same_part_at xs ys n a (b - a) (omega (arith, some, within)) same

-- each offset is at most the one d after it
ordered_by : (offsets : List ℕ) (n a d : ℕ) → AreRising offsets n → a + d < n → offset offsets a ≤ offset offsets (a + d)
ordered_by offsets n a zero order within =
    let same : a ≡ a + 0 = omega arith in
    subst (λ k. offset offsets a ≤ offset offsets k) same (omega arith)
ordered_by offsets n a (suc d) order within =
    let before = ordered_by offsets n a d order (omega (arith, within)) in
    let here : offset offsets (a + d) ≤ offset offsets (a + d + 1) = order (a + d) (omega (arith, within)) in
    let same : a + d + 1 ≡ a + suc d = omega arith in
    subst (λ k. offset offsets a ≤ offset offsets k) same (omega (arith, before, here))

-- an offset is at most each later one
pub rises_to : (offsets : List ℕ) (n a b : ℕ) → AreRising offsets n → a ≤ b → b < n → offset offsets a ≤ offset offsets b
rises_to offsets n a b order some within =
    let same : a + (b - a) ≡ b = omega (arith, some) in
    subst (λ k. offset offsets a ≤ offset offsets k) same (ordered_by offsets n a (b - a) order (omega (arith, within, same)))

-- if Q holds at each index below one and at it, Q holds at each up to it
pub each_more : (Q : ℕ → Type 0) (place : ℕ) → 0 < place → ((k : ℕ) → k + 1 < place → Q k) → Q (place - 1) → (k : ℕ) → k + 1 < place + 1 → Q k
each_more Q place some before here k less = elim (eq-or-lt_of_le (let low : k + 1 ≤ place = omega (arith, less) in low)) [
  | inl last ↦ (let same : place - 1 ≡ k = omega (arith, last) in subst Q same here)
  | inr early ↦ before k early
]

-- The longest ring that isn't clean.
module _ {P : Type 0} (Clean : List Point → Type 0) (read : List P → List Point) (points : List P) (offsets : List ℕ) where
  module _ (place : ℕ) (r : Option ℕ) (some : 0 < place) (before : LongestUncleanRing Clean read points offsets place r) where
    with_next : (s : Option ℕ) → LongestUnclean (λ k. place - 1 ≡ k) (λ k. Clean (read (nth_ring points offsets k))) (λ k. length (nth_ring points offsets k)) s → LongestUncleanRing Clean read points offsets (place + 1) (longer r s)
    with_next s = longest_of_both _ _ (λ k. k + 1 < place) (λ k. place - 1 ≡ k) (λ k. k + 1 < place + 1)
        (each_more (λ k. (k + 1 < place) ⊎ (place - 1 ≡ k)) place some (λ k less. inl less) (inr refl)) (λ k less. omega (arith, less)) (λ k same. omega (arith, same, some)) r s before

    -- a clean ring doesn't change it
    pub clean_more : Clean (read (nth_ring points offsets (place - 1))) → LongestUncleanRing Clean read points offsets (place + 1) r
    clean_more clean = with_next None (λ k same. subst (λ j. Clean (read (nth_ring points offsets j))) same clean)

    -- a ring that isn't clean makes it the longer of both
    pub unclean_more : (Clean (read (nth_ring points offsets (place - 1))) → ⊥) → LongestUncleanRing Clean read points offsets (place + 1) (Some (max (length (nth_ring points offsets (place - 1))) (unwrap_or r 0)))
    unclean_more unclean = with_next (Some _) (unclean_alone _ _ (place - 1) unclean)

module _ {P : Type 0} (Left : List P → List P → Type 0) where
  -- the rings before `place` are done
  pub record Done (points : List P) (offsets : List ℕ) (out_points : List P) (out_offsets : List ℕ) (place written : ℕ) : Type 0 where
    pub some : 0 < place
    pub first : offset out_offsets 0 ≡ 0
    pub order : AreRising out_offsets place
    pub last : offset out_offsets (place - 1) ≡ written
    pub fewer : written ≤ offset offsets (place - 1)
    pub cleaned : (k : ℕ) → k + 1 < place → Left (nth_ring points offsets k) (nth_ring out_points out_offsets k)

  module _ (points : List P) (offsets : List ℕ) (old new : List P) (parts : List ℕ) (place written end : ℕ)
      (done : Done points offsets old parts place written) (room : place < length parts) (above : written ≤ end) (under : end ≤ offset offsets place)
      (same : take written new ≡ take written old)
      (answer : Left (slice_range points (offset offsets (place - 1)) (offset offsets place)) (slice_range new written end)) where
    abbrev grown : List ℕ
    grown = set parts place end

    kept_at : (k : ℕ) → k < place → offset grown k ≡ offset parts k
    kept_at k less = get_or-set_other parts place k end 0 (λ e. absurd (omega (arith, e, less)))

    put_at : offset grown place ≡ end
    put_at = get_or-set_same parts place end 0 room

    at_place : (k : ℕ) → k + 1 ≡ place → (offset grown k ≡ written) × (offset grown (k + 1) ≡ end)
    at_place k is =
        let here : k ≡ place - 1 = omega (arith, is) in
        (kept_at k (omega (arith, is)) ∙ ap (offset parts) here ∙ done.last, ap (offset grown) is ∙ put_at)

    order_at : (k : ℕ) → (k + 1 ≡ place) ⊎ (k + 1 < place) → offset grown k ≤ offset grown (k + 1)
    order_at k (inr less) = rw (kept_at k (omega (arith, less)), kept_at (k + 1) less) (done.order k less)
    order_at k (inl is) = omega (arith, (at_place k is).0, (at_place k is).1, above)

    cleaned_at : (k : ℕ) → (k + 1 ≡ place) ⊎ (k + 1 < place) → Left (nth_ring points offsets k) (nth_ring new grown k)
    cleaned_at k (inr less) =
        let low = kept_at k (omega (arith, less)) in
        let high = kept_at (k + 1) less in
        let up : offset parts (k + 1) ≤ written = subst (λ n. offset parts (k + 1) ≤ n) done.last (rises_to parts place (k + 1) (place - 1) done.order (omega (arith, less)) (omega (arith, less))) in
        let part = same_part new old written (offset parts k) (offset parts (k + 1)) (done.order k less) up same in
        rw (low, high, part) (done.cleaned k less)
    cleaned_at k (inl is) =
        let here : place - 1 ≡ k = omega (arith, is) in
        let part : List P = slice_range new written end in
        let low = subst (λ m. Left (slice_range points (offset offsets m) (offset offsets place)) part) here answer in
        let both = subst (λ m. Left (slice_range points (offset offsets k) (offset offsets m)) part) (sym is) low in
        rw ((at_place k is).0, (at_place k is).1) both

    split : (k : ℕ) → k + 1 < place + 1 → (k + 1 ≡ place) ⊎ (k + 1 < place)
    split k less = eq-or-lt_of_le (let most : k + 1 ≤ place = omega (arith, less) in most)

    -- once this ring is cleaned and its offset written, the rings up to it are done
    pub done_more : Done points offsets new grown (place + 1) end
    done_more = record {
      some = omega arith;
      first = kept_at 0 done.some ∙ done.first;
      order = λ k less. order_at k (split k less);
      last = ap (offset grown) (let e : place + 1 - 1 ≡ place = omega arith in e) ∙ put_at;
      fewer = subst (λ n. end ≤ offset offsets n) (let e : place ≡ place + 1 - 1 = omega arith in e) under;
      cleaned = λ k less. cleaned_at k (split k less);
    }

  -- at the last place all rings are done
  pub all_done : (points : List P) (offsets : List ℕ) (old_points new_points : List P) (old_offsets new_offsets : List ℕ) (place written : ℕ)
      → length offsets ≤ place → place ≤ length offsets → offset offsets (length offsets - 1) ≤ length points → Done points offsets new_points new_offsets place written
      → drop written new_points ≡ drop written old_points → drop place new_offsets ≡ drop place old_offsets
      → AreCleanedRings Left (ring_arrays points offsets) (ring_arrays old_points old_offsets) (ring_arrays new_points new_offsets) written
  all_done points offsets old_points new_points old_offsets new_offsets place written least most within done rest offsets_rest =
      let same : place ≡ length offsets = omega (arith, least, most) in
      let whole : Done points offsets new_points new_offsets (length offsets) written = subst (λ n. Done points offsets new_points new_offsets n written) same done in
      record {
        first = whole.first;
        order = whole.order;
        last = whole.last;
        fewer = omega (arith, whole.fewer, within);
        cleaned = whole.cleaned;
        rest = rest;
        offsets_rest = subst (λ n. drop n new_offsets ≡ drop n old_offsets) same offsets_rest;
      }
