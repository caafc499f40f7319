-- The indices of what is left, built polygon by polygon.
use Rattle.std.proofs.Common.{◌≡◌, ℕ, Bool, true, false, ◌+◌, ◌-◌, ◌≤◌, ◌<◌, ◌++◌, List, [], ◌∷◌, map, length, set, cond, append-nil, refl, sym, ap, ◌∙◌, arith}
use Rattle.std.specs.List.{filter, range_with_len}
use Rattle.std.proofs.lemmas.List.{map-id, map-append, length-map, length-set}
use Rattle.std.proofs.lemmas.List.FromFn.{filter_of_map_range_with_len_more}
use Rattle.i_shape.specs.Paths.{concatenated}
use Rattle.i_shape_c.specs.Steps.Appended.{IsPut, ends_from, AppendsRings}
use Rattle.i_shape_c.specs.Batch.{contour_arrays, offset}
use Rattle.i_shape_c.specs.declared.polygons.Counts.{Counts}
use Rattle.i_shape_c.specs.Compacted.{has_points, is_left, shapes_left, contours_left, contours_by_shape, Indices, AreIndicesLeft}
use Rattle.i_shape_c.proofs.Appended.{put_one, put_more, put_front, ring_put, rings_more, offsets-ends_from}

-- filtering n + 1 numbers is filtering n and then the next
filter_more : (test : ℕ → Bool) (a n j : ℕ) → a + n ≡ j → filter test (range_with_len a (n + 1)) ≡ filter test (range_with_len a n) ++ cond (test j) (j ∷ []) []
filter_more test a n j at =
    ap (filter test) (sym (map-id (range_with_len a (n + 1)))) ∙ filter_of_map_range_with_len_more test (λ x. x) a n j at ∙ ap (λ w. filter test w ++ cond (test j) (j ∷ []) []) (map-id (range_with_len a n))

-- a number that passes is appended
filter_passing : (test : ℕ → Bool) (a n j : ℕ) → a + n ≡ j → test j ≡ true → filter test (range_with_len a (n + 1)) ≡ filter test (range_with_len a n) ++ (j ∷ [])
filter_passing test a n j at passes = filter_more test a n j at ∙ ap (λ b. filter test (range_with_len a n) ++ cond b (j ∷ []) []) passes

-- a number that fails adds nothing
filter_failing : (test : ℕ → Bool) (a n j : ℕ) → a + n ≡ j → test j ≡ false → filter test (range_with_len a (n + 1)) ≡ filter test (range_with_len a n)
filter_failing test a n j at fails = filter_more test a n j at ∙ ap (λ b. filter test (range_with_len a n) ++ cond b (j ∷ []) []) fails ∙ append-nil (filter test (range_with_len a n))

module _ (contours : List ℕ) (start k : ℕ) (order : start ≤ k) where
  next : k + 1 - start ≡ k - start + 1
  next = omega (arith, order)

  here : start + (k - start) ≡ k
  here = omega (arith, order)

  -- contour k is appended if it has points
  pub contour_left : has_points contours k ≡ true → contours_left contours start (k + 1) ≡ contours_left contours start k ++ (k ∷ [])
  contour_left some = rw next (filter_passing (has_points contours) start (k - start) k here some)

  -- contour k adds nothing if it has no points
  pub contour_collapsed : has_points contours k ≡ false → contours_left contours start (k + 1) ≡ contours_left contours start k
  contour_collapsed none = rw next (filter_failing (has_points contours) start (k - start) k here none)

-- nothing is written yet
abbrev zero : Counts
zero = record { points = 0; contours = 0; shapes = 0 }

module _ (contours shapes : List ℕ) (old : Indices) where
  -- the indices of what is left of the first n polygons are written, and the offsets after the first, which is 0
  pub record IndicesBegun (n : ℕ) (new : Indices) (end count : ℕ) : Type 0 where
    pub lists : AppendsRings (contours_by_shape contours shapes n) (contour_arrays old.contours (set old.offsets 0 0)) (contour_arrays new.contours new.offsets) zero (record { points = end; contours = count; shapes = 0 })
    pub numbers : IsPut 0 (shapes_left contours shapes n) old.shapes new.shapes
    pub shapes_len : length new.shapes ≡ length old.shapes
    pub fewer_contours : end + offset shapes 0 ≤ offset shapes n
    pub fewer_shapes : count ≤ n

  -- a polygon that collapses adds nothing
  pub begun_collapsed : (n : ℕ) (new : Indices) (end count : ℕ) → IndicesBegun n new end count → is_left contours shapes n ≡ false → offset shapes n ≤ offset shapes (n + 1) → IndicesBegun (n + 1) new end count
  begun_collapsed n new end count begun collapses order =
      let same = filter_failing (is_left contours shapes) 0 n n (omega arith) collapses in
      record {
        lists = rw same begun.lists;
        numbers = rw same begun.numbers;
        shapes_len = begun.shapes_len;
        fewer_contours = omega (arith, begun.fewer_contours, order);
        fewer_shapes = omega (arith, begun.fewer_shapes);
      }

  -- a polygon that is left adds its index, those of its contours and its offset
  pub begun_more : (n : ℕ) (mid : Indices) (new_contours : List ℕ) (end count : ℕ) → IndicesBegun n mid end count → is_left contours shapes n ≡ true
      → IsPut end (contours_left contours (offset shapes n) (offset shapes (n + 1))) mid.contours new_contours → length new_contours ≡ length mid.contours → count + 1 < length old.offsets → count < length old.shapes
      → end + length (contours_left contours (offset shapes n) (offset shapes (n + 1))) + offset shapes n ≤ end + offset shapes (n + 1)
      → IndicesBegun (n + 1) (record { contours = new_contours; shapes = set mid.shapes count n; offsets = set mid.offsets (count + 1) (end + length (contours_left contours (offset shapes n) (offset shapes (n + 1)))) })
      (end + length (contours_left contours (offset shapes n) (offset shapes (n + 1)))) (count + 1)
  begun_more n mid new_contours end count begun stays put len offsets_room shapes_room fewer =
      let ring = contours_left contours (offset shapes n) (offset shapes (n + 1)) in
      let read : ℕ → List ℕ = λ k. contours_left contours (offset shapes k) (offset shapes (k + 1)) in
      let more = filter_passing (is_left contours shapes) 0 n n (omega arith) stays in
      let lists_more : contours_by_shape contours shapes (n + 1) ≡ contours_by_shape contours shapes n ++ (ring ∷ []) = ap (map read) more ∙ map-append read (shapes_left contours shapes n) (n ∷ []) in
      let counted = length-map (shapes_left contours shapes n) read in
      let long = length-set old.offsets 0 0 in
      let counts : Counts = record { points = end; contours = count; shapes = 0 } in
      record {
        lists = rw lists_more (rings_more (contours_by_shape contours shapes n) (ring ∷ []) old.contours mid.contours new_contours (set old.offsets 0 0) mid.offsets _ zero counts _ begun.lists
            (ring_put ring mid.contours new_contours mid.offsets counts put len (omega (arith, begun.lists.contours_len, long, offsets_room))) (omega arith) (omega (arith, long, offsets_room)));
        numbers = rw more (put_more 0 count (shapes_left contours shapes n) (n ∷ []) old.shapes mid.shapes _ begun.numbers (put_one mid.shapes count n (omega (arith, begun.shapes_len, shapes_room))) (omega (arith, begun.lists.contours_count, counted)) (omega arith));
        shapes_len = length-set mid.shapes count n ∙ begun.shapes_len;
        fewer_contours = omega (arith, begun.fewer_contours, fewer);
        fewer_shapes = omega (arith, begun.fewer_shapes);
      }

  -- at the end the indices of all polygons and contours left are written
  pub begun_all : (new : Indices) (end count : ℕ) → IndicesBegun (length shapes - 1) new end count → 0 < length old.offsets → AreIndicesLeft contours shapes (length shapes - 1) old new count
  begun_all new end count begun some =
      let lists = contours_by_shape contours shapes (length shapes - 1) in
      let ends = put_more 0 1 (0 ∷ []) (ends_from 0 lists) old.offsets (set old.offsets 0 0) new.offsets (put_one old.offsets 0 0 some) begun.lists.contours refl (omega arith) in
      let counted = length-map (shapes_left contours shapes (length shapes - 1)) (λ k. contours_left contours (offset shapes k) (offset shapes (k + 1))) in
      record {
        contours_are = (put_front (concatenated lists) old.contours new.contours begun.lists.points).2;
        shapes_are = (put_front (shapes_left contours shapes (length shapes - 1)) old.shapes new.shapes begun.numbers).2;
        offsets_are = rw (offsets-ends_from 0 lists) ((put_front (0 ∷ ends_from 0 lists) old.offsets new.offsets ends).2);
        shape_count = omega (arith, begun.lists.contours_count, counted);
      }
