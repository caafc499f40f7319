-- Cleaned polygons read back from arrays, and their form as written.
use Rattle.std.proofs.Common.{◌≡◌, ℕ, zero, suc, ◌+◌, ◌-◌, ◌≤◌, ◌<◌, ◌++◌, List, [], ◌∷◌, length, take, drop, get_or, map, slice_range, append-nil, append_assoc, length-append, refl, sym, ap, ap₂, subst, ◌∙◌, arith, Option, Some, Result, Ok, Err, OnErr}
use Rattle.std.specs.List.{All, AllZip, AllPairs, range_with_len}
use Rattle.std.proofs.lemmas.List.{length-map, map-append, take_at, drop_at, take-append-drop}
use Rattle.std.proofs.lemmas.List.Elements.{All-nil, All-head, All-tail}
use Rattle.std.proofs.lemmas.List.FromFn.{length-map-range_with_len, get_or-map-range_with_len}
use Rattle.std.proofs.lemmas.List.Sorted.{IsPermutation-refl}
use Rattle.i_shape_core.proofs.Common.{Point, IsAtMost}
use Rattle.i_shape.specs.Paths.{concatenated}
use Rattle.i_shape.specs.CanonicalShapes.{ListForm, IsShapeAtMost}
use Rattle.i_shape.specs.ShapeAnswers.{ShapeClean, ListClean, EachShape}
use Rattle.i_shape.proofs.Lists.Surviving.{survivors_have}
use Rattle.i_shape_c.specs.Batch.{offset, nth_contour, AreRising, PartsPoints}
use Rattle.i_shape_c.specs.Polygons.{polygon_arrays, parts, polygons, offsets_of, HaveNoContours, AreShapesLeft}
use Rattle.i_shape_c.specs.Steps.Sorted.{SortsRest, SortsPolygons, WritesSorted}
use Rattle.i_shape_c.proofs.Appended.{length-offsets}
use Rattle.i_shape_c.proofs.PolygonLists.{polygon_at, polygons-map, all_from}
use Rattle.i_shape_c.proofs.PolygonsLeft.{same_ranges, read_counts, polygons_written, offsets_rise}
use Rattle.i_shape_c.proofs.SortedPolygons.{form_of_cleaned, sorted_counts}

-- the first n items of part ++ rest are the part, if that has n items
front_part : {X : Type 0} (part whole rest : List X) (n : ℕ) → whole ≡ part ++ rest → length part ≡ n → slice_range whole 0 n ≡ part
front_part part whole rest n is long =
    let none : n - 0 ≡ n = omega arith in
    rw (none, is) (take_at part rest n long)

-- offsets begin at the start, rise, and end where the last list ends
first_offset : {X : Type 0} (start : ℕ) (lists : List (List X)) → offset (offsets_of start lists) 0 ≡ start
first_offset start [] = refl
first_offset start (x ∷ xs) = refl

last_offset : {X : Type 0} (start : ℕ) (lists : List (List X)) → offset (offsets_of start lists) (length lists) ≡ start + length (concatenated lists)
last_offset start [] = let none : start ≡ start + 0 = omega arith in none
last_offset start (x ∷ xs) =
    let sum : start + length x + length (concatenated xs) ≡ start + length (x ++ concatenated xs) = omega (arith, length-append x (concatenated xs)) in
    last_offset (start + length x) xs ∙ sum

rising : {X : Type 0} (start : ℕ) (lists : List (List X)) → AreRising (offsets_of start lists) (length (offsets_of start lists))
rising start [] k less = absurd (omega (arith, less))
rising start (x ∷ xs) zero less = let first = first_offset (start + length x) xs in omega (arith, first)
rising start (x ∷ xs) (suc k) less =
    let next : suc k + 1 ≡ suc (k + 1) = omega arith in
    rw next (rising (start + length x) xs k (omega (arith, less)))

-- the offsets of lists divide their concatenation
pub offsets_part : {X : Type 0} (lists : List (List X)) (n : ℕ) → length (concatenated lists) ≤ n → PartsPoints n (offsets_of 0 lists)
offsets_part lists n within =
    let long = length-offsets 0 lists in
    let end : length (offsets_of 0 lists) - 1 ≡ length lists = omega (arith, long) in
    record { some = omega (arith, long); order = rising 0 lists; last = rw end (omega (arith, last_offset 0 lists, within)) }

-- concatenated lists are the parts that their offsets delimit
parts_back : {X : Type 0} (items : List X) (start : ℕ) (front rest : List X) (lists : List (List X)) → length front ≡ start → items ≡ front ++ (concatenated lists ++ rest) → parts items (offsets_of start lists) ≡ lists
parts_back items start front rest [] long is = refl
parts_back {X} items start front rest (x ∷ xs) long is =
    let offsets = offsets_of (start + length x) xs in
    let n = length offsets - 1 in
    let count : length (start ∷ offsets) - 1 ≡ suc n = omega (arith, length-offsets (start + length x) xs) in
    let more : length (front ++ x) ≡ start + length x = omega (arith, length-append front x, long) in
    ap (λ m. map (nth_contour items (start ∷ offsets)) (range_with_len 0 m)) count
    ∙ ap₂ ◌∷◌ first (same_ranges (nth_contour items (start ∷ offsets)) (nth_contour items offsets) 1 0 n (λ j less. back (1 + j) (0 + j) (omega arith)))
    ∙ ap (λ w. x ∷ w) (parts_back items (start + length x) (front ++ x) rest xs more (is ∙ ap (λ w. front ++ w) (append_assoc x (concatenated xs) rest) ∙ sym (append_assoc front x (concatenated xs ++ rest))))
  where
    back : (k m : ℕ) → k ≡ suc m → nth_contour items (start ∷ offsets_of (start + length x) xs) k ≡ nth_contour items (offsets_of (start + length x) xs) m
    back k m e =
        let next : k + 1 ≡ suc (m + 1) = omega (arith, e) in
        ap₂ (slice_range items) (ap (offset (start ∷ offsets_of (start + length x) xs)) e) (ap (offset (start ∷ offsets_of (start + length x) xs)) next)

    first : slice_range items start (offset (offsets_of (start + length x) xs) 0) ≡ x
    first =
        let count : start + length x - start ≡ length x = omega arith in
        let behind : drop start items ≡ x ++ (concatenated xs ++ rest) = ap (drop start) is ∙ drop_at front ((x ++ concatenated xs) ++ rest) start long ∙ append_assoc x (concatenated xs) rest in
        rw (first_offset (start + length x) xs, count, behind) (take_at x (concatenated xs ++ rest) (length x) refl)

-- Reading back what a call leaves.
module _ {P : Type 0} {Gives : List (List (List Point)) → List (List (List Point)) → Type 0} {at : P → Point} {points : List P} {contours shapes : List ℕ} {old_points new_points : List P} {old_contours new_contours old_shapes new_shapes : List ℕ} {n : ℕ}
    (left : AreShapesLeft Gives at (polygon_arrays points contours shapes) (polygon_arrays old_points old_contours old_shapes) (polygon_arrays new_points new_contours new_shapes) n) where
  abbrev pub rings : List (List Point)
  rings = concatenated left.list

  abbrev pub cleaned : List (List (List P))
  cleaned = polygons new_points (offsets_of 0 rings) (offsets_of 0 left.list)

  pub shape_offsets : slice_range new_shapes 0 (n + 1) ≡ offsets_of 0 left.list
  shape_offsets = front_part (offsets_of 0 left.list) new_shapes (drop (length left.list + 1) old_shapes) (n + 1) left.shapes_are (omega (arith, length-offsets 0 left.list, left.count))

  -- the last offset of the polygons is the number of rings
  pub last_shape : offset (offsets_of 0 left.list) n ≡ length rings
  last_shape =
      let none : 0 + length rings ≡ length rings = omega arith in
      ap (offset (offsets_of 0 left.list)) (sym left.count) ∙ last_offset 0 left.list ∙ none

  pub ring_offsets : slice_range new_contours 0 (length rings + 1) ≡ offsets_of 0 rings
  ring_offsets = front_part (offsets_of 0 rings) new_contours (drop (length rings + 1) old_contours) (length rings + 1) left.contours_are (length-offsets 0 rings)

  pub all_contours : length rings + 1 ≤ length new_contours
  all_contours = omega (arith, ap length left.contours_are, length-append (offsets_of 0 rings) (drop (length rings + 1) old_contours), length-offsets 0 rings)

  pub all_points : length (concatenated rings) ≤ length new_points
  all_points =
      let m = length (concatenated rings) in
      omega (arith, ap length (take-append-drop m new_points), length-append (take m new_points) (drop m new_points), ap length left.written, length-map (take m new_points) at)

  -- the polygons read back are the cleaned ones
  pub cleaned_are : map (map (map at)) cleaned ≡ left.list
  cleaned_are =
      let m = length (concatenated rings) in
      let whole : map at new_points ≡ [] ++ (concatenated rings ++ map at (drop m new_points)) =
      ap (map at) (sym (take-append-drop m new_points)) ∙ map-append at (take m new_points) (drop m new_points) ∙ ap (λ w. w ++ map at (drop m new_points)) left.written in
      sym (polygons-map at new_points (offsets_of 0 rings) (offsets_of 0 left.list))
      ∙ ap (λ w. parts w (offsets_of 0 left.list)) (parts_back (map at new_points) 0 [] (map at (drop m new_points)) rings refl whole)
      ∙ parts_back rings 0 [] [] left.list refl (sym (append-nil rings))

  pub cleaned_counts : (length (concatenated cleaned) ≡ length rings) × (length (concatenated (concatenated cleaned)) ≡ length (concatenated rings))
  cleaned_counts =
      let counts = read_counts at cleaned in
      (sym counts.1 ∙ ap (λ w. length (concatenated w)) cleaned_are, sym counts.2 ∙ ap (λ w. length (concatenated (concatenated w))) cleaned_are)

-- Sorting what a call leaves.
module _ {P : Type 0} (Form : List Point → Option (List Point) → Type 0) {at : P → Point} {points : List P} {contours shapes : List ℕ} {old_points new_points : List P} {old_contours new_contours old_shapes new_shapes : List ℕ} {n : ℕ}
    (left : AreShapesLeft (ListClean Form) at (polygon_arrays points contours shapes) (polygon_arrays old_points old_contours old_shapes) (polygon_arrays new_points new_contours new_shapes) n) where
  -- arrays that hold them sorted hold the form of the polygons
  pub form_written : {had_points has_points : List P} {had_contours has_contours had_shapes has_shapes : List ℕ} → WritesSorted SortsPolygons at (cleaned left) (polygon_arrays had_points had_contours had_shapes) (polygon_arrays has_points has_contours has_shapes)
      → AreShapesLeft (ListForm Form) at (polygon_arrays points contours shapes) (polygon_arrays had_points had_contours had_shapes) (polygon_arrays has_points has_contours has_shapes) n
  form_written {had_points} {has_points} {had_contours} {has_contours} {had_shapes} {has_shapes} wrote =
      let made = map (map (map at)) wrote.list in
      let sorts = subst (λ w. SortsPolygons w made) (cleaned_are left) wrote.sorted in
      let counts = sorted_counts left.list made sorts in
      let reads = read_counts at wrote.list in
      polygons_written at wrote.list (ListForm Form) points contours shapes had_points has_points had_contours has_contours had_shapes has_shapes n
      (form_of_cleaned Form (polygons (map at points) contours shapes) left.list made left.left sorts) wrote.held
      (omega (arith, counts.0, reads.0, left.count)) (omega (arith, counts.2, reads.2, left.fewer_points)) (omega (arith, counts.1, reads.1, left.fewer_contours)) (omega (arith, counts.0, reads.0, left.count, left.fewer_shapes))

  -- if no polygon has a contour, what is left of them is their form
  pub none_written : HaveNoContours (polygons (map at points) contours shapes) → AreShapesLeft (ListForm Form) at (polygon_arrays points contours shapes) (polygon_arrays old_points old_contours old_shapes) (polygon_arrays new_points new_contours new_shapes) n
  none_written none = record {
    list = left.list;
    left = form_of_cleaned Form (polygons (map at points) contours shapes) left.list left.list left.left sorts;
    count = left.count;
    fewer_points = left.fewer_points;
    fewer_contours = left.fewer_contours;
    fewer_shapes = left.fewer_shapes;
    written = left.written;
    rest = left.rest;
    contours_are = left.contours_are;
    shapes_are = left.shapes_are;
  }
    where
      takes : (x y : List (List Point)) → ShapeClean Form x (Some y) → x ≡ [] → y ≡ []
      takes [] y clean e = cc
      takes (c ∷ s) y clean e = absurd cc

      empty : SortsRest (AllPairs IsAtMost) [] []
      empty = record { first = refl; same = IsPermutation-refl []; sorted = λ i j d low high. absurd (omega (arith, high)) }

      each : (l : List (List (List Point))) → All (λ s. s ≡ []) l → AllZip (SortsRest (AllPairs IsAtMost)) l l
      each [] own = tt
      each (s ∷ l) own = (subst (λ w. SortsRest (AllPairs IsAtMost) w w) (sym (All-head (λ s. s ≡ []) s l own)) empty, each l (All-tail (λ s. s ≡ []) s l own))

      own : All (λ s. s ≡ []) left.list
      own = survivors_have (ShapeClean Form) (λ s. s ≡ []) (λ s. s ≡ []) takes (polygons (map at points) contours shapes) left.list left.left none

      sorts : SortsPolygons left.list left.list
      sorts = record {
        holes = left.list;
        holes_sorted = each left.list own;
        same = IsPermutation-refl left.list;
        in_order = λ i j d low high. subst (λ w. IsShapeAtMost w (get_or left.list j d)) (sym (own i d (omega (arith, low, high)))) tt;
      }

-- if P implies Q, an error with P has Q
pub if_err : {A E : Type 0} {P Q : Type 0} (r : Result A E) → (P → Q) → OnErr r P → OnErr r Q
if_err (Ok a) f h = h
if_err (Err e) f h = f h

-- polygons without contours need no memory
pub none_spared : (Passes : List Point → Type 0) (list : List (List (List Point))) → HaveNoContours list → EachShape Passes list
none_spared Passes list none = λ k d less. subst (All Passes) (sym (none k d less)) (All-nil Passes)

module _ {X : Type 0} (points : List X) (contours : List ℕ) {shapes : List ℕ} (parted : PartsPoints (length contours - 1) shapes) where
  -- if the first and last offset are equal, no polygon has a contour
  pub level_none : offset shapes 0 ≡ offset shapes (length shapes - 1) → (k : ℕ) (d : List (List X)) → k < length (polygons points contours shapes) → get_or (polygons points contours shapes) k d ≡ []
  level_none level = all_from (nth_contour (parts points contours) shapes) (λ s. s ≡ []) (length shapes - 1) (λ k less.
      let up = offsets_rise parted k (omega (arith, less)) in
      let none : offset shapes (k + 1) - offset shapes k ≡ 0 = omega (arith, up.0, up.1, up.2, level) in
      rw none refl)

  -- if no polygon has a contour, the first and last offset are equal
  pub none_level : ((k : ℕ) (d : List (List X)) → k < length (polygons points contours shapes) → get_or (polygons points contours shapes) k d ≡ []) → offset shapes 0 ≡ offset shapes (length shapes - 1)
  none_level none = go (length shapes - 1) (omega (arith, parted.some))
    where
      f : ℕ → List (List X)
      f = nth_contour (parts points contours) shapes

      step : (k : ℕ) → k + 1 < length shapes → offset shapes k ≡ offset shapes (k + 1)
      step k less =
          let up = offsets_rise parted k less in
          let read = get_or-map-range_with_len f 0 (length shapes - 1) k k [] (omega (arith, less)) (omega arith) in
          let many = length-map-range_with_len f 0 (length shapes - 1) in
          let wide = length-map-range_with_len (nth_contour points contours) (offset shapes k) (offset shapes (k + 1) - offset shapes k) in
          let empty = ap length (sym (polygon_at points contours shapes k up.1 (omega (arith, up.2, parted.last))) ∙ sym read ∙ none k [] (omega (arith, many, less))) in
          omega (arith, empty, wide, up.1)

      go : (k : ℕ) → k < length shapes → offset shapes 0 ≡ offset shapes k
      go zero less = refl
      go (suc k) less =
          let next : k + 1 ≡ suc k = omega arith in
          go k (omega (arith, less)) ∙ subst (λ j. offset shapes k ≡ offset shapes j) next (step k (omega (arith, less)))
