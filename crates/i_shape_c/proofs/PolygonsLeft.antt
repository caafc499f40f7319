-- What is left of polygons once each contour is cleaned.
use Rattle.std.proofs.Common.{◌≡◌, Bool, ℕ, zero, suc, ◌+◌, ◌-◌, ◌^◌, ◌≤◌, ◌<◌, ◌⊎◌, ◌++◌, List, [], ◌∷◌, map, length, slice_range, refl, sym, ap, ap₂, subst, subst₂, ◌∙◌, arith, Option, Some, None, inl, inr, option_map, option_to_list, w32, w64, to_z, of_z}
use Rattle.std.specs.List.{All, range_with_len}
use Rattle.std.specs.Int.{Width}
use Rattle.std.proofs.lemmas.Bool.{cases_lt}
use Rattle.std.proofs.lemmas.List.{length-map, map-append}
use Rattle.std.proofs.lemmas.List.FromFn.{length-map-range_with_len, get_or-map-range_with_len}
use Rattle.std.proofs.lemmas.Int.{to_z_pos}
use Rattle.std.proofs.lemmas.Simd.{map-map}
use Rattle.i_shape.specs.Point.{Point}
use Rattle.i_shape.specs.Paths.{concatenated}
use Rattle.i_shape.specs.ShapeAnswers.{ShapeClean, ListClean, EachShape}
use Rattle.i_shape.proofs.Buffers.ShapeRanges.{slice_range-map}
use Rattle.i_shape_core.proofs.Lists.Rings.{rises_to}
use Rattle.i_shape_core.proofs.Lists.Survivors.{survivors-none, survivors-push}
use Rattle.i_shape_c.specs.Steps.Appended.{HasPolygonsRoom, HoldsPolygons, IsReady, AppendsRings, AppendsPolygons, AppendsRingLeft, AppendsShapeLeft, WritesLeft, rings_at, polygons_of}
use Rattle.i_shape_c.specs.Batch.{contour_arrays, offset, nth_contour, PartsPoints, AreSafeContours}
use Rattle.i_shape_c.specs.Cleaned.{AreSafe}
use Rattle.i_shape_c.specs.Codes.{code_of, no_memory_code, IsRefusal}
use Rattle.i_shape_c.specs.Polygons.{polygon_arrays, parts, polygons, offsets_of, PartsPolygons, HasShapesRoom, AreShapesLeft, ShapesAnswer, PolygonCleaning, CleansPolygons}
use Rattle.i_shape_c.specs.declared.codes.Refusal.{Refusal}
use Rattle.i_shape_c.specs.declared.codes.Refusal.TheVariants.{NoMemory}
use Rattle.i_shape_c.specs.declared.polygons.Counts.{Counts}
use Rattle.i_shape_c.proofs.Appended.{offset_part, nth_part, length_part, parted_part, put_none, put_front, rings_more, polygons_more, length-offsets}
use Rattle.i_shape_c.proofs.Batches.{safe_part}
use Rattle.i_shape_c.proofs.PolygonLists.{polygon_at, concatenated-map, offsets-map}
use Rattle.i_shape_c.proofs.Refusals.{each_code, code_of_64, refused, refused_memory, not_refused}

-- a list of length 0 is empty
no_items : {X : Type 0} (xs : List X) → length xs ≡ 0 → xs ≡ []
no_items [] none = refl
no_items (x ∷ xs) none = absurd (omega (arith, none))

-- mapping a list with an optional item appended is mapping the list and then the item
map_more : {X Y : Type 0} (f : X → Y) (xs : List X) (x : Option X) → map f (xs ++ option_to_list x) ≡ map f xs ++ option_to_list (option_map f x)
map_more f xs None = map-append f xs []
map_more f xs (Some x) = map-append f xs (x ∷ [])

-- functions that agree on ranges shifted against each other map them to equal lists
pub same_ranges : {X : Type 0} (f g : ℕ → X) (s t n : ℕ) → ((j : ℕ) → j < n → f (s + j) ≡ g (t + j)) → map f (range_with_len s n) ≡ map g (range_with_len t n)
same_ranges f g s t zero each = refl
same_ranges {X} f g s t (suc n) each = ap₂ ◌∷◌ first (same_ranges f g (s + 1) (t + 1) n next)
  where
    first : f s ≡ g t
    first =
        let here : s + 0 ≡ s = omega arith in
        let there : t + 0 ≡ t = omega arith in
        subst₂ (λ a b. f a ≡ g b) here there (each 0 (omega arith))

    next : (j : ℕ) → j < n → f (s + 1 + j) ≡ g (t + 1 + j)
    next j less =
        let here : s + (j + 1) ≡ s + 1 + j = omega arith in
        let there : t + (j + 1) ≡ t + 1 + j = omega arith in
        subst₂ (λ a b. f a ≡ g b) here there (each (j + 1) (omega (arith, less)))

module _ {P : Type 0} (Answer : List Point → Option (List Point) → Type 0) (at : P → Point) where
  -- what is left of a polygon's first contours is written, the outer one included
  pub record ShapeBegun (given : List (List P)) (old_points new_points : List P) (old_contours new_contours : List ℕ) (before after : Counts) : Type 0 where
    pub kept : List (List P)
    pub shape : ShapeClean Answer (map (map at) given) (Some (map (map at) kept))
    pub appended : AppendsRings kept (contour_arrays old_points old_contours) (contour_arrays new_points new_contours) before after

  -- what is left of the first polygons is written
  pub record ShapesBegun (given : List (List (List P))) (old_points new_points : List P) (old_contours new_contours old_shapes new_shapes : List ℕ) (before after : Counts) : Type 0 where
    pub kept : List (List (List P))
    pub shapes : ListClean Answer (map (map (map at)) given) (map (map (map at)) kept)
    pub appended : AppendsPolygons kept (polygon_arrays old_points old_contours old_shapes) (polygon_arrays new_points new_contours new_shapes) before after

  -- if the first contours leave `kept`, and the next leaves its answer, one contour more leaves both, unless none is
  -- left
  shape_more : (given kept : List (List P)) (ring : List P) (left : Option (List P)) → ShapeClean Answer (map (map at) given) (Some (map (map at) kept)) → Answer (map at ring) (option_map (map at) left) → 0 < length (kept ++ option_to_list left)
      → ShapeClean Answer (map (map at) (given ++ (ring ∷ []))) (Some (map (map at) (kept ++ option_to_list left)))
  shape_more [] [] ring None shape answer some = absurd (omega (arith, some))
  shape_more [] [] ring (Some left) shape answer some = (answer, survivors-none Answer)
  shape_more [] (c ∷ kept) ring left shape answer some = absurd (cc)
  shape_more (outer ∷ holes) [] ring left shape answer some = absurd shape
  shape_more (outer ∷ holes) (c ∷ kept) ring left shape answer some = (
    shape.0,
    rw (map-append (map at) holes (ring ∷ []), map_more (map at) kept left) (survivors-push Answer (map (map at) holes) (map at ring) (map (map at) kept) (option_map (map at) left) shape.1 answer),
  )

  -- a polygon is left out if no contour is left up to and including this one
  shape_none : (given kept : List (List P)) (ring : List P) (left : Option (List P)) (rest : List (List P)) → ShapeClean Answer (map (map at) given) (Some (map (map at) kept)) → Answer (map at ring) (option_map (map at) left)
      → length (kept ++ option_to_list left) ≡ 0 → ShapeClean Answer (map (map at) ((given ++ (ring ∷ [])) ++ rest)) None
  shape_none [] [] ring None rest shape answer none = answer
  shape_none [] [] ring (Some left) rest shape answer none = absurd (omega (arith, none))
  shape_none [] (c ∷ kept) ring left rest shape answer none = absurd (cc)
  shape_none (outer ∷ holes) [] ring left rest shape answer none = absurd shape
  shape_none (outer ∷ holes) (c ∷ kept) ring left rest shape answer none = absurd (omega (arith, none))

  list_more : (given kept : List (List (List P))) (shape : List (List P)) (left : Option (List (List P))) → ListClean Answer (map (map (map at)) given) (map (map (map at)) kept) → ShapeClean Answer (map (map at) shape) (option_map (map (map at)) left)
      → ListClean Answer (map (map (map at)) (given ++ (shape ∷ []))) (map (map (map at)) (kept ++ option_to_list left))
  list_more given kept shape left list answer =
      rw (map-append (map (map at)) given (shape ∷ []), map_more (map (map at)) kept left) (survivors-push (ShapeClean Answer) (map (map (map at)) given) (map (map at) shape) (map (map (map at)) kept) (option_map (map (map at)) left) list answer)

  module _ (op mp np : List P) (oc mc nc : List ℕ) (before mid after : Counts) where
    -- writing what is left of a contour after that of its polygon's first ones extends the polygon
    pub begun_more : (given : List (List P)) (ring : List P) → ShapeBegun given op mp oc mc before mid → AppendsRingLeft Answer at ring (contour_arrays mp mc) (contour_arrays np nc) mid after → before.points ≤ length op → before.contours + 1 ≤ length oc
        → (after.contours ≡ before.contours → ⊥) → ShapeBegun (given ++ (ring ∷ [])) op np oc nc before after
    begun_more given ring begun more points_room contours_room some =
        let appended = rings_more begun.kept (option_to_list more.left) op mp np oc mc nc before mid after begun.appended more.appended points_room contours_room in
        let full : 0 < length (begun.kept ++ option_to_list more.left) = omega (arith, appended.contours_count, some) in
        record { kept = begun.kept ++ option_to_list more.left; shape = shape_more given begun.kept ring more.left begun.shape more.answer full; appended = appended }

    -- a polygon whose outer contour collapses is left out
    pub begun_none : (given : List (List P)) (ring : List P) (rest : List (List P)) (shapes : List ℕ) → ShapeBegun given op mp oc mc before mid → AppendsRingLeft Answer at ring (contour_arrays mp mc) (contour_arrays np nc) mid after → before.points ≤ length op → before.contours + 1 ≤ length oc
        → after.contours ≡ before.contours → AppendsShapeLeft Answer at ((given ++ (ring ∷ [])) ++ rest) (polygon_arrays op oc shapes) (polygon_arrays np nc shapes) before before
    begun_none given ring rest shapes begun more points_room contours_room none =
        let all = rings_more begun.kept (option_to_list more.left) op mp np oc mc nc before mid after begun.appended more.appended points_room contours_room in
        let empty : length (begun.kept ++ option_to_list more.left) ≡ 0 = omega (arith, all.contours_count, none) in
        let nothing = rw (no_items (begun.kept ++ option_to_list more.left) empty) at all in
        record {
          left = None;
          answer = shape_none given begun.kept ring more.left rest begun.shape more.answer empty;
          appended = record {
            rings = record { points = nothing.points; contours = nothing.contours; points_len = nothing.points_len; contours_len = nothing.contours_len; points_count = omega arith; contours_count = omega arith };
            shapes = put_none (before.shapes + 1) shapes;
            shapes_len = refl;
            shapes_count = omega arith;
          };
        }

    -- writing what is left of a polygon after that of the first ones extends the list
    pub shapes_more : (given : List (List (List P))) (shape : List (List P)) (os ms ns : List ℕ) → ShapesBegun given op mp oc mc os ms before mid → AppendsShapeLeft Answer at shape (polygon_arrays mp mc ms) (polygon_arrays np nc ns) mid after
        → before.points ≤ length op → before.contours + 1 ≤ length oc → before.shapes + 1 ≤ length os → ShapesBegun (given ++ (shape ∷ [])) op np oc nc os ns before after
    shapes_more given shape os ms ns begun more points_room contours_room shapes_room = record {
      kept = begun.kept ++ option_to_list more.left;
      shapes = list_more given begun.kept shape more.left begun.shapes more.answer;
      appended = polygons_more begun.kept (option_to_list more.left) op mp np oc mc nc os ms ns before mid after begun.appended more.appended points_room contours_room shapes_room;
    }

-- a contour that can be cleaned without more memory still can if no room is lost
pub ready_still : {P : Type 0} (Clean : List Point → Type 0) (width : Width) (read : List P → List Point) (is_clean : Bool) (had has : ℕ → Type 0) (ring : List P) → ((n : ℕ) → had n → has n)
    → IsReady Clean width read is_clean had ring → IsReady Clean width read is_clean has ring
ready_still Clean width read is_clean had has ring keeps ready = record { safe = ready.safe; clean = ready.clean; reserved = λ unclean. keeps (length ring) (ready.reserved unclean) }

-- if Q holds of each contour, it holds of each of a part of them
pub each_part : {P : Type 0} (Q : List P → Type 0) (points : List P) (offsets : List ℕ) (a b : ℕ) → a ≤ b → b ≤ length offsets → ((k : ℕ) → k + 1 < length offsets → Q (nth_contour points offsets k))
    → (k : ℕ) → k + 1 < length (slice_range offsets a b) → Q (nth_contour points (slice_range offsets a b) k)
each_part Q points offsets a b order within each k less =
    let count = length_part offsets a b order within in
    rw (nth_part offsets a b points k (omega (arith, less, count))) (each (a + k) (omega (arith, less, count, within)))

-- Polygons of points of C, and those that they represent.
module _ {P : Type 0} (at : P → Point) (list : List (List (List P))) where
  abbrev made : List (List (List Point))
  made = map (map (map at)) list

  made_rings : concatenated made ≡ map (map at) (concatenated list)
  made_rings = concatenated-map (map at) list

  made_points : concatenated (concatenated made) ≡ map at (concatenated (concatenated list))
  made_points = ap concatenated made_rings ∙ concatenated-map at (concatenated list)

  -- both have as many polygons, contours and points
  pub read_counts : (length made ≡ length list) × (length (concatenated made) ≡ length (concatenated list)) × (length (concatenated (concatenated made)) ≡ length (concatenated (concatenated list)))
  read_counts = (length-map list (map (map at)), ap length made_rings ∙ length-map (concatenated list) (map at), ap length made_points ∙ length-map (concatenated (concatenated list)) at)

  -- arrays that hold what a call makes of polygons are what it leaves
  pub polygons_written : (Gives : List (List (List Point)) → List (List (List Point)) → Type 0) (points : List P) (contours shapes : List ℕ) (old_points new_points : List P) (old_contours new_contours old_shapes new_shapes : List ℕ) (n : ℕ)
      → Gives (polygons (map at points) contours shapes) made → HoldsPolygons list (polygon_arrays old_points old_contours old_shapes) (polygon_arrays new_points new_contours new_shapes)
      → length list ≡ n → length (concatenated (concatenated list)) ≤ length points → length (concatenated list) < length contours → length list < length shapes
      → AreShapesLeft Gives at (polygon_arrays points contours shapes) (polygon_arrays old_points old_contours old_shapes) (polygon_arrays new_points new_contours new_shapes) n
  polygons_written Gives points contours shapes old_points new_points old_contours new_contours old_shapes new_shapes n gives held count fewer_points fewer_contours fewer_shapes =
      let counts = read_counts in
      let points_put = put_front (concatenated (concatenated list)) old_points new_points held.points_are in
      let contours_put = put_front (offsets_of 0 (concatenated list)) old_contours new_contours held.contours_are in
      let shapes_put = put_front (offsets_of 0 list) old_shapes new_shapes held.shapes_are in
      let contour_offsets : offsets_of 0 (concatenated made) ≡ offsets_of 0 (concatenated list) = ap (offsets_of 0) made_rings ∙ offsets-map at 0 (concatenated list) in
      let shape_offsets : offsets_of 0 made ≡ offsets_of 0 list = offsets-map (map at) 0 list in
      record {
        list = made;
        left = gives;
        count = counts.0 ∙ count;
        fewer_points = omega (arith, counts.2, fewer_points);
        fewer_contours = omega (arith, counts.1, fewer_contours);
        fewer_shapes = omega (arith, count, fewer_shapes);
        written = rw (counts.2, points_put.0) (sym made_points);
        rest = rw counts.2 points_put.1;
        contours_are = rw (contour_offsets, counts.1, ← length-offsets 0 (concatenated list)) contours_put.2;
        shapes_are = rw (shape_offsets, counts.0, ← length-offsets 0 list) shapes_put.2;
      }

-- the last offset isn't below the first
pub spans : {n : ℕ} {offsets : List ℕ} → PartsPoints n offsets → offset offsets 0 ≤ offset offsets (length offsets - 1)
spans {n} {offsets} part = rises_to offsets (length offsets) 0 (length offsets - 1) part.order (omega arith) (omega (arith, part.some))

-- offsets rise from the first to the last
pub offsets_rise : {n : ℕ} {offsets : List ℕ} → PartsPoints n offsets → (k : ℕ) → k + 1 < length offsets
    → (offset offsets 0 ≤ offset offsets k) × (offset offsets k ≤ offset offsets (k + 1)) × (offset offsets (k + 1) ≤ offset offsets (length offsets - 1))
offsets_rise {n} {offsets} part k less = (
  rises_to offsets (length offsets) 0 k part.order (omega arith) (omega (arith, less)),
  part.order k less,
  rises_to offsets (length offsets) (k + 1) (length offsets - 1) part.order (omega (arith, less)) (omega (arith, less)),
)

-- Contours of polygons: `rings` are those from the first polygon's on.
module _ {P : Type 0} (points : List P) {contours shapes : List ℕ} (parted : PartsPolygons (length points) contours shapes) where
  abbrev pub low : ℕ
  low = offset shapes 0

  abbrev pub high : ℕ
  high = offset shapes (length shapes - 1)

  abbrev pub rings : List ℕ
  rings = slice_range contours low (high + 1)

  pub count_rings : length rings ≡ high + 1 - low
  count_rings =
      length_part contours low (high + 1) (omega (arith, spans parted.shapes_parted)) (omega (arith, parted.shapes_parted.last, parted.contours_parted.some))

  -- their offsets divide the points
  pub rings_parted : PartsPoints (length points) rings
  rings_parted =
      parted_part contours low (high + 1) (length points) parted.contours_parted (omega (arith, spans parted.shapes_parted)) (omega (arith, parted.shapes_parted.last, parted.contours_parted.some))

  -- their first and last offset are those of the polygons' contours
  pub rings_ends : (offset rings 0 ≡ offset contours low) × (offset rings (length rings - 1) ≡ offset contours high)
  rings_ends =
      let total = count_rings in
      let first : low + 0 ≡ low = omega arith in
      let last : low + (length rings - 1) ≡ high = omega (arith, total, spans parted.shapes_parted) in (
        offset_part contours low (high + 1) 0 (omega (arith, spans parted.shapes_parted)) ∙ ap (offset contours) first,
        offset_part contours low (high + 1) (length rings - 1) (omega (arith, last)) ∙ ap (offset contours) last,
      )

  -- room for all points and contours is room for these
  pub room_for_polygons : (out_points out_contours out_shapes : ℕ) → HasShapesRoom (length points) (length contours) (length shapes) out_points out_contours out_shapes → HasPolygonsRoom contours shapes out_points out_contours out_shapes
  room_for_polygons out_points out_contours out_shapes room =
      let up = rises_to contours (length contours) high (length contours - 1) parted.contours_parted.order (omega (arith, parted.shapes_parted.last)) (omega (arith, parted.contours_parted.some)) in
      record {
        points_room = omega (arith, up, parted.contours_parted.last, room.contours_fit.points_room);
        contours_room = omega (arith, parted.shapes_parted.last, parted.contours_parted.some, room.contours_fit.offsets_room);
        shapes_room = room.shapes_room;
      }

  module _ (at : P → Point) where
    -- contour low + i is ring i
    ring_is : (i : ℕ) → low + i < high → nth_contour (map at points) contours (low + i) ≡ map at (nth_contour points rings i)
    ring_is i less = slice_range-map at points (offset contours (low + i)) (offset contours (low + i + 1)) ∙ ap (map at) (sym (nth_part contours low (high + 1) points i (omega (arith, less))))

    -- if all points of the polygons are safe, so are those of the rings
    pub rings_safe : (width : Width) → AreSafeContours width at points contours → AreSafeContours width at points rings
    rings_safe width safe =
        subst₂ (λ a b. AreSafe width at (slice_range points a b)) (sym rings_ends.0) (sym rings_ends.1) (safe_part width at points contours low high parted.contours_parted.order (spans parted.shapes_parted) (omega (arith, parted.shapes_parted.last, parted.contours_parted.some)) safe)

    -- the polygons are those that the rings form
    polygons_are : polygons (map at points) contours shapes ≡ map (map (map at)) (polygons_of points rings shapes (length shapes - 1))
    polygons_are = same_ranges (nth_contour (parts (map at points) contours) shapes) (λ k. map (map at) (parts points (rings_at rings shapes k))) 0 0 (length shapes - 1) (λ k less. shape k (0 + k) (omega arith) (omega (arith, less)))
        ∙ sym (map-map (map (map at)) (λ k. parts points (rings_at rings shapes k)) (range_with_len 0 (length shapes - 1)))
      where
        shape : (k j : ℕ) → j ≡ k → k + 1 < length shapes → nth_contour (parts (map at points) contours) shapes j ≡ map (map at) (parts points (rings_at rings shapes j))
        shape k j is less =
            let up = offsets_rise parted.shapes_parted k less in
            let from = offset shapes k - low in
            let to = offset shapes (k + 1) - low + 1 in
            let total = count_rings in
            let count : length (rings_at rings shapes k) ≡ to - from = length_part rings from to (omega (arith, up.1)) (omega (arith, total, up.0, up.1, up.2)) in
            let n : ℕ = offset shapes (k + 1) - offset shapes k in
            let as_many : length (rings_at rings shapes k) - 1 ≡ n = omega (arith, count, up.0, up.1) in
            rw (is, polygon_at (map at points) contours shapes k up.1 (omega (arith, up.2, parted.shapes_parted.last)), as_many)
            (same_ranges (nth_contour (map at points) contours) (λ i. map at (nth_contour points (rings_at rings shapes k) i)) (offset shapes k) 0 n (λ j below. ring k up j below)
            ∙ sym (map-map (map at) (nth_contour points (rings_at rings shapes k)) (range_with_len 0 n)))
          where
            ring : (k : ℕ) → (low ≤ offset shapes k) × (offset shapes k ≤ offset shapes (k + 1)) × (offset shapes (k + 1) ≤ high) → (j : ℕ) → j < offset shapes (k + 1) - offset shapes k
                → nth_contour (map at points) contours (offset shapes k + j) ≡ map at (nth_contour points (rings_at rings shapes k) (0 + j))
            ring k up j below =
                let from = offset shapes k - low in
                let to = offset shapes (k + 1) - low + 1 in
                let total = count_rings in
                let here : 0 + j ≡ j = omega arith in
                let there : low + (from + j) ≡ offset shapes k + j = omega (arith, up.0) in
                let given : nth_contour (map at points) contours (offset shapes k + j) ≡ map at (nth_contour points rings (from + j)) = ap (nth_contour (map at points) contours) (sym there) ∙ ring_is (from + j) (omega (arith, there, below, up.2)) in
                given ∙ rw (here, nth_part rings from to points j (omega (arith, below, up.0, up.1))) refl

    -- each contour belongs to a polygon
    shape_of : (n x : ℕ) → n < length shapes → low ≤ x → x < offset shapes n → (k : ℕ) × (k < n) × (offset shapes k ≤ x) × (x < offset shapes (k + 1))
    shape_of zero x within above below = absurd (omega (arith, above, below))
    shape_of (suc n) x within above below = go (cases_lt x (offset shapes n)) (λ less. shape_of n x (omega (arith, within)) above less)
      where
        go : (x < offset shapes n) ⊎ (offset shapes n ≤ x) → (x < offset shapes n → (k : ℕ) × (k < n) × (offset shapes k ≤ x) × (x < offset shapes (k + 1))) → (k : ℕ) × (k < suc n) × (offset shapes k ≤ x) × (x < offset shapes (k + 1))
        go (inl less) before = let found = before less in (found.0, omega (arith, found.1), found.2, found.3)
        go (inr more) before = let next : suc n ≡ n + 1 = omega arith in (n, omega arith, more, subst (λ m. x < offset shapes m) next below)

    -- if the polygons are clean, so is each ring
    pub rings_clean : (Clean : List Point → Type 0) → EachShape Clean (polygons (map at points) contours shapes) → (i : ℕ) → i + 1 < length rings → Clean (map at (nth_contour points rings i))
    rings_clean Clean clean i less =
        let total = count_rings in
        let below : low + i < high = omega (arith, less, total) in
        let found = shape_of (length shapes - 1) (low + i) (omega (arith, parted.shapes_parted.some)) (omega arith) below in
        let k = found.0 in
        let up = offsets_rise parted.shapes_parted k (omega (arith, found.1)) in
        let j = low + i - offset shapes k in
        let n = offset shapes (k + 1) - offset shapes k in
        let whole = polygons (map at points) contours shapes in
        let as_many : length whole ≡ length shapes - 1 = length-map-range_with_len (nth_contour (parts (map at points) contours) shapes) 0 (length shapes - 1) in
        let shape_read = get_or-map-range_with_len (nth_contour (parts (map at points) contours) shapes) 0 (length shapes - 1) k k [] found.1 (omega arith) in
        let shape_is = polygon_at (map at points) contours shapes k up.1 (omega (arith, up.2, parted.shapes_parted.last)) in
        let shape_clean : All Clean (map (nth_contour (map at points) contours) (range_with_len (offset shapes k) n)) = rw (shape_read, shape_is) at (clean k [] (omega (arith, found.1, as_many))) in
        let fits : j < n = omega (arith, found.2, found.3) in
        let many : length (map (nth_contour (map at points) contours) (range_with_len (offset shapes k) n)) ≡ n = length-map-range_with_len (nth_contour (map at points) contours) (offset shapes k) n in
        let ring_read = get_or-map-range_with_len (nth_contour (map at points) contours) (offset shapes k) n j (low + i) [] fits (omega (arith, found.2)) in
        rw (ring_read, ring_is i below) at (shape_clean j [] (omega (arith, fits, many)))

    -- if the arrays hold what is left of the rings, they hold what is left of the polygons
    pub left_written : (Gives : List (List (List Point)) → List (List (List Point)) → Type 0) (given_rings : List ℕ) (old_points new_points : List P) (old_contours new_contours old_shapes new_shapes : List ℕ) (n : ℕ)
        → given_rings ≡ rings
        → WritesLeft Gives at (polygon_arrays points given_rings shapes) (polygon_arrays old_points old_contours old_shapes) (polygon_arrays new_points new_contours new_shapes) n
        → AreShapesLeft Gives at (polygon_arrays points contours shapes) (polygon_arrays old_points old_contours old_shapes) (polygon_arrays new_points new_contours new_shapes) n
    left_written Gives given_rings old_points new_points old_contours new_contours old_shapes new_shapes n same wrote_given =
        let wrote = subst (λ w. WritesLeft Gives at (polygon_arrays points w shapes) (polygon_arrays old_points old_contours old_shapes) (polygon_arrays new_points new_contours new_shapes) n) same wrote_given in
        let total = count_rings in
        polygons_written at wrote.left Gives points contours shapes old_points new_points old_contours new_contours old_shapes new_shapes n (rw polygons_are wrote.answer)
        wrote.written.held wrote.written.count wrote.written.fewer_points
        (omega (arith, wrote.written.fewer_contours, total, parted.shapes_parted.last, parted.contours_parted.some)) wrote.written.fewer_shapes

-- why a call on polygons fails, or none if it doesn't
abbrev AreRefused : {P : Type 0} → Width → (P → Point) → List P → List ℕ → List ℕ → List P → List ℕ → List ℕ → Option Refusal → Type 0
AreRefused width at points contours shapes old_points old_contours old_shapes =
    IsRefusal (PartsPolygons (length points) contours shapes) (HasShapesRoom (length points) (length contours) (length shapes) (length old_points) (length old_contours) (length old_shapes)) (AreSafeContours width at points contours)

-- What a call that cleans polygons returns.
module _ {P : Type 0} {cleaning : PolygonCleaning} {width : Width} {at : P → Point} {points : List P} {contours shapes : List ℕ} {old_points : List P} {old_contours old_shapes : List ℕ} where
  -- a call that fails returns its code
  pub polygons_refused : (r : Refusal) → AreRefused width at points contours shapes old_points old_contours old_shapes (Some r)
      → CleansPolygons cleaning width at (polygon_arrays points contours shapes) (polygon_arrays old_points old_contours old_shapes) (polygon_arrays old_points old_contours old_shapes) (to_z w64 (of_z w64 (to_z w32 (of_z w32 (code_of r)))))
  polygons_refused r why = rw (code_of_64 r) (record {
    answer = each_code (ShapesAnswer cleaning.gives at (polygon_arrays points contours shapes) (polygon_arrays old_points old_contours old_shapes) (polygon_arrays old_points old_contours old_shapes)) r (λ n few. (few, refl, refl, refl));
    refuses = refused r why;
  })

  module _ {new_points : List P} {new_contours new_shapes : List ℕ} (fit : AreRefused width at points contours shapes old_points old_contours old_shapes None) where
    -- a call that succeeds returns the number of polygons left
    pub polygons_counted : (n : ℕ) → length old_shapes < 2 ^ 63 → AreShapesLeft cleaning.gives at (polygon_arrays points contours shapes) (polygon_arrays old_points old_contours old_shapes) (polygon_arrays new_points new_contours new_shapes) n
        → CleansPolygons cleaning width at (polygon_arrays points contours shapes) (polygon_arrays old_points old_contours old_shapes) (polygon_arrays new_points new_contours new_shapes) (to_z w64 n)
    polygons_counted n few left = rw (to_z_pos w64 n (omega (arith, left.fewer_shapes, fit.1.shapes_room, few))) (record { answer = left; refuses = not_refused fit n })

    -- a call that runs out of memory returns that code, and changes no array
    pub polygons_without_memory : (new_points ≡ old_points) × (new_contours ≡ old_contours) × (new_shapes ≡ old_shapes) → (cleaning.spares (polygons (map at points) contours shapes) → ⊥)
        → CleansPolygons cleaning width at (polygon_arrays points contours shapes) (polygon_arrays old_points old_contours old_shapes) (polygon_arrays new_points new_contours new_shapes) (to_z w64 (of_z w64 (to_z w32 (of_z w32 no_memory_code))))
    polygons_without_memory kept unspared = rw (code_of_64 NoMemory) (record { answer = (omega arith, kept.0, kept.1, kept.2); refuses = refused_memory fit unspared })
