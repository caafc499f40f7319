-- What is left of polygons, written one after the other.
use Rattle.std.proofs.Common.{◌≡◌, ℕ, suc, ◌+◌, ◌-◌, ◌≤◌, ◌<◌, ◌++◌, List, [], ◌∷◌, length, take, drop, set, slice_range, append-nil, append_assoc, length-append, length-drop, refl, sym, ap, ap₂, subst, subst₂, ◌∙◌, arith}
use Rattle.std.proofs.lemmas.List.{take-append-drop, drop-drop, take-set, drop-set, take_at, drop_at, length-take-le, length-set, get_or-take, get_or-drop}
use Rattle.i_shape.specs.Paths.{concatenated}
use Rattle.i_shape.proofs.Lists.EndToEnd.{concatenated-append}
use Rattle.i_shape_c.specs.Steps.Appended.{IsPut, ends_from, AppendsRings, AppendsPolygons, WritesPolygons}
use Rattle.i_shape_c.specs.Batch.{contour_arrays, offset, nth_contour, AreRising, PartsPoints}
use Rattle.i_shape_c.specs.Polygons.{polygon_arrays, offsets_of}
use Rattle.i_shape_c.specs.declared.polygons.Counts.{Counts}
use Rattle.i_shape_core.proofs.Lists.Rings.{rises_to}

-- putting nothing changes nothing
pub put_none : {X : Type 0} (at : ℕ) (old : List X) → IsPut at [] old old
put_none at old =
    let same : at ≡ at + 0 = omega arith in
    sym (take-append-drop at old) ∙ ap (λ n. take at old ++ drop n old) same

-- setting item n puts one item there
pub put_one : {X : Type 0} (old : List X) (n : ℕ) (v : X) → n < length old → IsPut n (v ∷ []) old (set old n v)
put_one old n v room = sym (take-append-drop n (set old n v)) ∙ ap₂ (λ a b. a ++ b) (take-set old n v) (drop-set old n v room)

-- putting x and then y after it is putting x ++ y
pub put_more : {X : Type 0} (a b : ℕ) (x y old mid new : List X) → IsPut a x old mid → IsPut b y mid new → b ≡ a + length x → a ≤ length old → IsPut a (x ++ y) old new
put_more a b x y old mid new first second at within =
    let front = take a old ++ x in
    let back = drop (a + length x) old in
    let rest = drop (a + length (x ++ y)) old in
    let long : length front ≡ b = length-append (take a old) x ∙ ap (λ n. n + length x) (length-take-le a old within) ∙ sym at in
    let whole : mid ≡ front ++ back = first ∙ sym (append_assoc (take a old) x back) in
    let before : take b mid ≡ front = ap (take b) whole ∙ take_at front back b long in
    let left : drop b mid ≡ back = ap (drop b) whole ∙ drop_at front back b long in
    let sum : a + length x + length y ≡ a + length (x ++ y) = omega (arith, length-append x y) in
    let behind : drop (b + length y) mid ≡ rest = sym (drop-drop (length y) b mid) ∙ ap (drop (length y)) left ∙ drop-drop (length y) (a + length x) old ∙ ap (λ n. drop n old) sum in
    second ∙ ap₂ (λ f r. f ++ (y ++ r)) before behind ∙ append_assoc (take a old) x (y ++ rest) ∙ ap (λ w. take a old ++ w) (sym (append_assoc x y rest))

-- a list that equals the old one before `at` and from `end` on has its items between put there
pub put_between : {X : Type 0} (at end : ℕ) (old new : List X) → at ≤ end → end ≤ length new → take at new ≡ take at old → drop end new ≡ drop end old → (at + length (slice_range new at end) ≡ end) × IsPut at (slice_range new at end) old new
put_between at end old new order within before after =
    let part = slice_range new at end in
    let sum : at + (end - at) ≡ end = omega (arith, order) in
    let back = length-drop at new in
    let long : at + length part ≡ end = omega (arith, order, length-take-le (end - at) (drop at new) (omega (arith, order, within, back))) in
    let rest : drop (end - at) (drop at new) ≡ drop (at + length part) old = drop-drop (end - at) at new ∙ ap (λ n. drop n new) sum ∙ after ∙ ap (λ n. drop n old) (sym long) in
    (long, sym (take-append-drop at new) ∙ ap₂ (λ a b. a ++ b) before (sym (take-append-drop (end - at) (drop at new)) ∙ ap (λ l. part ++ l) rest))

-- a part put at the start is the front of the new list, and the rest is unchanged
pub put_front : {X : Type 0} (part old new : List X) → IsPut 0 part old new → (take (length part) new ≡ part) × (drop (length part) new ≡ drop (length part) old) × (new ≡ part ++ drop (length part) old)
put_front part old new put =
    let none : 0 + length part ≡ length part = omega arith in
    let is : new ≡ part ++ drop (length part) old = put ∙ ap (λ n. part ++ drop n old) none in
    (ap (take (length part)) is ∙ take_at part (drop (length part) old) (length part) refl, ap (drop (length part)) is ∙ drop_at part (drop (length part) old) (length part) refl, is)

-- the ends of a concatenation are those of its first list and then those of its second
pub ends-append : {X : Type 0} (start : ℕ) (xs ys : List (List X)) → ends_from start (xs ++ ys) ≡ ends_from start xs ++ ends_from (start + length (concatenated xs)) ys
ends-append start [] ys =
    let same : start ≡ start + 0 = omega arith in
    ap (λ n. ends_from n ys) same
ends-append start (x ∷ xs) ys =
    let sum : start + length x + length (concatenated xs) ≡ start + length (x ++ concatenated xs) = omega (arith, length-append x (concatenated xs)) in
    ap (λ w. (start + length x) ∷ w) (ends-append (start + length x) xs ys ∙ ap (λ n. ends_from (start + length x) xs ++ ends_from n ys) sum)

length-ends : {X : Type 0} (start : ℕ) (xs : List (List X)) → length (ends_from start xs) ≡ length xs
length-ends start [] = refl
length-ends start (x ∷ xs) = ap (λ n. suc n) (length-ends (start + length x) xs)

-- the offsets are the start and then the ends
pub offsets-ends_from : {X : Type 0} (start : ℕ) (xs : List (List X)) → offsets_of start xs ≡ start ∷ ends_from start xs
offsets-ends_from start [] = refl
offsets-ends_from start (x ∷ xs) = ap (λ w. start ∷ w) (offsets-ends_from (start + length x) xs)

-- there is one offset more than lists
pub length-offsets : {X : Type 0} (start : ℕ) (xs : List (List X)) → length (offsets_of start xs) ≡ length xs + 1
length-offsets start xs = let count = length-ends start xs in omega (arith, ap length (offsets-ends_from start xs), count)

-- writing no contours changes nothing
pub rings_none : {P : Type 0} (points : List P) (contours : List ℕ) (counts : Counts) → AppendsRings [] (contour_arrays points contours) (contour_arrays points contours) counts counts
rings_none points contours counts = record {
  points = put_none counts.points points;
  contours = put_none (counts.contours + 1) contours;
  points_len = refl;
  contours_len = refl;
  points_count = omega arith;
  contours_count = omega arith;
}

-- writing a contour's points and its end appends it
pub ring_put : {P : Type 0} (ring : List P) (old_points new_points : List P) (contours : List ℕ) (counts : Counts) → IsPut counts.points ring old_points new_points → length new_points ≡ length old_points → counts.contours + 1 < length contours
    → AppendsRings (ring ∷ []) (contour_arrays old_points contours) (contour_arrays new_points (set contours (counts.contours + 1) (counts.points + length ring))) counts (record { points = counts.points + length ring; contours = counts.contours + 1; shapes = counts.shapes })
ring_put ring old_points new_points contours counts put len room = record {
  points = subst (λ w. IsPut counts.points w old_points new_points) (sym (append-nil ring)) put;
  contours = put_one contours (counts.contours + 1) (counts.points + length ring) room;
  points_len = len;
  contours_len = length-set contours (counts.contours + 1) (counts.points + length ring);
  points_count = ap (λ w. counts.points + length w) (sym (append-nil ring));
  contours_count = refl;
}

-- appending contours and then more contours appends both
pub rings_more : {P : Type 0} (xs ys : List (List P)) (op mp np : List P) (oc mc nc : List ℕ) (before mid after : Counts)
    → AppendsRings xs (contour_arrays op oc) (contour_arrays mp mc) before mid → AppendsRings ys (contour_arrays mp mc) (contour_arrays np nc) mid after → before.points ≤ length op → before.contours + 1 ≤ length oc → AppendsRings (xs ++ ys) (contour_arrays op oc) (contour_arrays np nc) before after
rings_more xs ys op mp np oc mc nc before mid after a b points_room contours_room = record {
  points = subst (λ w. IsPut before.points w op np) (sym (concatenated-append xs ys)) (put_more before.points mid.points (concatenated xs) (concatenated ys) op mp np a.points b.points a.points_count points_room);
  contours = subst (λ w. IsPut (before.contours + 1) w oc nc) (sym (ends-append before.points xs ys))
      (put_more (before.contours + 1) (mid.contours + 1) (ends_from before.points xs) (ends_from (before.points + length (concatenated xs)) ys) oc mc nc a.contours
      (subst (λ n. IsPut (mid.contours + 1) (ends_from n ys) mc nc) a.points_count b.contours) (omega (arith, a.contours_count, length-ends before.points xs)) contours_room);
  points_len = b.points_len ∙ a.points_len;
  contours_len = b.contours_len ∙ a.contours_len;
  points_count = omega (arith, a.points_count, b.points_count, ap length (concatenated-append xs ys), length-append (concatenated xs) (concatenated ys));
  contours_count = omega (arith, a.contours_count, b.contours_count, length-append xs ys);
}

-- writing no polygons changes nothing
pub polygons_none : {P : Type 0} (points : List P) (contours shapes : List ℕ) (counts : Counts) → AppendsPolygons [] (polygon_arrays points contours shapes) (polygon_arrays points contours shapes) counts counts
polygons_none points contours shapes counts = record {
  rings = rings_none points contours counts;
  shapes = put_none (counts.shapes + 1) shapes;
  shapes_len = refl;
  shapes_count = omega arith;
}

-- writing the end of a polygon whose contours are written appends it
pub polygon_put : {P : Type 0} (rings : List (List P)) (old_points new_points : List P) (old_contours new_contours shapes : List ℕ) (before mid : Counts)
    → AppendsRings rings (contour_arrays old_points old_contours) (contour_arrays new_points new_contours) before mid → mid.shapes ≡ before.shapes → before.shapes + 1 < length shapes
    → AppendsPolygons (rings ∷ []) (polygon_arrays old_points old_contours shapes) (polygon_arrays new_points new_contours (set shapes (mid.shapes + 1) mid.contours)) before (record { points = mid.points; contours = mid.contours; shapes = mid.shapes + 1 })
polygon_put rings old_points new_points old_contours new_contours shapes before mid a same room =
    let all : rings ≡ rings ++ [] = sym (append-nil rings) in
    record {
      rings = record {
        points = subst (λ w. IsPut before.points (concatenated w) old_points new_points) all a.points;
        contours = subst (λ w. IsPut (before.contours + 1) (ends_from before.points w) old_contours new_contours) all a.contours;
        points_len = a.points_len;
        contours_len = a.contours_len;
        points_count = a.points_count ∙ ap (λ w. before.points + length (concatenated w)) all;
        contours_count = a.contours_count ∙ ap (λ w. before.contours + length w) all;
      };
      shapes = rw (same, a.contours_count) (put_one shapes (before.shapes + 1) (before.contours + length rings) room);
      shapes_len = length-set shapes (mid.shapes + 1) mid.contours;
      shapes_count = ap (λ n. n + 1) same;
    }

-- appending polygons and then more polygons appends both
pub polygons_more : {P : Type 0} (xs ys : List (List (List P))) (op mp np : List P) (oc mc nc os ms ns : List ℕ) (before mid after : Counts)
    → AppendsPolygons xs (polygon_arrays op oc os) (polygon_arrays mp mc ms) before mid → AppendsPolygons ys (polygon_arrays mp mc ms) (polygon_arrays np nc ns) mid after → before.points ≤ length op → before.contours + 1 ≤ length oc → before.shapes + 1 ≤ length os
    → AppendsPolygons (xs ++ ys) (polygon_arrays op oc os) (polygon_arrays np nc ns) before after
polygons_more xs ys op mp np oc mc nc os ms ns before mid after a b points_room contours_room shapes_room = record {
  rings = subst (λ w. AppendsRings w (contour_arrays op oc) (contour_arrays np nc) before after) (sym (concatenated-append xs ys))
      (rings_more (concatenated xs) (concatenated ys) op mp np oc mc nc before mid after a.rings b.rings points_room contours_room);
  shapes = subst (λ w. IsPut (before.shapes + 1) w os ns) (sym (ends-append before.contours xs ys))
      (put_more (before.shapes + 1) (mid.shapes + 1) (ends_from before.contours xs) (ends_from (before.contours + length (concatenated xs)) ys) os ms ns a.shapes
      (subst (λ n. IsPut (mid.shapes + 1) (ends_from n ys) ms ns) a.rings.contours_count b.shapes) (omega (arith, a.shapes_count, length-ends before.contours xs)) shapes_room);
  shapes_len = b.shapes_len ∙ a.shapes_len;
  shapes_count = omega (arith, a.shapes_count, b.shapes_count, length-append xs ys);
}

module _ (offsets : List ℕ) (a b : ℕ) where
  -- offset k of a part is offset a + k
  pub offset_part : (k : ℕ) → a + k < b → offset (slice_range offsets a b) k ≡ offset offsets (a + k)
  offset_part k less = get_or-take (b - a) (drop a offsets) k 0 (let e : k < b - a = omega (arith, less) in e) ∙ get_or-drop a offsets k 0

  -- the part from a to b has b - a offsets
  pub length_part : a ≤ b → b ≤ length offsets → length (slice_range offsets a b) ≡ b - a
  length_part order within = let back = length-drop a offsets in length-take-le (b - a) (drop a offsets) (omega (arith, order, within, back))

  -- contour k of the part is contour a + k
  pub nth_part : {P : Type 0} (points : List P) (k : ℕ) → a + k + 1 < b → nth_contour points (slice_range offsets a b) k ≡ nth_contour points offsets (a + k)
  nth_part points k less =
      let next : a + (k + 1) ≡ a + k + 1 = omega arith in
      ap₂ (slice_range points) (offset_part k (omega (arith, less))) (offset_part (k + 1) (omega (arith, less)) ∙ ap (offset offsets) next)

  -- the part divides the points too
  pub parted_part : (n : ℕ) → PartsPoints n offsets → a < b → b ≤ length offsets → PartsPoints n (slice_range offsets a b)
  parted_part n parted less within =
      let count = length_part (omega (arith, less)) within in
      let up = rises_to offsets (length offsets) (b - 1) (length offsets - 1) parted.order (omega (arith, within)) (omega (arith, parted.some)) in
      let end : a + (length (slice_range offsets a b) - 1) ≡ b - 1 = omega (arith, count, less) in
      record {
        some = omega (arith, count, less);
        order = λ k below.
            let next : a + (k + 1) ≡ a + k + 1 = omega arith in
            let fits : a + (k + 1) < b = omega (arith, below, count) in
            let high : offset (slice_range offsets a b) (k + 1) ≡ offset offsets (a + k + 1) = offset_part (k + 1) fits ∙ ap (offset offsets) next in
            subst₂ (λ x y. x ≤ y) (sym (offset_part k (omega (arith, fits)))) (sym high) (parted.order (a + k) (omega (arith, fits, within)));
        last = rw (offset_part (length (slice_range offsets a b) - 1) (omega (arith, end, less)) ∙ ap (offset offsets) end) (omega (arith, up, parted.last));
      }

-- The offsets of one polygon's contours within those of all polygons' contours.
module _ (rings shapes : List ℕ) (place : ℕ) (order : AreRising shapes (length shapes)) (some : 0 < place) (within : place < length shapes) (fits : offset shapes (length shapes - 1) < length rings + offset shapes 0) where
  abbrev from : ℕ
  from = offset shapes (place - 1) - offset shapes 0

  abbrev end : ℕ
  end = offset shapes place - offset shapes 0 + 1

  -- the polygon's offsets lie within them
  pub rises_in : (offset shapes 0 ≤ offset shapes (place - 1)) × (offset shapes (place - 1) ≤ offset shapes place) × (offset shapes place < length rings + offset shapes 0)
  rises_in =
      let up = rises_to shapes (length shapes) place (length shapes - 1) order (omega (arith, within)) (omega (arith, within)) in (
        rises_to shapes (length shapes) 0 (place - 1) order (omega arith) (omega (arith, within)),
        rises_to shapes (length shapes) (place - 1) place order (omega arith) within,
        omega (arith, up, fits),
      )

  -- the polygon's offsets divide the points
  pub parted_in : (n : ℕ) → PartsPoints n rings → PartsPoints n (slice_range rings from end)
  parted_in n parted = let up = rises_in in parted_part rings from end n parted (omega (arith, up.0, up.1)) (omega (arith, up.0, up.1, up.2))

  -- the first and the last of the polygon's offsets
  pub ends_in : (offset (slice_range rings from end) 0 ≡ offset rings from) × (offset (slice_range rings from end) (length (slice_range rings from end) - 1) ≡ offset rings (offset shapes place - offset shapes 0))
  ends_in =
      let up = rises_in in
      let count = length_part rings from end (omega (arith, up.0, up.1)) (omega (arith, up.0, up.1, up.2)) in
      let first : from + 0 ≡ from = omega arith in
      let last : from + (length (slice_range rings from end) - 1) ≡ offset shapes place - offset shapes 0 = omega (arith, count, up.0, up.1) in (
        offset_part rings from end 0 (omega (arith, up.0, up.1)) ∙ ap (offset rings) first,
        offset_part rings from end (length (slice_range rings from end) - 1) (omega (arith, last, up.0, up.1)) ∙ ap (offset rings) last,
      )

-- if the first offsets are 0 and polygons are written after them, the arrays hold them
pub all_written_out : {P : Type 0} (list : List (List (List P))) (points rings shapes : ℕ) (old_points new_points : List P) (old_contours new_contours old_shapes new_shapes : List ℕ) (counts : Counts)
    → AppendsPolygons list (polygon_arrays old_points (set old_contours 0 0) (set old_shapes 0 0)) (polygon_arrays new_points new_contours new_shapes) (record { points = 0; contours = 0; shapes = 0 }) counts
    → 0 < length old_contours → 0 < length old_shapes → counts.points ≤ points → counts.contours < rings → counts.shapes < shapes
    → WritesPolygons list points rings shapes (polygon_arrays old_points old_contours old_shapes) (polygon_arrays new_points new_contours new_shapes) counts.shapes
all_written_out list points rings shapes old_points new_points old_contours new_contours old_shapes new_shapes counts all some_contours some_shapes fewer_points fewer_contours fewer_shapes =
    let points_count = all.rings.points_count in
    let contours_count = all.rings.contours_count in
    let shapes_count = all.shapes_count in
    record {
      held = record {
        points_are = all.rings.points;
        contours_are = subst (λ w. IsPut 0 w old_contours new_contours) (sym (offsets-ends_from 0 (concatenated list)))
            (put_more 0 1 (0 ∷ []) (ends_from 0 (concatenated list)) old_contours (set old_contours 0 0) new_contours (put_one old_contours 0 0 some_contours) all.rings.contours refl (omega arith));
        shapes_are = subst (λ w. IsPut 0 w old_shapes new_shapes) (sym (offsets-ends_from 0 list))
            (put_more 0 1 (0 ∷ []) (ends_from 0 list) old_shapes (set old_shapes 0 0) new_shapes (put_one old_shapes 0 0 some_shapes) all.shapes refl (omega arith));
      };
      count = omega (arith, shapes_count);
      fewer_points = omega (arith, points_count, fewer_points);
      fewer_contours = omega (arith, contours_count, fewer_contours);
      fewer_shapes = omega (arith, shapes_count, fewer_shapes);
    }
