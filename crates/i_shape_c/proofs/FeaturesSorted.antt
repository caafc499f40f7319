-- Polygons that are cleaned, each at its place, and then sorted within features.
use Rattle.std.proofs.Common.{◌≡◌, ℕ, suc, ◌+◌, ◌-◌, ◌≤◌, ◌<◌, ◌++◌, List, [], ◌∷◌, length, get_or, map, set, refl, sym, ap, subst, ◌∙◌, arith, Option, Some, None, inl, inr, option_map, option_to_list}
use Rattle.std.specs.List.{All, AllZip, AllPairs}
use Rattle.std.proofs.lemmas.List.{map-append}
use Rattle.std.proofs.lemmas.List.Elements.{All-nil, All-cons, All-head, All-tail, All-take, All-drop}
use Rattle.std.proofs.lemmas.List.FromFn.{length-map-range_with_len}
use Rattle.std.proofs.lemmas.List.Sorted.{IsPermutation-refl, sum_by-IsPermutation}
use Rattle.i_shape_core.proofs.Common.{Point, IsAtMost}
use Rattle.i_shape.specs.Paths.{concatenated}
use Rattle.i_shape.specs.CanonicalShapes.{IsShapeAtMost}
use Rattle.i_shape.specs.ShapeAnswers.{ShapeClean}
use Rattle.i_shape_c.specs.Steps.Appended.{IsLeftOrEmpty, AreLeftOrEmpty, AppendsPolygons, AppendsShapeLeft, AppendsShapeKept}
use Rattle.i_shape_c.specs.Steps.Sorted.{SortsRest, SortsAll, SortsFeatures, WritesSorted}
use Rattle.i_shape_c.specs.Batch.{offset, nth_contour, PartsPoints}
use Rattle.i_shape_c.specs.Formed.{IsFormOrEmpty, FeaturesForm}
use Rattle.i_shape_c.specs.Polygons.{polygon_arrays, parts, polygons, HaveNoContours, AreShapesLeft}
use Rattle.i_shape_c.specs.declared.polygons.Counts.{Counts}
use Rattle.i_shape_c.proofs.Appended.{put_none, polygon_put, polygons_more}
use Rattle.i_shape_c.proofs.FormsWritten.{cleaned, cleaned_are}
use Rattle.i_shape_c.proofs.HolesSorted.{each_sum}
use Rattle.i_shape_c.proofs.Nested.{zip_from}
use Rattle.i_shape_c.proofs.PolygonsLeft.{read_counts, polygons_written}
use Rattle.i_shape_c.proofs.SortedPolygons.{form_none, form_some, counts_kept}

-- if lists are related pairwise, and one item more of each is, so are the lists with these items
zip_more : {X Y : Type 0} (R : X → Y → Type 0) (xs : List X) (ys : List Y) (x : X) (y : Y) → AllZip R xs ys → R x y → AllZip R (xs ++ (x ∷ [])) (ys ++ (y ∷ []))
zip_more R [] [] x y all one = (one, tt)
zip_more R [] (b ∷ ys) x y all one = absurd all
zip_more R (a ∷ xs) [] x y all one = absurd all
zip_more R (a ∷ xs) (b ∷ ys) x y all one = (all.0, zip_more R xs ys x y all.1 one)

-- lists that are related pairwise are equally long
zip_length : {X Y : Type 0} (R : X → Y → Type 0) (xs : List X) (ys : List Y) → AllZip R xs ys → length ys ≡ length xs
zip_length R [] [] all = refl
zip_length R [] (y ∷ ys) all = absurd all
zip_length R (x ∷ xs) [] all = absurd all
zip_length R (x ∷ xs) (y ∷ ys) all = let rest = zip_length R xs ys all.1 in ap (λ n. suc n) rest

-- if R and then S make T, lists related by R and then by S are related by T
zip_chain : {X Y Z : Type 0} (R : X → Y → Type 0) (S : Y → Z → Type 0) (T : X → Z → Type 0) → ((x : X) (y : Y) (z : Z) → R x y → S y z → T x z) → (xs : List X) (ys : List Y) (zs : List Z) → AllZip R xs ys → AllZip S ys zs → AllZip T xs zs
zip_chain R S T made [] [] [] first second = tt
zip_chain R S T made [] [] (z ∷ zs) first second = absurd second
zip_chain R S T made [] (y ∷ ys) zs first second = absurd first
zip_chain R S T made (x ∷ xs) [] zs first second = absurd first
zip_chain R S T made (x ∷ xs) (y ∷ ys) [] first second = absurd second
zip_chain R S T made (x ∷ xs) (y ∷ ys) (z ∷ zs) first second = (made x y z first.0 second.0, zip_chain R S T made xs ys zs first.1 second.1)

module _ {P : Type 0} (Answer : List Point → Option (List Point) → Type 0) (at : P → Point) where
  module _ (shape : List (List P)) (op np : List P) (oc nc os ns : List ℕ) (before after : Counts)
      (left : AppendsShapeLeft Answer at shape (polygon_arrays op oc os) (polygon_arrays np nc ns) before after) where
    -- a polygon that is counted doesn't collapse
    pub appended_left : before.shapes < after.shapes → AppendsShapeKept Answer at shape (polygon_arrays op oc os) (polygon_arrays np nc ns) before after
    appended_left more = go left.left left.answer left.appended
      where
        go : (l : Option (List (List P))) → ShapeClean Answer (map (map at) shape) (option_map (map (map at)) l) → AppendsPolygons (option_to_list l) (polygon_arrays op oc os) (polygon_arrays np nc ns) before after
            → AppendsShapeKept Answer at shape (polygon_arrays op oc os) (polygon_arrays np nc ns) before after
        go None answer appended = let count = appended.shapes_count in absurd (omega (arith, count, more))
        go (Some kept) answer appended = record { kept = kept; answer = inl answer; appended = appended }

    -- one that isn't counted collapses; once its end is written, it is there without contours
    pub appended_empty : after.shapes ≤ before.shapes → before.shapes + 1 < length os
        → AppendsShapeKept Answer at shape (polygon_arrays op oc os) (polygon_arrays np nc (set ns (after.shapes + 1) after.contours)) before (record { points = after.points; contours = after.contours; shapes = after.shapes + 1 })
    appended_empty none room = go left.left left.answer left.appended
      where
        go : (l : Option (List (List P))) → ShapeClean Answer (map (map at) shape) (option_map (map (map at)) l) → AppendsPolygons (option_to_list l) (polygon_arrays op oc os) (polygon_arrays np nc ns) before after
            → AppendsShapeKept Answer at shape (polygon_arrays op oc os) (polygon_arrays np nc (set ns (after.shapes + 1) after.contours)) before (record { points = after.points; contours = after.contours; shapes = after.shapes + 1 })
        go None answer appended =
            let count = appended.shapes_count in
            let same : after.shapes ≡ before.shapes = omega (arith, count) in
            let whole : ns ≡ os = appended.shapes ∙ sym (put_none (before.shapes + 1) os) in
            record { kept = []; answer = inr (answer, refl); appended = rw whole (polygon_put [] op np oc nc os before after appended.rings same room) }
        go (Some kept) answer appended = let count = appended.shapes_count in absurd (omega (arith, count, none))

  -- what is left of the first polygons is written
  pub record PolygonsBegun (given : List (List (List P))) (old_points new_points : List P) (old_contours new_contours old_shapes new_shapes : List ℕ) (before after : Counts) : Type 0 where
    pub kept : List (List (List P))
    pub shapes : AreLeftOrEmpty Answer (map (map (map at)) given) (map (map (map at)) kept)
    pub appended : AppendsPolygons kept (polygon_arrays old_points old_contours old_shapes) (polygon_arrays new_points new_contours new_shapes) before after

  -- writing what is left of a polygon after that of the first ones extends the list
  pub polygons_begun : (op mp np : List P) (oc mc nc : List ℕ) (before mid after : Counts) (given : List (List (List P))) (shape : List (List P)) (os ms ns : List ℕ) → PolygonsBegun given op mp oc mc os ms before mid
      → AppendsShapeKept Answer at shape (polygon_arrays mp mc ms) (polygon_arrays np nc ns) mid after → before.points ≤ length op → before.contours + 1 ≤ length oc → before.shapes + 1 ≤ length os → PolygonsBegun (given ++ (shape ∷ [])) op np oc nc os ns before after
  polygons_begun op mp np oc mc nc before mid after given shape os ms ns begun more points_room contours_room shapes_room = record {
    kept = begun.kept ++ (more.kept ∷ []);
    shapes = rw (map-append (map (map at)) given (shape ∷ []), map-append (map (map at)) begun.kept (more.kept ∷ [])) (zip_more (IsLeftOrEmpty Answer) (map (map (map at)) given) (map (map (map at)) begun.kept) (map (map at) shape) (map (map at) more.kept) begun.shapes more.answer);
    appended = polygons_more begun.kept (more.kept ∷ []) op mp np oc mc nc os ms ns before mid after begun.appended more.appended points_room contours_room shapes_room;
  }

-- sorting keeps the number of polygons, contours and points
pub features_counts : (features : List ℕ) {n : ℕ} → PartsPoints n features → (s t : List (List (List Point))) → SortsFeatures features s t
    → (length t ≡ length s) × (length (concatenated t) ≡ length (concatenated s)) × (length (concatenated (concatenated t)) ≡ length (concatenated (concatenated s)))
features_counts features parted s t sorts =
    counts_kept s sorts.holes t sorts.holes_sorted (λ f. each_sum (SortsAll (AllPairs IsShapeAtMost)) f (λ old new all. sum_by-IsPermutation f old new all.same) sorts.holes t parted sorts.in_order)

-- polygons that are left at their places, sorted within features, are the form of the features
module _ (Form : List Point → Option (List Point) → Type 0) where
  nothing_more : (l : List (List Point)) → SortsRest (AllPairs IsAtMost) [] l → l ≡ []
  nothing_more [] sorts = refl
  nothing_more (c ∷ l) sorts = let first = sorts.first in absurd cc

  formed_each : (s k l : List (List Point)) → IsLeftOrEmpty Form s k → SortsRest (AllPairs IsAtMost) k l → IsFormOrEmpty Form s l
  formed_each s k l (inl clean) sorts = inl (form_some Form s k l clean sorts)
  formed_each s k l (inr none) sorts = inr (form_none Form s none.0, nothing_more l (subst (λ w. SortsRest (AllPairs IsAtMost) w l) none.1 sorts))

  pub features_formed : (features : List ℕ) (given kept sorted : List (List (List Point))) → AreLeftOrEmpty Form given kept → SortsFeatures features kept sorted → FeaturesForm Form features given sorted
  features_formed features given kept sorted left sorts = record {
    forms = sorts.holes;
    formed = zip_chain (IsLeftOrEmpty Form) (SortsRest (AllPairs IsAtMost)) (IsFormOrEmpty Form) formed_each given kept sorts.holes left sorts.holes_sorted;
    in_order = sorts.in_order;
  }

  module _ {P : Type 0} {at : P → Point} {points : List P} {contours shapes : List ℕ} {old_points new_points : List P} {old_contours new_contours old_shapes new_shapes : List ℕ} {n : ℕ} (features : List ℕ)
      (left : AreShapesLeft (AreLeftOrEmpty Form) at (polygon_arrays points contours shapes) (polygon_arrays old_points old_contours old_shapes) (polygon_arrays new_points new_contours new_shapes) n) where
    -- each polygon is left, with or without contours
    pub each_left : length left.list ≡ length shapes - 1
    each_left = zip_length (IsLeftOrEmpty Form) (polygons (map at points) contours shapes) left.list left.left ∙ length-map-range_with_len (nth_contour (parts (map at points) contours) shapes) 0 (length shapes - 1)

    -- arrays that hold them sorted hold the form of the features
    pub features_written : {m : ℕ} → PartsPoints m features → {had_points has_points : List P} {had_contours has_contours had_shapes has_shapes : List ℕ}
        → WritesSorted (SortsFeatures features) at (cleaned left) (polygon_arrays had_points had_contours had_shapes) (polygon_arrays has_points has_contours has_shapes)
        → AreShapesLeft (FeaturesForm Form features) at (polygon_arrays points contours shapes) (polygon_arrays had_points had_contours had_shapes) (polygon_arrays has_points has_contours has_shapes) n
    features_written {m} parted {had_points} {has_points} {had_contours} {has_contours} {had_shapes} {has_shapes} wrote =
        let made = map (map (map at)) wrote.list in
        let sorts = subst (λ w. SortsFeatures features w made) (cleaned_are left) wrote.sorted in
        let counts = features_counts features parted left.list made sorts in
        let reads = read_counts at wrote.list in
        polygons_written at wrote.list (FeaturesForm Form features) points contours shapes had_points has_points had_contours has_contours had_shapes has_shapes n
        (features_formed features (polygons (map at points) contours shapes) left.list made left.left sorts) wrote.held
        (omega (arith, counts.0, reads.0, left.count)) (omega (arith, counts.2, reads.2, left.fewer_points)) (omega (arith, counts.1, reads.1, left.fewer_contours)) (omega (arith, counts.0, reads.0, left.count, left.fewer_shapes))

    -- if no polygon has a contour, what is left of them is the form of their features
    pub nothing_written : HaveNoContours (polygons (map at points) contours shapes) → AreShapesLeft (FeaturesForm Form features) at (polygon_arrays points contours shapes) (polygon_arrays old_points old_contours old_shapes) (polygon_arrays new_points new_contours new_shapes) n
    nothing_written none = record {
      list = left.list;
      left = features_formed features (polygons (map at points) contours shapes) left.list left.list left.left sorts;
      count = left.count;
      fewer_points = left.fewer_points;
      fewer_contours = left.fewer_contours;
      fewer_shapes = left.fewer_shapes;
      written = left.written;
      rest = left.rest;
      contours_are = left.contours_are;
      shapes_are = left.shapes_are;
    }
      where
        takes : (x y : List (List Point)) → IsLeftOrEmpty Form x y → x ≡ [] → y ≡ []
        takes [] y (inl clean) e = cc
        takes (c ∷ s) y (inl clean) e = absurd cc
        takes x y (inr both) e = both.1

        all_empty : (xs ys : List (List (List Point))) → AllZip (IsLeftOrEmpty Form) xs ys → All (λ s. s ≡ []) xs → All (λ s. s ≡ []) ys
        all_empty [] [] zipped own = All-nil (λ s. s ≡ [])
        all_empty [] (y ∷ ys) zipped own = absurd zipped
        all_empty (x ∷ xs) [] zipped own = absurd zipped
        all_empty (x ∷ xs) (y ∷ ys) zipped own = All-cons (λ s. s ≡ []) y ys (takes x y zipped.0 (All-head (λ s. s ≡ []) x xs own)) (all_empty xs ys zipped.1 (All-tail (λ s. s ≡ []) x xs own))

        own : All (λ s. s ≡ []) left.list
        own = all_empty (polygons (map at points) contours shapes) left.list left.left none

        empty : SortsRest (AllPairs IsAtMost) [] []
        empty = record { first = refl; same = IsPermutation-refl []; sorted = λ i j d low high. absurd (omega (arith, high)) }

        each : (l : List (List (List Point))) → All (λ s. s ≡ []) l → AllZip (SortsRest (AllPairs IsAtMost)) l l
        each [] own = tt
        each (s ∷ l) own = (subst (λ w. SortsRest (AllPairs IsAtMost) w w) (sym (All-head (λ s. s ≡ []) s l own)) empty, each l (All-tail (λ s. s ≡ []) s l own))

        in_order : (l : List (List (List Point))) → All (λ s. s ≡ []) l → SortsAll (AllPairs IsShapeAtMost) l l
        in_order l own = record { same = IsPermutation-refl l; sorted = λ i j d low high. subst (λ w. IsShapeAtMost w (get_or l j d)) (sym (own i d (omega (arith, low, high)))) tt }

        sorts : SortsFeatures features left.list left.list
        sorts = record {
          holes = left.list;
          holes_sorted = each left.list own;
          in_order = record {
            each = zip_from (SortsAll (AllPairs IsShapeAtMost)) (nth_contour left.list features) (nth_contour left.list features) 0 (length features - 1)
                (λ k low high. in_order (nth_contour left.list features k) (All-take (λ s. s ≡ []) (offset features (k + 1) - offset features k) _ (All-drop (λ s. s ≡ []) (offset features k) left.list own)));
            before = refl;
            behind = refl;
          };
        }
