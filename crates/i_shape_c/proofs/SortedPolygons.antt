-- The form of polygons: the cleaned polygons, sorted, each with sorted holes.
use Rattle.std.specs.Option.{option_cmp}
use Rattle.std.proofs.Common.{◌≡◌, ℕ, ℤ, ◌+◌, ◌-◌, List, [], ◌∷◌, length, drop, map, Option, Some, None, IsPermutation, IsSorted, refl, sym, ap, ap₂, ◌∙◌, subst, subst₂, arith, Ordering, IsSortedByKey, get_or, slice_get, option_and_then, is_lt, Less, Equal, Greater}
use Rattle.std.specs.Cmp.{IsTotalOrder}
use Rattle.std.specs.Cmp.Lexicographic.{slice_cmp}
use Rattle.std.specs.Ordering.{MatchOrdering, int_cmp, ordering_then}
use Rattle.std.specs.List.{AllZip, AllPairs, sum_by, filter_map}
use Rattle.std.proofs.lemmas.Cmp.{on_total, lists_total}
use Rattle.std.proofs.lemmas.List.{take-map, drop-map, length-map}
use Rattle.std.proofs.lemmas.List.Sorted.{IsPermutation-map, sum_by-IsPermutation}
use Rattle.std.proofs.lemmas.List.Sums.{sum_by-cons, sum_by-take-drop}
use Rattle.std.proofs.lemmas.Simd.{map-map}
use Rattle.i_shape_core.proofs.Forms.ContourOrder.{point_cmp, points_told, Tells, IsContourBefore, contours_told, contour_told}
use Rattle.i_shape_core.proofs.Common.{Point, point_of, IsBefore, IsAtMost}
use Rattle.i_shape.specs.IntPoints.{IntPoint}
use Rattle.i_shape.specs.Paths.{concatenated}
use Rattle.i_shape.specs.CanonicalShapes.{ShapeForm, ListForm, IsShapeAtMost}
use Rattle.i_shape.specs.ShapeAnswers.{Survivors, ShapeClean, ListClean}
use Rattle.i_shape.proofs.Lists.Fewer.{sum_by-one, sum_by-length, sum_by-concatenated}
use Rattle.i_shape.proofs.Shapes.SortedOrders.{shape_told, sorted_pairs}
use Rattle.i_shape_c.specs.Batch.{offset}
use Rattle.i_shape_c.specs.Polygons.{parts, polygons}
use Rattle.i_shape_c.specs.Steps.Sorted.{SortsRest, SortsAll, SortsEachRest, SortsEach, SortsPolygons, SortsFeatures}
use Rattle.i_shape_c.proofs.PolygonLists.{concatenated-map, parts-map}
use Rattle.i_shape_c.proofs.PolygonsLeft.{read_counts}

-- if R turns each answer of A into one of B, it turns what A leaves into what B leaves
survivors_made : {X Y Z : Type 0} (A : X → Option Y → Type 0) (B : X → Option Z → Type 0) (R : Y → Z → Type 0) → ((x : X) → A x None → B x None) → ((x : X) (y : Y) (z : Z) → A x (Some y) → R y z → B x (Some z))
    → (xs : List X) (ys : List Y) (zs : List Z) → Survivors A xs ys → AllZip R ys zs → Survivors B xs zs
survivors_made {X} {Y} {Z} A B R none some xs ys zs (answers, zipped, are) made = go xs answers zs zipped (subst (λ w. AllZip R w zs) are made)
  where
    go : (xs : List X) (answers : List (Option Y)) (zs : List Z) → AllZip A xs answers → AllZip R (filter_map (λ answer. answer) answers) zs → Survivors B xs zs
    go [] [] [] h k = ([], tt, refl)
    go [] [] (z ∷ zs) h k = absurd k
    go [] (a ∷ answers) zs h k = absurd h
    go (x ∷ xs) [] zs h k = absurd h
    go (x ∷ xs) (None ∷ answers) zs h k = let rest = go xs answers zs h.1 k in (None ∷ rest.0, (none x h.0, rest.1), rest.2)
    go (x ∷ xs) (Some y ∷ answers) [] h k = absurd k
    go (x ∷ xs) (Some y ∷ answers) (z ∷ zs) h k = let rest = go xs answers zs h.1 k.1 in (Some z ∷ rest.0, (some x y z h.0 k.0, rest.1), ap (λ l. z ∷ l) rest.2)

module _ (Form : List Point → Option (List Point) → Type 0) where
  pub form_none : (s : List (List Point)) → ShapeClean Form s None → ShapeForm Form s None
  form_none [] clean = clean
  form_none (c ∷ s) clean = clean

  -- a cleaned polygon whose holes are sorted is the form of the polygon
  pub form_some : (s k l : List (List Point)) → ShapeClean Form s (Some k) → SortsRest (AllPairs IsAtMost) k l → ShapeForm Form s (Some l)
  form_some [] [] [] clean sorts = refl
  form_some [] [] (y ∷ l) clean sorts = let first = sorts.first in absurd cc
  form_some [] (x ∷ k) l clean sorts = absurd cc
  form_some (c ∷ s) [] l clean sorts = absurd clean
  form_some (c ∷ s) (x ∷ k) [] clean sorts = let first = sorts.first in absurd cc
  form_some (c ∷ s) (x ∷ k) (y ∷ l) clean sorts =
      let first = sorts.first in
      let same : x ≡ y = cc in
      (subst (λ w. Form c (Some w)) same clean.0, (k, clean.1, sorts.same, sorts.sorted))

  -- cleaned polygons, sorted, are the form of the polygons
  pub form_of_cleaned : (given cleaned sorted : List (List (List Point))) → ListClean Form given cleaned → SortsPolygons cleaned sorted → ListForm Form given sorted
  form_of_cleaned given cleaned sorted clean sorts =
      (sorts.holes, survivors_made (ShapeClean Form) (ShapeForm Form) (SortsRest (AllPairs IsAtMost)) form_none form_some given cleaned sorts.holes clean sorts.holes_sorted, sorts.same, sorts.in_order)

-- if related members have equal values, lists that are related member by member have equal sums
pub zip_sums : {X Y : Type 0} (R : X → Y → Type 0) (f : X → ℕ) (g : Y → ℕ) → ((x : X) (y : Y) → R x y → g y ≡ f x) → (xs : List X) (ys : List Y) → AllZip R xs ys → sum_by g ys ≡ sum_by f xs
zip_sums R f g same [] [] h = refl
zip_sums R f g same [] (y ∷ ys) h = absurd h
zip_sums R f g same (x ∷ xs) [] h = absurd h
zip_sums R f g same (x ∷ xs) (y ∷ ys) h = omega (arith, sum_by-cons f x xs, sum_by-cons g y ys, same x y h.0, zip_sums R f g same xs ys h.1)

-- sorting holes changes no sum over the contours
holes_sum : (f : List Point → ℕ) (s t : List (List Point)) → SortsRest (AllPairs IsAtMost) s t → sum_by f t ≡ sum_by f s
holes_sum f s t sorts = omega (arith, sum_by-take-drop f t 1, sum_by-take-drop f s 1, ap (sum_by f) sorts.first, sum_by-IsPermutation f (drop 1 s) (drop 1 t) sorts.same)

-- if the holes of each polygon are sorted, and then the polygons so that no sum over them changes, the number of
-- polygons, contours and points stays
pub counts_kept : (s holes t : List (List (List Point))) → AllZip (SortsRest (AllPairs IsAtMost)) s holes → ((f : List (List Point) → ℕ) → sum_by f t ≡ sum_by f holes)
    → (length t ≡ length s) × (length (concatenated t) ≡ length (concatenated s)) × (length (concatenated (concatenated t)) ≡ length (concatenated (concatenated s)))
counts_kept s holes t sorts same =
    let kept = λ (f : List Point → ℕ). same (sum_by f) ∙ zip_sums (SortsRest (AllPairs IsAtMost)) (sum_by f) (sum_by f) (holes_sum f) s holes sorts in
    let shapes = zip_sums (SortsRest (AllPairs IsAtMost)) (λ w. 1) (λ w. 1) (λ x y h. refl) s holes sorts in
    let contours = kept (λ w. 1) in
    let points = kept length in (
      omega (arith, shapes, same (λ w. 1), sum_by-one s, sum_by-one t),
      omega (arith, contours, sum_by-concatenated (λ c. 1) s, sum_by-concatenated (λ c. 1) t, sum_by-one (concatenated s), sum_by-one (concatenated t)),
      omega (arith, points, sum_by-concatenated length s, sum_by-concatenated length t, sum_by-length (concatenated s), sum_by-length (concatenated t)),
    )

-- sorting polygons keeps these numbers
pub sorted_counts : (s t : List (List (List Point))) → SortsPolygons s t
    → (length t ≡ length s) × (length (concatenated t) ≡ length (concatenated s)) × (length (concatenated (concatenated t)) ≡ length (concatenated (concatenated s)))
sorted_counts s t sorts = counts_kept s sorts.holes t sorts.holes_sorted (λ f. sum_by-IsPermutation f sorts.holes t sorts.same)

-- if f carries R to S, mapping pairwise related lists gives pairwise related lists
zip_map : {X Y : Type 0} (R : X → X → Type 0) (S : Y → Y → Type 0) (f : X → Y) → ((x y : X) → R x y → S (f x) (f y)) → (xs ys : List X) → AllZip R xs ys → AllZip S (map f xs) (map f ys)
zip_map R S f made [] [] h = tt
zip_map R S f made [] (y ∷ ys) h = absurd h
zip_map R S f made (x ∷ xs) [] h = absurd h
zip_map R S f made (x ∷ xs) (y ∷ ys) h = (made x y h.0, zip_map R S f made xs ys h.1)

-- comparing points of C returns the order of the points that they represent
pub points_in_order : {P I : Type 0} (value : I → ℤ) (point : P → IntPoint I) (coordinate_cmp : I → I → Ordering) (order : (a b : I) → coordinate_cmp a b ≡ int_cmp (value a) (value b)) (cmp : P → P → Ordering)
    → ((p q : P) → cmp p q ≡ point_cmp value coordinate_cmp order (point p) (point q)) → Tells cmp (λ p. point_of value (point p)) IsBefore
points_in_order value point coordinate_cmp order cmp same p q =
    subst (λ o. MatchOrdering o (IsBefore (point_of value (point p)) (point_of value (point q))) (point_of value (point p) ≡ point_of value (point q)) (IsBefore (point_of value (point q)) (point_of value (point p)))) (sym (same p q))
    (points_told value coordinate_cmp order (point p) (point q))

map-map₂ : {X Y Z : Type 0} (f : Y → Z) (g : X → Y) (lists : List (List X)) → map (map f) (map (map g) lists) ≡ map (map (λ x. f (g x))) lists
map-map₂ f g [] = refl
map-map₂ f g (x ∷ xs) = ap₂ ◌∷◌ (map-map f g x) (map-map₂ f g xs)

-- a polygon's sort key: the first point of its outer ring, and then itself
abbrev pub keyed : {P B D : Type 0} → (B → List P) → (D → List B) → D → Option P × D
keyed ring rings d = (option_and_then (λ b. slice_get (ring b) 0) (slice_get (rings d) 0), d)

-- Lists of rings, and lists of these, as the program has them.
module _ {P B D : Type 0} (ring : B → List P) (rings : D → List B) (at : P → Point) (cmp : P → P → Ordering) (told : Tells cmp at IsBefore) (total : IsTotalOrder cmp) where
  abbrev read : B → List Point
  read b = map at (ring b)

  abbrev pub ring_cmp : B → B → Ordering
  ring_cmp x y = slice_cmp cmp (ring x) (ring y)

  abbrev pub shape_cmp : D → D → Ordering
  shape_cmp x y = slice_cmp ring_cmp (rings x) (rings y)

  -- polygons sorted by that key are sorted
  pub sorted_by_first : (sorted : List D) → IsSortedByKey (keyed ring rings) (λ x y. ordering_then (option_cmp cmp x.0 y.0) (shape_cmp x.1 y.1)) sorted → IsSorted shape_cmp sorted
  sorted_by_first sorted up k d low high = ap is_lt (sym (by_rings (rings (get_or sorted (k + 1) d)) (rings (get_or sorted k d)))) ∙ up k d low high
    where
      again : (o r s : Ordering) → ordering_then o (ordering_then (ordering_then o r) s) ≡ ordering_then (ordering_then o r) s
      again Less r s = refl
      again Equal r s = refl
      again Greater r s = refl

      by_points : (x y : List P) (o : Ordering) → ordering_then (option_cmp cmp (slice_get x 0) (slice_get y 0)) (ordering_then (slice_cmp cmp x y) o) ≡ ordering_then (slice_cmp cmp x y) o
      by_points [] [] o = refl
      by_points [] (q ∷ y) o = refl
      by_points (p ∷ x) [] o = refl
      by_points (p ∷ x) (q ∷ y) o = again (cmp p q) (slice_cmp cmp x y) o

      none_first : (y : List P) → ordering_then (option_cmp cmp None (slice_get y 0)) Less ≡ Less
      none_first [] = refl
      none_first (q ∷ y) = refl

      none_second : (x : List P) → ordering_then (option_cmp cmp (slice_get x 0) None) Greater ≡ Greater
      none_second [] = refl
      none_second (p ∷ x) = refl

      by_rings : (xs ys : List B) → ordering_then (option_cmp cmp (option_and_then (λ b. slice_get (ring b) 0) (slice_get xs 0)) (option_and_then (λ b. slice_get (ring b) 0) (slice_get ys 0))) (slice_cmp ring_cmp xs ys) ≡ slice_cmp ring_cmp xs ys
      by_rings [] [] = refl
      by_rings [] (y ∷ ys) = none_first (ring y)
      by_rings (x ∷ xs) [] = none_second (ring x)
      by_rings (x ∷ xs) (y ∷ ys) = by_points (ring x) (ring y) (slice_cmp ring_cmp xs ys)

  ring_told : Tells ring_cmp read IsContourBefore
  ring_told x y = contours_told cmp at told (ring x) (ring y)

  ring_total : IsTotalOrder ring_cmp
  ring_total = on_total ring (lists_total total)

  rest_sorted : (old new : List B) → SortsRest (IsSorted ring_cmp) old new → SortsRest (AllPairs IsAtMost) (map read old) (map read new)
  rest_sorted old new sorts = record {
    first = take-map read 1 new ∙ ap (map read) sorts.first ∙ sym (take-map read 1 old);
    same = rw (drop-map read 1 old, drop-map read 1 new) (IsPermutation-map read (drop 1 old) (drop 1 new) sorts.same);
    sorted = rw (drop-map read 1 new) (sorted_pairs ring_cmp read IsAtMost ring_total (contour_told ring_cmp read ring_told) (drop 1 new) sorts.sorted);
  }

  -- where the rings of each polygon are sorted but the first, so are those that they are made into
  pub rests_sorted : (old new : List B) (offsets : List ℕ) → SortsEachRest (IsSorted ring_cmp) old new offsets → SortsEachRest (AllPairs IsAtMost) (map read old) (map read new) offsets
  rests_sorted old new offsets each = record {
    each = rw (parts-map read old offsets, parts-map read new offsets) (zip_map (SortsRest (IsSorted ring_cmp)) (SortsRest (AllPairs IsAtMost)) (map read) rest_sorted (parts old offsets) (parts new offsets) each.each);
    before = take-map read (offset offsets 0) new ∙ ap (map read) each.before ∙ sym (take-map read (offset offsets 0) old);
    behind = drop-map read (offset offsets (length offsets - 1)) new ∙ ap (map read) each.behind ∙ sym (drop-map read (offset offsets (length offsets - 1)) old);
  }

  -- sorting each polygon's rings except the first, and then the polygons, sorts the polygons
  pub polygons_sorted : (old new : List B) (offsets : List ℕ) (made sorted : List D) → SortsEachRest (IsSorted ring_cmp) old new offsets → map rings made ≡ parts new offsets → IsPermutation made sorted → IsSorted shape_cmp sorted
      → SortsPolygons (map (map read) (parts old offsets)) (map (λ d. map read (rings d)) sorted)
  polygons_sorted old new offsets made sorted each are same up =
      let shape = λ (d : D). map read (rings d) in
      let is : map shape made ≡ map (map read) (parts new offsets) = sym (map-map (map read) rings made) ∙ ap (map (map read)) are in
      record {
        holes = map (map read) (parts new offsets);
        holes_sorted = zip_map (SortsRest (IsSorted ring_cmp)) (SortsRest (AllPairs IsAtMost)) (map read) rest_sorted (parts old offsets) (parts new offsets) each.each;
        same = rw is at (IsPermutation-map shape made sorted same);
        in_order = sorted_pairs shape_cmp shape IsShapeAtMost (on_total rings (lists_total ring_total)) (λ x y less. shape_told ring_cmp read ring_told (rings x) (rings y) less) sorted up;
      }

  all_sorted : (old new : List D) → SortsAll (IsSorted shape_cmp) old new → SortsAll (AllPairs IsShapeAtMost) (map (λ d. map read (rings d)) old) (map (λ d. map read (rings d)) new)
  all_sorted old new sorts = record {
    same = IsPermutation-map (λ d. map read (rings d)) old new sorts.same;
    sorted = sorted_pairs shape_cmp (λ d. map read (rings d)) IsShapeAtMost (on_total rings (lists_total ring_total)) (λ x y less. shape_told ring_cmp read ring_told (rings x) (rings y) less) new sorts.sorted;
  }

  -- sorting each polygon's rings except the first, and then the polygons of each feature, sorts the features
  pub features_sorted : (old new : List B) (offsets : List ℕ) (made sorted : List D) (features : List ℕ) → SortsEachRest (IsSorted ring_cmp) old new offsets → map rings made ≡ parts new offsets → SortsEach (IsSorted shape_cmp) made sorted features
      → SortsFeatures features (map (map read) (parts old offsets)) (map (λ d. map read (rings d)) sorted)
  features_sorted old new offsets made sorted features each are up =
      let shape = λ (d : D). map read (rings d) in
      let is : map shape made ≡ map (map read) (parts new offsets) = sym (map-map (map read) rings made) ∙ ap (map (map read)) are in
      record {
        holes = map (map read) (parts new offsets);
        holes_sorted = zip_map (SortsRest (IsSorted ring_cmp)) (SortsRest (AllPairs IsAtMost)) (map read) rest_sorted (parts old offsets) (parts new offsets) each.each;
        in_order = subst (λ w. SortsEach (AllPairs IsShapeAtMost) w (map shape sorted) features) is (record {
          each = rw (parts-map shape made features, parts-map shape sorted features) (zip_map (SortsAll (IsSorted shape_cmp)) (SortsAll (AllPairs IsShapeAtMost)) (map shape) all_sorted (parts made features) (parts sorted features) up.each);
          before = take-map shape (offset features 0) sorted ∙ ap (map shape) up.before ∙ sym (take-map shape (offset features 0) made);
          behind = drop-map shape (offset features (length features - 1)) sorted ∙ ap (map shape) up.behind ∙ sym (drop-map shape (offset features (length features - 1)) made);
        });
      }

  -- the same of polygons read from arrays, which keep the number of contours and points
  pub made_sorted : (Sorts : List (List (List Point)) → List (List (List Point)) → Type 0)
      → ((s t : List (List (List Point))) → Sorts s t → (length t ≡ length s) × (length (concatenated t) ≡ length (concatenated s)) × (length (concatenated (concatenated t)) ≡ length (concatenated (concatenated s))))
      → (points : List P) (contours shapes : List ℕ) (old : List B) (sorted : List D) → map ring old ≡ parts points contours → Sorts (map (map read) (parts old shapes)) (map (λ d. map read (rings d)) sorted)
      → Sorts (map (map (map at)) (polygons points contours shapes)) (map (map (map at)) (map (map ring) (map rings sorted)))
      × (length (concatenated (map rings sorted)) ≡ length (concatenated (polygons points contours shapes)))
      × (length (concatenated (map ring (concatenated (map rings sorted)))) ≡ length (concatenated (concatenated (polygons points contours shapes))))
  made_sorted Sorts kept points contours shapes old sorted are up =
      let given = polygons points contours shapes in
      let left = map (map ring) (map rings sorted) in
      let given_read : map (map (map at)) given ≡ map (map read) (parts old shapes) = ap (λ w. map (map (map at)) (parts w shapes)) (sym are) ∙ ap (map (map (map at))) (parts-map ring old shapes) ∙ map-map₂ (map at) ring (parts old shapes) in
      let left_read : map (map (map at)) left ≡ map (λ d. map read (rings d)) sorted = map-map₂ (map at) ring (map rings sorted) ∙ map-map (map read) rings sorted in
      let sorts : Sorts (map (map (map at)) given) (map (map (map at)) left) = subst₂ Sorts (sym given_read) (sym left_read) up in
      let counts = kept (map (map (map at)) given) (map (map (map at)) left) sorts in
      let given_counts = read_counts at given in
      let left_counts = read_counts at left in
      let flat : concatenated left ≡ map ring (concatenated (map rings sorted)) = concatenated-map ring (map rings sorted) in (
        sorts,
        omega (arith, counts.1, given_counts.1, left_counts.1, ap length flat, length-map (concatenated (map rings sorted)) ring),
        omega (arith, counts.2, given_counts.2, left_counts.2, ap (λ w. length (concatenated w)) flat),
      )
