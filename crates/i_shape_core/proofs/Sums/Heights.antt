-- Points in the order of their heights, and what an edge adds to their totals.
use Rattle.std.proofs.Common.{negsuc, cond, [], ◌∷◌, ◌++◌, suc, ◌^◌, take, length-take, length-drop, length-append, zero, rules, replicate, ◌≡◌, ℕ, ◌+◌, ◌-◌, ◌<◌, ◌≤◌, List, length, get_or, set, map, drop, ℤ, pos, ◌+ℤ◌, ◌≤ℤ◌, int_lt, w64, to_z, of_z, FitsSigned, refl, sym, ap, ap₂, subst, ◌∙◌, arith, inl, inr, Bool, true, false, IsPermutation, IsSortedByKey, IsSortedBy, int_cmp, is_lt, Ordering, All, Contains}
use Rattle.std.proofs.lemmas.Int.{ints, to_z-of_z, int_wrap_fits, SFits-int_wrap, int_wrap-add_same}
use Rattle.std.proofs.lemmas.Bool.{cases_lt, cases_eq}
use Rattle.std.proofs.lemmas.List.{get_or-map, length-map, get_or-set_same, get_or-set_other, get_or_default, take_more, same_lists, get_or_append_left, get_or-append_right, get_or-drop, get_or-replicate, get_or_past, length-replicate}
use Rattle.std.proofs.lemmas.List.Elements.{All-get_or, Contains-get_or}
use Rattle.std.proofs.lemmas.List.Sorted.{All-permutation, Contains-permutation, IsPermutation-map, sorted_far, ranks_by}
use Rattle.std.proofs.lemmas.Cmp.{int_cmp_total}
use Rattle.std.proofs.Math.IntN.{+ℤ_idl}
use Rattle.i_shape_core.proofs.Arithmetic.Products.{reach-fits}
use Rattle.std.specs.Int.{Width, int_wrap}
use Rattle.i_shape_core.proofs.Common.{Point, origin, cross, point_at, is_above, point_of, contour_of, IsSafe, IntPoint}
use Rattle.i_shape_core.specs.Winding.{winding, winding_of_edge}
use Rattle.i_shape_core.specs.Heights.{asked_points, IsRising, IsPlaceOf, IsAdded, AllFit, asks}
use Rattle.i_shape_core.specs.declared.measure.heights.Asked.{Asked}
use Rattle.i_shape_core.proofs.Plane.Contours.{rest-read, rest-none}
use Rattle.i_shape_core.proofs.Plane.CrossProducts.{edge}
use Rattle.i_shape_core.proofs.Sums.Inside.{right_when}
use Rattle.i_shape_core.proofs.Sums.WindingWalk.{winding_over, adds_nothing, no_points, walk_all, winding_half}

-- ---- reading
pub asked-length : {I : Type 0} (value : I → ℤ) (qs : List (Asked I)) → length (asked_points value qs) ≡ length qs
asked-length value qs = length-map qs (λ q. point_of value q.point)

pub asked-read : {I : Type 0} (value : I → ℤ) (qs : List (Asked I)) (k : ℕ) (d : Asked I) → k < length qs → point_at (asked_points value qs) k ≡ point_of value (get_or qs k d).point
asked-read value qs k d within = get_or-map (λ r. point_of value r.point) qs k d origin within

pub asked-safe : {I : Type 0} (w : Width) (value : I → ℤ) (qs : List (Asked I)) (k : ℕ) (d : Asked I) → All (IsSafe w) (asked_points value qs) → k < length qs → IsSafe w (point_of value (get_or qs k d).point)
asked-safe w value qs k d safe within =
    let long : k < length (asked_points value qs) = omega (arith, asked-length value qs) in
    subst (IsSafe w) (asked-read value qs k d within) (All-get_or (IsSafe w) (asked_points value qs) k origin long safe)

-- ---- one edge
-- an edge with both ends on one side of the height of p adds nothing
pub flat_adds : (p a b : Point) (s t : Bool) → is_above p a ≡ s → is_above p b ≡ t → s ≡ t → winding_of_edge p (edge a b) ≡ pos 0
flat_adds p a b true true e f g = sym (adds_nothing p a b false (sym (right_when p a b true true e f)) refl)
flat_adds p a b false false e f g = sym (adds_nothing p a b false (sym (right_when p a b false false e f)) refl)
flat_adds p a b true false e f g = absurd (cc)
flat_adds p a b false true e f g = absurd (cc)

-- an edge that rises past the height of p adds 1 if `cross a p b` is negative, otherwise 0
pub rise_adds : (p a b : Point) (r : Bool) → is_above p a ≡ false → is_above p b ≡ true → r ≡ int_lt (cross a p b) (pos 0) → winding_of_edge p (edge a b) ≡ cond r (pos 1) (pos 0)
unfolding winding_of_edge
rise_adds p a b r e f h = let passed = right_when p a b false true e f in rw (h, passed, e, f) refl

-- an edge that falls past the height of p adds -1 if `cross b p a` is negative, otherwise 0
pub fall_adds : (p a b : Point) (r : Bool) → is_above p a ≡ true → is_above p b ≡ false → r ≡ int_lt (cross b p a) (pos 0) → winding_of_edge p (edge a b) ≡ cond r (negsuc 0) (pos 0)
unfolding winding_of_edge
fall_adds p a b r e f h = let passed = right_when p a b true false e f in rw (h, passed, e, f) refl

-- a point above p is above p if it is raised
pub lifted : (p a b : Point) → a.y ≤ℤ b.y → is_above p a ≡ true → is_above p b ≡ true
lifted p a b up h = grind (arith, ints)

-- a point not above p isn't above a point higher than p
pub still_below : (p q a : Point) → p.y ≤ℤ q.y → is_above p a ≡ false → is_above q a ≡ false
still_below p q a up h = grind (arith, ints)

pub still_above : (p q a : Point) → p.y ≤ℤ q.y → is_above q a ≡ true → is_above p a ≡ true
still_above p q a up h = search (rules, ints)

-- ---- totals
abbrev pub IsSum : (ps : List Point) → (Point → ℤ) → List ℤ → List ℤ → ℕ → Type 0
IsSum ps f before after j = int_wrap w64 (get_or after j (pos 0)) ≡ int_wrap w64 (get_or before j (pos 0) +ℤ f (point_at ps j))

wrapped : (z : ℤ) → int_wrap w64 (int_wrap w64 z) ≡ int_wrap w64 z
wrapped z = int_wrap_fits w64 (int_wrap w64 z) (SFits-int_wrap w64 z)

grouped : (a b c : ℤ) → a +ℤ b +ℤ c ≡ a +ℤ (b +ℤ c)
grouped a b c = omega (arith, ints)

none_more : (t z : ℤ) → z ≡ pos 0 → t ≡ t +ℤ z
none_more t z e = omega (arith, ints)

-- the program's sum of numbers that fit is their wrapped sum
pub written : (t r z f : ℤ) → FitsSigned w64 t → FitsSigned w64 r → FitsSigned w64 z → z ≡ f → r ≡ int_wrap w64 (to_z w64 (of_z w64 t) +ℤ to_z w64 (of_z w64 z)) → to_z w64 (of_z w64 r) ≡ int_wrap w64 (t +ℤ f)
written t r z f was fits small same e =
    to_z-of_z w64 r fits ∙ e ∙ ap₂ (λ (x y : ℤ). int_wrap w64 (x +ℤ y)) (to_z-of_z w64 t was) (to_z-of_z w64 z small ∙ same)

-- writing a number that fits keeps all totals within 64 bits
pub still_fit : (totals : List ℤ) (k : ℕ) (r : ℤ) → k < length totals → FitsSigned w64 r → AllFit totals → AllFit (set totals k (to_z w64 (of_z w64 r)))
still_fit totals k r within fits all j = elim (cases_eq j k) [
  | inl e ↦ subst (λ (z : ℤ). FitsSigned w64 z) (sym (ap (λ (i : ℕ). get_or (set totals k (to_z w64 (of_z w64 r))) i (pos 0)) e ∙ get_or-set_same totals k _ (pos 0) within ∙ to_z-of_z w64 r fits)) fits
  | inr n ↦ subst (λ (z : ℤ). FitsSigned w64 z) (sym (get_or-set_other totals k j _ (pos 0) n)) (all j)
]

-- an unchanged total is right if f is 0 at its point
pub untouched : (ps : List Point) (f : Point → ℤ) (before after : List ℤ) (j : ℕ) → get_or after j (pos 0) ≡ get_or before j (pos 0) → f (point_at ps j) ≡ pos 0 → IsSum ps f before after j
untouched ps f before after j e h = ap (int_wrap w64) (e ∙ none_more (get_or before j (pos 0)) (f (point_at ps j)) h)

-- writing the wrapped sum at index k makes that total right
pub touched : (ps : List Point) (f : Point → ℤ) (before now : List ℤ) (k : ℕ) (r : ℤ) → k < length now → get_or now k (pos 0) ≡ get_or before k (pos 0) → r ≡ int_wrap w64 (get_or now k (pos 0) +ℤ f (point_at ps k))
    → IsSum ps f before (set now k r) k
touched ps f before now k r within e h =
    ap (int_wrap w64) (get_or-set_same now k r (pos 0) within ∙ h) ∙ wrapped _ ∙ ap (λ (z : ℤ). int_wrap w64 (z +ℤ f (point_at ps k))) e

-- writing at index k keeps the other totals right
pub others : (ps : List Point) (f : Point → ℤ) (before now : List ℤ) (k j : ℕ) (r : ℤ) → (j ≡ k → ⊥) → IsSum ps f before now j → IsSum ps f before (set now k r) j
others ps f before now k j r other h = ap (int_wrap w64) (get_or-set_other now k j r (pos 0) other) ∙ h

-- ---- a rise
pub rise-first : (ps : List Point) (a b : Point) (k : ℕ) (totals : List ℤ) → a.y ≤ℤ b.y → IsPlaceOf ps a k → (j : ℕ) → j < k → IsSum ps (λ p. winding_of_edge p (edge a b)) totals totals j
rise-first ps a b k totals up here j h =
    let below = here.below j h in
    untouched ps (λ p. winding_of_edge p (edge a b)) totals totals j refl (flat_adds (point_at ps j) a b true true below (lifted (point_at ps j) a b up below) refl)

-- if b is above the first k points and point k, it is above the first k + 1
pub rise-below : (ps : List Point) (b : Point) (k : ℕ) → ((j : ℕ) → j < k → is_above (point_at ps j) b ≡ true) → is_above (point_at ps k) b ≡ true → (j : ℕ) → j < k + 1 → is_above (point_at ps j) b ≡ true
rise-below ps b k all one j h = elim (cases_eq j k) [
  | inl e ↦ ap (λ (i : ℕ). is_above (point_at ps i) b) e ∙ one
  | inr n ↦ all j (omega (arith, n))
]

pub rise-done : (ps : List Point) (f : Point → ℤ) (before now : List ℤ) (k : ℕ) (r : ℤ) → k < length now → ((j : ℕ) → j < k → IsSum ps f before now j) → ((j : ℕ) → k ≤ j → get_or now j (pos 0) ≡ get_or before j (pos 0))
    → r ≡ int_wrap w64 (get_or now k (pos 0) +ℤ f (point_at ps k)) → (j : ℕ) → j < k + 1 → IsSum ps f before (set now k r) j
rise-done ps f before now k r within done left e j h = elim (cases_eq j k) [
  | inl g ↦ subst (IsSum ps f before (set now k r)) (sym g) (touched ps f before now k r within (left k (omega arith)) e)
  | inr n ↦ others ps f before now k j r n (done j (omega (arith, n)))
]

pub rise-left : (before now : List ℤ) (k : ℕ) (r : ℤ) → ((j : ℕ) → k ≤ j → get_or now j (pos 0) ≡ get_or before j (pos 0)) → (j : ℕ) → k + 1 ≤ j → get_or (set now k r) j (pos 0) ≡ get_or before j (pos 0)
rise-left before now k r left j h = get_or-set_other now k j r (pos 0) (λ e. omega (arith, e, h)) ∙ left j (omega arith)

-- if b isn't above point k of rising points, it is above none from k on
pub rise-above : (ps : List Point) (b : Point) (k : ℕ) → IsRising ps → (k < length ps → is_above (point_at ps k) b ≡ false) → (j : ℕ) → k ≤ j → j < length ps → is_above (point_at ps j) b ≡ false
rise-above ps b k rising stop j h within = still_below (point_at ps k) (point_at ps j) b (rising.rises k j h within) (stop (omega arith))

pub risen : (ps : List Point) (a b : Point) (from k : ℕ) (before now : List ℤ) → from ≤ k → IsPlaceOf ps a from → ((j : ℕ) → j < k → IsSum ps (λ p. winding_of_edge p (edge a b)) before now j) → ((j : ℕ) → k ≤ j → get_or now j (pos 0) ≡ get_or before j (pos 0))
    → ((j : ℕ) → k ≤ j → j < length ps → is_above (point_at ps j) b ≡ false) → IsAdded ps (λ p. winding_of_edge p (edge a b)) before now
risen ps a b from k before now later here done left above = record {
  each = λ j within. elim (cases_lt j k) [
    | inl h ↦ done j h
    | inr h ↦ untouched ps (λ p. winding_of_edge p (edge a b)) before now j (left j h) (flat_adds (point_at ps j) a b false false (here.above j (omega arith) within) (above j h within) refl)
  ];
}

-- ---- a fall
-- a point not above p isn't above p if it is lowered
pub lowered : (p a b : Point) → b.y ≤ℤ a.y → is_above p a ≡ false → is_above p b ≡ false
lowered p a b down h = search rules

-- before a fall from a to b, the totals from place k on are right already: the edge adds nothing to a point that a
-- isn't above
pub fall-first : (ps : List Point) (a b : Point) (k : ℕ) (totals : List ℤ) → b.y ≤ℤ a.y → IsPlaceOf ps a k → (j : ℕ) → k ≤ j → j < length ps → IsSum ps (λ p. winding_of_edge p (edge a b)) totals totals j
fall-first ps a b k totals down here j h within =
    let above = here.above j h within in
    untouched ps (λ p. winding_of_edge p (edge a b)) totals totals j refl (flat_adds (point_at ps j) a b false false above (lowered (point_at ps j) a b down above) refl)

-- if b is above no point from i + 1 on nor above point i, it is above none from i on
pub fall-above : (ps : List Point) (b : Point) (k i : ℕ) → k ≡ i + 1 → ((j : ℕ) → k ≤ j → j < length ps → is_above (point_at ps j) b ≡ false) → is_above (point_at ps i) b ≡ false → (j : ℕ) → i ≤ j → j < length ps → is_above (point_at ps j) b ≡ false
fall-above ps b k i next all one j h within = elim (cases_eq j i) [
  | inl e ↦ ap (λ (n : ℕ). is_above (point_at ps n) b) e ∙ one
  | inr n ↦ all j (omega (arith, n)) within
]

pub fall-done : (ps : List Point) (f : Point → ℤ) (before now : List ℤ) (k i : ℕ) (r : ℤ) → k ≡ i + 1 → i < length now → ((j : ℕ) → k ≤ j → j < length ps → IsSum ps f before now j) → ((j : ℕ) → j < k → get_or now j (pos 0) ≡ get_or before j (pos 0))
    → r ≡ int_wrap w64 (get_or now i (pos 0) +ℤ f (point_at ps i)) → (j : ℕ) → i ≤ j → j < length ps → IsSum ps f before (set now i r) j
fall-done ps f before now k i r next within done left e j h inside = elim (cases_eq j i) [
  | inl g ↦ subst (IsSum ps f before (set now i r)) (sym g) (touched ps f before now i r within (left i (omega arith)) e)
  | inr n ↦ others ps f before now i j r n (done j (omega (arith, n)) inside)
]

pub fall-left : (before now : List ℤ) (k i : ℕ) (r : ℤ) → k ≡ i + 1 → ((j : ℕ) → j < k → get_or now j (pos 0) ≡ get_or before j (pos 0)) → (j : ℕ) → j < i → get_or (set now i r) j (pos 0) ≡ get_or before j (pos 0)
fall-left before now k i r next left j h = get_or-set_other now i j r (pos 0) (λ e. omega (arith, e, h)) ∙ left j (omega arith)

-- if b is above point k - 1 of rising points, it is above all before k
pub fall-below : (ps : List Point) (b : Point) (k : ℕ) → k ≤ length ps → IsRising ps → (0 < k → is_above (point_at ps (k - 1)) b ≡ true) → (j : ℕ) → j < k → is_above (point_at ps j) b ≡ true
fall-below ps b k inside rising stop j h = still_above (point_at ps j) (point_at ps (k - 1)) b (rising.rises j (k - 1) (omega arith) (omega arith)) (stop (omega arith))

pub fallen : (ps : List Point) (a b : Point) (from k : ℕ) (before now : List ℤ) → k ≤ from → IsPlaceOf ps a from → ((j : ℕ) → k ≤ j → j < length ps → IsSum ps (λ p. winding_of_edge p (edge a b)) before now j) → ((j : ℕ) → j < k → get_or now j (pos 0) ≡ get_or before j (pos 0))
    → ((j : ℕ) → j < k → is_above (point_at ps j) b ≡ true) → IsAdded ps (λ p. winding_of_edge p (edge a b)) before now
fallen ps a b from k before now sooner here done left below = record {
  each = λ j within. elim (cases_lt j k) [
    | inl h ↦ untouched ps (λ p. winding_of_edge p (edge a b)) before now j (left j h) (flat_adds (point_at ps j) a b true true (here.below j (omega arith)) (below j h) refl)
    | inr h ↦ done j h within
  ];
}

-- ---- a contour
module _ {I : Type 0} (value : I → ℤ) (ps : List Point) (before : List ℤ) (cs : List (IntPoint I)) (last : IntPoint I) where
  -- the totals now, with what the edges left add, are the totals before with what all edges add
  abbrev pub IsTold : Point → List Point → List ℤ → Type 0
  IsTold q rest now = (k : ℕ) → k < length ps → int_wrap w64 (get_or now k (pos 0) +ℤ winding_over (point_at ps k) q rest)
      ≡ int_wrap w64 (get_or before k (pos 0) +ℤ winding_over (point_at ps k) (point_of value last) (contour_of value cs))

  pub told-more : (i : ℕ) (start x : IntPoint I) (now after : List ℤ) → i < length cs → x ≡ get_or cs i x → IsAdded ps (λ p. winding_of_edge p (edge (point_of value start) (point_of value x))) now after
      → IsTold (point_of value start) (contour_of value (drop i cs)) now → IsTold (point_of value x) (contour_of value (drop (i + 1) cs)) after
  told-more i start x now after within read added told k inside =
      let p = point_at ps k in
      let rest = winding_over p (point_of value x) (contour_of value (drop (i + 1) cs)) in
      let w = winding_of_edge p (edge (point_of value start) (point_of value x)) in
      int_wrap-add_same w64 (get_or after k (pos 0)) (get_or now k (pos 0) +ℤ w) rest (added.each k inside)
      ∙ ap (int_wrap w64) (grouped (get_or now k (pos 0)) w rest)
      ∙ ap (λ (qs : List Point). int_wrap w64 (get_or now k (pos 0) +ℤ winding_over p (point_of value start) qs)) (sym (rest-read value cs i x within read))
      ∙ told k inside

  pub told-all : (i : ℕ) (start : IntPoint I) (now : List ℤ) → length cs ≤ i → 0 < length cs → last ≡ get_or cs (length cs - 1) last → IsTold (point_of value start) (contour_of value (drop i cs)) now → IsAdded ps (winding (contour_of value cs)) before now
  told-all i start now past some e told = record {
    each = λ k inside.
        let p = point_at ps k in
        ap (int_wrap w64) (none_more (get_or now k (pos 0)) (winding_over p (point_of value start) (contour_of value (drop i cs))) (ap (λ (qs : List Point). winding_over p (point_of value start) qs) (rest-none value cs i past)))
        ∙ told k inside ∙ ap (λ (z : ℤ). int_wrap w64 (get_or before k (pos 0) +ℤ z)) (walk_all value p cs last some e);
  }

-- a contour without points adds nothing
pub none-told : {I : Type 0} (value : I → ℤ) (ps : List Point) (totals : List ℤ) (cs : List (IntPoint I)) → length cs ≤ 0 → IsAdded ps (winding (contour_of value cs)) totals totals
none-told value ps totals cs none = record { each = λ k inside. ap (int_wrap w64) (none_more (get_or totals k (pos 0)) _ (sym (no_points value (point_at ps k) cs none))) }

-- if a tests less than b, it is at most b
pub goes_up : (a b : ℤ) (t : Bool) → t ≡ int_lt a b → t ≡ true → a ≤ℤ b
goes_up a b t e h = let k : int_lt a b ≡ true = sym e ∙ h in omega (arith, ints)

pub goes_down : (a b : ℤ) (t : Bool) → t ≡ int_lt a b → t ≡ false → b ≤ℤ a
goes_down a b t e h = let k : int_lt a b ≡ false = sym e ∙ h in omega (arith, ints)

-- ---- the points with their indices
module _ {I : Type 0} where
  asks-push : (n : ℕ) (ps : List (IntPoint I)) (p : IntPoint I) → asks n (ps ++ p ∷ []) ≡ asks n ps ++ record { point = p; place = n + length ps } ∷ []
  asks-push n [] p = ap (λ (m : ℕ). record { point = p; place = m } ∷ []) (omega arith)
  asks-push n (q ∷ ps) p =
      ap (λ (qs : List (Asked I)). record { point = q; place = n } ∷ qs)
      (asks-push (n + 1) ps p ∙ ap (λ (m : ℕ). asks (n + 1) ps ++ record { point = p; place = m } ∷ []) (omega arith))

  -- the first i + 1 points with their indices are the first i and then point i
  pub asks-more : (ps : List (IntPoint I)) (i : ℕ) (p : IntPoint I) → i < length ps → p ≡ get_or ps i p → asks 0 (take (i + 1) ps) ≡ asks 0 (take i ps) ++ record { point = p; place = i } ∷ []
  asks-more ps i p within read =
      let many : length (take i ps) ≡ i = length-take i ps ∙ omega (arith, within) in
      ap (asks 0) (take_more ps i p within ∙ ap (λ (q : IntPoint I). take i ps ++ q ∷ []) (sym read))
      ∙ asks-push 0 (take i ps) p ∙ ap (λ (m : ℕ). asks 0 (take i ps) ++ record { point = p; place = m } ∷ []) (omega (arith, many))

  pub asks-length : (n : ℕ) (ps : List (IntPoint I)) → length (asks n ps) ≡ length ps
  asks-length n [] = refl
  asks-length n (p ∷ ps) = ap (λ (m : ℕ). suc m) (asks-length (n + 1) ps)

  pub asks-read : (n : ℕ) (ps : List (IntPoint I)) (k : ℕ) (d : Asked I) (e : IntPoint I) → k < length ps → get_or (asks n ps) k d ≡ record { point = get_or ps k e; place = n + k }
  asks-read n [] k d e h = absurd (omega arith)
  asks-read n (p ∷ ps) zero d e h = ap (λ (m : ℕ). record { point = p; place = m }) (omega arith)
  asks-read n (p ∷ ps) (suc k) d e h = asks-read (n + 1) ps k d e (omega arith) ∙ ap (λ (m : ℕ). record { point = get_or ps k e; place = m }) (omega arith)

  asks-first : (ps : List (IntPoint I)) (k : ℕ) (d : Asked I) (e : IntPoint I) → k < length ps → get_or (asks 0 ps) k d ≡ record { point = get_or ps k e; place = k }
  asks-first ps k d e h = asks-read 0 ps k d e h ∙ ap (λ (m : ℕ). record { point = get_or ps k e; place = m }) (omega arith)

  -- q is a point of ps with its index
  pub record IsOf (ps : List (IntPoint I)) (q : Asked I) : Type 0 where
    pub within : q.place < length ps
    pub is : (e : IntPoint I) → q.point ≡ get_or ps q.place e

  pub all-of : (ps : List (IntPoint I)) → All (IsOf ps) (asks 0 ps)
  all-of ps k d h =
      let inside : k < length ps = omega (arith, asks-length 0 ps) in
      subst (IsOf ps) (sym (asks-first ps k d d.point inside)) (record { within = inside; is = λ e. get_or_default ps k d.point e inside })

  pub asked-of : (ps : List (IntPoint I)) (asked : List (Asked I)) → IsPermutation (asks 0 ps) asked → All (IsOf ps) asked
  asked-of ps asked moved = All-permutation (IsOf ps) (asks 0 ps) asked moved (all-of ps)

  -- a permutation of the points with their indices contains each point with its index
  pub each-asked : (ps : List (IntPoint I)) (asked : List (Asked I)) (k : ℕ) (e : IntPoint I) → IsPermutation (asks 0 ps) asked → k < length ps → Contains asked (record { point = get_or ps k e; place = k })
  each-asked ps asked k e moved inside =
      let at : get_or (asks 0 ps) k (record { point = e; place = k }) ≡ record { point = get_or ps k e; place = k } = asks-first ps k _ e inside in
      Contains-permutation (asks 0 ps) asked (record { point = get_or ps k e; place = k }) moved
      (subst (Contains (asks 0 ps)) at (Contains-get_or (asks 0 ps) k (record { point = e; place = k }) (omega (arith, asks-length 0 ps))))

-- ---- the sort
pub rising_from_sorted : {I : Type 0} (value : I → ℤ) (cmp : I → I → Ordering) → ((a b : I) → cmp a b ≡ int_cmp (value a) (value b)) → (qs : List (Asked I)) → IsSortedByKey (λ q. q.point.y) cmp qs → IsRising (asked_points value qs)
rising_from_sorted value cmp order [] sorted = record { rises = λ i j h within. absurd (omega arith) }
rising_from_sorted value cmp order (q ∷ qs) sorted =
    let up : IsSortedBy (λ a b. is_lt (int_cmp (value a.point.y) (value b.point.y))) (q ∷ qs) = λ k d low high. ap is_lt (sym (order _ _)) ∙ sorted k d low high in
    record {
      rises = λ i j h within.
          let inside : j < length (q ∷ qs) = omega (arith, asked-length value (q ∷ qs)) in
          let far = sorted_far (λ a b. is_lt (int_cmp (value a.point.y) (value b.point.y))) (ranks_by int_cmp_total (λ (r : Asked _). value r.point.y)) (q ∷ qs) up i j q h inside in
          let first = asked-read value (q ∷ qs) i q (omega (arith, h, inside)) in
          let later = asked-read value (q ∷ qs) j q inside in
          rw (first, later) (not_less _ _ far);
    }
  where
    not_less : (x y : ℤ) → is_lt (int_cmp x y) ≡ false → y ≤ℤ x
    not_less x y h = search rules

-- ---- the totals are known
pub winding_fits : (c : List Point) (p : Point) → length c < 2 ^ 64 → FitsSigned w64 (winding c p)
winding_fits c p room =
    let half = winding_half c p in
    let most = half.most in
    let least = half.least in
    reach-fits w64 (winding c p) (record { from = omega (arith, ints); below = omega (arith, ints) })

pub total_from_added : (ps : List Point) (f : Point → ℤ) (zeros totals : List ℤ) → length totals ≡ length ps → ((k : ℕ) → get_or zeros k (pos 0) ≡ pos 0) → AllFit totals → ((p : Point) → FitsSigned w64 (f p)) → IsAdded ps f zeros totals → totals ≡ map f ps
total_from_added ps f zeros totals many none fit fits added = same_lists totals (map f ps) (many ∙ sym (length-map ps f)) (λ k z within.
    let inside : k < length ps = omega (arith, within, many) in
    get_or_default totals k z (pos 0) within ∙ sym (int_wrap_fits w64 _ (fit k)) ∙ added.each k inside ∙ ap (int_wrap w64) (ap (λ (z : ℤ). z +ℤ f (point_at ps k)) (none k) ∙ +ℤ_idl (f (point_at ps k))) ∙ int_wrap_fits w64 _ (fits (point_at ps k))
    ∙ sym (get_or-map f ps k origin z inside))

-- ---- the totals are written
module _ {I : Type 0} (value : I → ℤ) (points : List (IntPoint I)) (f : Point → ℤ) (asked : List (Asked I)) (moved : IsPermutation (asks 0 points) asked) where
  -- entries with the same index have the same point
  same_place : (i j : ℕ) (d : Asked I) → i < length asked → j < length asked → (get_or asked j d).place ≡ (get_or asked i d).place → point_at (asked_points value asked) j ≡ point_at (asked_points value asked) i
  same_place i j d h k e =
      let of_i = asked-of points asked moved i d h in
      let of_j = asked-of points asked moved j d k in
      asked-read value asked j d k ∙ ap (point_of value) (of_j.is d.point ∙ ap (λ (n : ℕ). get_or points n d.point) e ∙ sym (of_i.is d.point)) ∙ sym (asked-read value asked i d h)

  pub write-more : (out : List ℤ) (k : ℕ) (q : Asked I) (r : ℤ) → k < length asked → q ≡ get_or asked k q → q.place < length out → r ≡ f (point_at (asked_points value asked) k)
      → ((j : ℕ) (d : Asked I) → j < k → get_or out (get_or asked j d).place (pos 0) ≡ f (point_at (asked_points value asked) j))
      → (j : ℕ) (d : Asked I) → j < k + 1 → get_or (set out q.place r) (get_or asked j d).place (pos 0) ≡ f (point_at (asked_points value asked) j)
  write-more out k q r inside read room e known j d h =
      let within : j < length asked = omega (arith, h, inside) in
      let default = get_or_default asked j d q within in
      elim (cases_eq (get_or asked j d).place q.place) [
        | inl same ↦
            let again : (get_or asked j q).place ≡ (get_or asked k q).place = ap (λ (x : Asked I). x.place) (sym default) ∙ same ∙ ap (λ (x : Asked I). x.place) read in
            ap (λ (n : ℕ). get_or (set out q.place r) n (pos 0)) same ∙ get_or-set_same out q.place r (pos 0) room ∙ e ∙ ap f (sym (same_place k j q inside within again))
        | inr other ↦ get_or-set_other out q.place _ r (pos 0) other ∙ known j d (earlier j d h other within)
      ]
    where
      earlier : (j : ℕ) (d : Asked I) → j < k + 1 → ((get_or asked j d).place ≡ q.place → ⊥) → j < length asked → j < k
      earlier j d h other within = elim (cases_eq j k) [
        | inl g ↦ absurd (other (ap (λ (x : Asked I). x.place) (get_or_default asked j d q within ∙ ap (λ (n : ℕ). get_or asked n q) g ∙ sym read)))
        | inr n ↦ omega (arith, n)
      ]

  pub write-rest : (out before : List ℤ) (k : ℕ) (q : Asked I) (r : ℤ) → k < length asked → q ≡ get_or asked k q → ((i : ℕ) → length points ≤ i → get_or out i (pos 0) ≡ get_or before i (pos 0))
      → (i : ℕ) → length points ≤ i → get_or (set out q.place r) i (pos 0) ≡ get_or before i (pos 0)
  write-rest out before k q r inside read known i past =
      let of = asked-of points asked moved k q inside in
      let within : q.place < length points = subst (λ (x : Asked I). x.place < length points) (sym read) of.within in
      get_or-set_other out q.place i r (pos 0) (λ e. omega (arith, e, within, past)) ∙ known i past

  pick : (ps : List (IntPoint I)) → 0 < length ps → IntPoint I
  pick [] h = absurd (omega arith)
  pick (p ∷ ps) h = p

  -- if all indices are below n, there are at most n points
  pub room-for : (n : ℕ) → All (λ q. q.place < n) asked → length points ≤ n
  room-for n within = elim (cases_lt n (length points)) [
    | inl h ↦
        let e = pick points (omega (arith, h)) in
        let x : Asked I = record { point = get_or points n e; place = n } in
        let found = each-asked points asked n e moved h in
        let low : n < n = subst (λ (q : Asked I). q.place < n) found.2 (within found.0 x found.1) in
        absurd (omega (arith, low))
    | inr h ↦ h
  ]

  pub write-all : (out before : List ℤ) (k : ℕ) → length asked ≤ k → length out ≡ length before → length points ≤ length before
      → ((j : ℕ) (d : Asked I) → j < k → get_or out (get_or asked j d).place (pos 0) ≡ f (point_at (asked_points value asked) j))
      → ((i : ℕ) → length points ≤ i → get_or out i (pos 0) ≡ get_or before i (pos 0))
      → out ≡ map f (contour_of value points) ++ drop (length points) before
  write-all out before k all same room told rest =
      let front : length (map f (contour_of value points)) ≡ length points = length-map (contour_of value points) f ∙ length-map points (point_of value) in
      let back = length-drop (length points) before in
      let both = length-append (map f (contour_of value points)) (drop (length points) before) in
      same_lists out (map f (contour_of value points) ++ drop (length points) before) (omega (arith, front, back, both, same, room)) (λ i z within.
      get_or_default out i z (pos 0) within ∙ at i front ∙ get_or_default (map f (contour_of value points) ++ drop (length points) before) i (pos 0) z (omega (arith, front, back, both, same, room, within)))
    where
      told_at : (i : ℕ) (e : IntPoint I) → i < length points → get_or out i (pos 0) ≡ f (point_of value (get_or points i e))
      told_at i e h =
          let x : Asked I = record { point = get_or points i e; place = i } in
          let found = each-asked points asked i e moved h in
          let j = found.0 in
          let here = found.1 in
          let is = get_or_default asked j x _ here ∙ found.2 in
          ap (λ (q : Asked I). get_or out q.place (pos 0)) (sym is) ∙ told j x (omega (arith, here, all)) ∙ ap f (asked-read value asked j x here ∙ ap (λ (q : Asked I). point_of value q.point) is)

      at : (i : ℕ) → length (map f (contour_of value points)) ≡ length points → get_or out i (pos 0) ≡ get_or (map f (contour_of value points) ++ drop (length points) before) i (pos 0)
      at i front = elim (cases_lt i (length points)) [
        | inl h ↦
            let e = pick points (omega (arith, h)) in
            let inside : i < length (contour_of value points) = omega (arith, h, length-map points (point_of value)) in
            told_at i e h
            ∙ sym (get_or_append_left (map f (contour_of value points)) (drop (length points) before) (pos 0) i (omega (arith, h, front))
            ∙ get_or-map f (contour_of value points) i origin (pos 0) inside ∙ ap f (get_or-map (point_of value) points i e origin h))
        | inr h ↦
            let back : length points + (i - length points) ≡ i = omega (arith, h) in
            rest i h
            ∙ sym (get_or-append_right (map f (contour_of value points)) (drop (length points) before) (length points) i (pos 0) front h
            ∙ get_or-drop (length points) before (i - length points) (pos 0) ∙ ap (λ (n : ℕ). get_or before n (pos 0)) back)
      ]

-- ---- before the first contour
pub zero-read : (n k : ℕ) → get_or (replicate n (pos 0)) k (pos 0) ≡ pos 0
zero-read n k = elim (cases_lt k n) [
  | inl h ↦ get_or-replicate n k (pos 0) (pos 0) h
  | inr h ↦ get_or_past (replicate n (pos 0)) k (pos 0) (omega (arith, h, length-replicate n (pos 0)))
]

pub zero-fits : FitsSigned w64 (pos 0)
zero-fits = reach-fits w64 (pos 0) (record { from = omega (arith, ints); below = omega (arith, ints) })

asks-points : {I : Type 0} (value : I → ℤ) (n : ℕ) (ps : List (IntPoint I)) → asked_points value (asks n ps) ≡ contour_of value ps
asks-points value n [] = refl
asks-points value n (p ∷ ps) = ap (λ (qs : List Point). point_of value p ∷ qs) (asks-points value (n + 1) ps)

-- a permutation of safe points is safe
pub all-safe : {I : Type 0} (w : Width) (value : I → ℤ) (ps : List (IntPoint I)) (asked : List (Asked I)) → IsPermutation (asks 0 ps) asked → All (IsSafe w) (contour_of value ps) → All (IsSafe w) (asked_points value asked)
all-safe w value ps asked moved safe =
    All-permutation (IsSafe w) (asked_points value (asks 0 ps)) (asked_points value asked) (IsPermutation-map (λ q. point_of value q.point) (asks 0 ps) asked moved)
    (subst (All (IsSafe w)) (sym (asks-points value 0 ps)) safe)

-- all indices are below n if there are at most n points
pub all-within : {I : Type 0} (ps : List (IntPoint I)) (asked : List (Asked I)) (n : ℕ) → length ps ≤ n → IsPermutation (asks 0 ps) asked → All (λ q. q.place < n) asked
all-within ps asked n room moved k d h = let of = asked-of ps asked moved k d h in let low = of.within in omega (arith, low, room)

-- adding f and then g adds f + g
pub added_more : (ps : List Point) (f g : Point → ℤ) (before between after : List ℤ) → IsAdded ps f before between → IsAdded ps g between after → IsAdded ps (λ p. f p +ℤ g p) before after
added_more ps f g before between after first then = record {
  each = λ k inside.
      let p = point_at ps k in
      then.each k inside ∙ int_wrap-add_same w64 (get_or between k (pos 0)) (get_or before k (pos 0) +ℤ f p) (g p) (first.each k inside)
      ∙ ap (int_wrap w64) (grouped (get_or before k (pos 0)) (f p) (g p));
}

-- adding 0 at each point keeps the totals
pub none_added_yet : (ps : List Point) (f : Point → ℤ) (totals : List ℤ) → ((p : Point) → f p ≡ pos 0) → IsAdded ps f totals totals
none_added_yet ps f totals none = record { each = λ k inside. ap (int_wrap w64) (none_more (get_or totals k (pos 0)) (f (point_at ps k)) (none (point_at ps k))) }

-- functions with equal values add the same
pub added_as : (ps : List Point) (f g : Point → ℤ) (before after : List ℤ) → ((p : Point) → f p ≡ g p) → IsAdded ps f before after → IsAdded ps g before after
added_as ps f g before after same added = record { each = λ k inside. added.each k inside ∙ ap (λ (z : ℤ). int_wrap w64 (get_or before k (pos 0) +ℤ z)) (same (point_at ps k)) }
