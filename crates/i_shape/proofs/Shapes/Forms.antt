-- Forms of shapes and of lists of shapes, by any form of contours: when two are equal, that one exists, that it is its
-- own form, and what it keeps.
use Rattle.std.proofs.Common.{◌≡◌, ◌↔◌, ◌⊎◌, inl, inr, ℕ, ℤ, ◌+ℤ◌, neg_ℤ, ◌%◌, nat_abs, map, List, [], ◌∷◌, Option, Some, None, IfSome, Result, Ok, Err, IfOk, refl, sym, ap, ◌∙◌, arith, IsPermutation, All, sum_by, count_by, IsOkUnless}
use Rattle.i_shape.proofs.Common.{Vec, Width, Point, IsZeroTurn, IsSafe, answered, OkUnlessMemory, IntPoint, ShapeError, OutOfMemory, edges, is_right, shoelace, Inside, winding, EachEndCollapses, IsAtMost, CanonicalAnswer, Joined, UnorientedAnswer, IsKeptEitherWay, JoinedEitherWay, Survivors, sum_of, shape_winding, inside_count, ShapeClean, AreKept, shape_of, shapes_of, IsSafeShape, IsSafeList, FormsShapeTo, FormsListTo, SortedForms, ShapeForm, ListForm, IsShapeAtMost, OuterCollapses, SameShape, OneShapeForm, OneListForm, HasShapeForm, HasListForm, AreKeptEitherWay, FormsKept}
use Rattle.std.proofs.lemmas.Int.{ints}
use Rattle.std.proofs.lemmas.List.Sums.{sum_by-cons}
use Rattle.std.proofs.lemmas.List.Sorted.{All-permutation, IsPermutation-refl, IsPermutation-cons, sum_by-IsPermutation}
use Rattle.i_shape_core.specs.Moves.{moved, scaling}
use Rattle.i_shape_core.proofs.Arithmetic.WholeNumbers.{add_swap}
use Rattle.i_shape_core.proofs.LeastRotation.Order.{at_most_refl, at_most_total, at_most_trans, at_most_antisym}
use Rattle.i_shape_core.proofs.Lists.Survivors.{survivors-none}
use Rattle.i_shape_core.proofs.Forms.Unoriented.{canonical_uncollapsed, canonical_one, has_canonical, canonical_again, canonical_kept, unoriented_uncollapsed, unoriented_one, has_unoriented, unoriented_again, unoriented_kept}
use Rattle.i_shape.proofs.Lists.Surviving.{survivors_gone, survivors_left, survivors_each, survivors_weaker, survivors_stay, survivors_have}
use Rattle.i_shape.proofs.Shapes.Kept.{edges_parity, same_parity, shape_keeps, shape_safe}
use Rattle.i_shape.proofs.Lists.Permutations.{along_permutation}
use Rattle.i_shape.proofs.Lists.Sorting.{sorted_exists}
use Rattle.i_shape.proofs.Shapes.Order.{contour_decided, shape_decided, shape_itself, shape_antisym, shape_total, shape_trans}
use Rattle.i_shape.proofs.Lists.Matches.{sorted_alike}

-- if each member collapses or has an answer, a list has sorted answers
module _ {X Y : Type 0} (Answer : X → Option Y → Type 0) (AtMost : Y → Y → Type 0) (has : (x : X) → Answer x None ⊎ ((y : Y) × Answer x (Some y)))
    (total : (x y : Y) → AtMost x y ⊎ AtMost y x) (trans : (x y z : Y) → AtMost x y → AtMost y z → AtMost x z) where
  all_answered : (xs : List X) → (forms : List Y) × Survivors Answer xs forms
  all_answered [] = ([], survivors-none Answer)
  all_answered (x ∷ xs) = let (forms, survive) = all_answered xs in elim (has x) [
    | inl h ↦ (forms, survivors_gone Answer x xs forms h survive)
    | inr h ↦ (h.0 ∷ forms, survivors_left Answer x h.0 xs forms h.1 survive)
  ]

  has_sorted : (xs : List X) → (l : List Y) × SortedForms Answer AtMost xs l
  has_sorted xs =
      let answered = all_answered xs in
      let sorted = sorted_exists AtMost total trans answered.0 in
      (sorted.0, (answered.0, answered.1, sorted.1, sorted.2))

-- the sorted forms of a list are sorted forms of themselves, if each form is its own
module _ {Y : Type 0} (Answer : Y → Option Y → Type 0) (AtMost : Y → Y → Type 0) (again : (x y : Y) → Answer x (Some y) → Answer y (Some y)) where
  sorted_again : (xs l : List Y) → SortedForms Answer AtMost xs l → SortedForms Answer AtMost l l
  sorted_again xs l (forms, survive, moved, up) =
      let Own : Y → Type 0 = λ y. Answer y (Some y) in
      let own : All Own forms = survivors_have Answer (λ x. Unit {0}) Own (λ x y a t. again x y a) xs forms survive (λ i d h. tt) in
      (l, survivors_stay Own Answer (λ y a. a) l (All-permutation Own forms l moved own), IsPermutation-refl l, up)

-- a form is a cleaned shape up to the order of the holes
pub form_cleans : (Form : List Point → Option (List Point) → Type 0) (s l : List (List Point)) → ShapeForm Form s (Some l) → (k : List (List Point)) × ShapeClean Form s (Some k) × IsPermutation k l
form_cleans Form [] l a = (l, a, IsPermutation-refl l)
form_cleans Form (c ∷ s) [] a = absurd a
form_cleans Form (c ∷ s) (x ∷ l) (outer, (forms, survive, moved, up)) = (x ∷ forms, (outer, survive), IsPermutation-cons x forms l moved)

module _ (Form : List Point → Option (List Point) → Type 0) (w : Width) (stays_safe : (c e : List Point) → Form c (Some e) → All (IsSafe w) c → All (IsSafe w) e) where
  -- the form of a safe shape is safe
  pub form_safe : (s l : List (List Point)) → ShapeForm Form s (Some l) → IsSafeShape w s → IsSafeShape w l
  form_safe s l a safe =
      let k = form_cleans Form s l a in
      All-permutation (All (IsSafe w)) k.0 l k.2 (shape_safe Form w stays_safe s (Some k.0) k.1 safe)

  -- the form of a safe list is safe
  pub forms_safe : (s l : List (List (List Point))) → ListForm Form s l → IsSafeList w s → IsSafeList w l
  forms_safe s l (forms, survive, moved, up) safe =
      All-permutation (IsSafeShape w) forms l moved (survivors_have (ShapeForm Form) (IsSafeShape w) (IsSafeShape w) form_safe s forms survive safe)

module _ (Form : List Point → Option (List Point) → Type 0) (Same : List Point → List Point → Type 0)
    (none : (c : List Point) → Form c None ↔ EachEndCollapses c)
    (uncollapsed : (c l : List Point) → Form c (Some l) → EachEndCollapses c → ⊥)
    (one : (c d l m : List Point) → Form c (Some l) → Form d (Some m) → (l ≡ m) ↔ Same c d)
    (has : (c : List Point) → EachEndCollapses c ⊎ ((l : List Point) × Form c (Some l)))
    (again : (c l : List Point) → Form c (Some l) → Form l (Some l)) where
  has_form : (c : List Point) → Form c None ⊎ ((l : List Point) × Form c (Some l))
  has_form c = elim (has c) [ inl h ↦ inl ((none c).1 h) | inr h ↦ inr h ]

  one_shape_form : (s t : List (List Point)) → OneShapeForm Form Same s t
  one_shape_form [] [] l m a b = ((λ e. tt), (λ h. cc))
  one_shape_form [] (d ∷ t) l [] a b = absurd b
  one_shape_form [] (d ∷ t) l (x ∷ m) a b = ((λ e. absurd (cc)), (λ h. absurd h))
  one_shape_form (c ∷ s) [] [] m a b = absurd a
  one_shape_form (c ∷ s) [] (x ∷ l) m a b = ((λ e. absurd (cc)), (λ h. absurd h))
  one_shape_form (c ∷ s) (d ∷ t) [] m a b = absurd a
  one_shape_form (c ∷ s) (d ∷ t) (x ∷ l) [] a b = absurd b
  one_shape_form (c ∷ s) (d ∷ t) (x ∷ l) (y ∷ m) a b =
      let outer = one c d x y a.0 b.0 in
      let holes = sorted_alike Form EachEndCollapses Same IsAtMost (λ z h. (none z).0 h) uncollapsed one contour_decided at_most_refl at_most_antisym s t l m a.1 b.1 in (
        (λ e. let p : x ≡ y = cc in let q : l ≡ m = cc in (outer.0 p, holes.0 q)),
        (λ h. let p = outer.1 h.0 in let q = holes.1 h.1 in λ i. p i ∷ q i),
      )

  shape_none : (s : List (List Point)) → ShapeForm Form s None → OuterCollapses s
  shape_none [] h = absurd cc
  shape_none (c ∷ s) h = (none c).0 h

  shape_some : (s l : List (List Point)) → ShapeForm Form s (Some l) → OuterCollapses s → ⊥
  shape_some [] l a h = h
  shape_some (c ∷ s) [] a h = a
  shape_some (c ∷ s) (x ∷ l) a h = uncollapsed c x a.0 h

  shape_has : (s : List (List Point)) → ShapeForm Form s None ⊎ ((l : List (List Point)) × ShapeForm Form s (Some l))
  shape_has [] = inr ([], refl)
  shape_has (c ∷ s) = go (has_form c) (has_sorted Form IsAtMost has_form at_most_total at_most_trans s)
    where
      go : Form c None ⊎ ((x : List Point) × Form c (Some x)) → (l : List (List Point)) × SortedForms Form IsAtMost s l → ShapeForm Form (c ∷ s) None ⊎ ((l : List (List Point)) × ShapeForm Form (c ∷ s) (Some l))
      go (inl h) holes = inl h
      go (inr (x, a)) (l, holes) = inr (x ∷ l, (a, holes))

  shape_again : (s l : List (List Point)) → ShapeForm Form s (Some l) → ShapeForm Form l (Some l)
  shape_again [] [] a = refl
  shape_again [] (x ∷ l) a = absurd cc
  shape_again (c ∷ s) [] a = absurd a
  shape_again (c ∷ s) (x ∷ l) a = (again c x a.0, sorted_again Form IsAtMost again s l a.1)

  has_shape_form : (s : List (List Point)) → HasShapeForm Form s
  has_shape_form s = record {
    none = (shape_none s, λ h. elim (shape_has s) [ inl a ↦ a | inr a ↦ absurd (shape_some s a.0 a.1 h) ]);
    some = (λ a. shape_some s a.0 a.1, λ n. elim (shape_has s) [ inl a ↦ absurd (n (shape_none s a)) | inr a ↦ a ]);
    again = shape_again s;
  }

  one_list_form : (s t : List (List (List Point))) → OneListForm Form Same s t
  one_list_form = sorted_alike (ShapeForm Form) OuterCollapses (SameShape Same) IsShapeAtMost shape_none shape_some one_shape_form shape_decided shape_itself shape_antisym

  has_list_form : (s : List (List (List Point))) → HasListForm Form s
  has_list_form s = record {
    some = has_sorted (ShapeForm Form) IsShapeAtMost shape_has shape_total shape_trans s;
    again = λ l a. sorted_again (ShapeForm Form) IsShapeAtMost shape_again s l a;
  }

iff_itself : {P : Type 0} → P ↔ P
iff_itself = (λ p. p, λ p. p)

-- canonical forms of two shapes are equal exactly if the shapes are the same
pub canonical_shapes : (s t : List (List Point)) → OneShapeForm CanonicalAnswer (Joined IsZeroTurn) s t
canonical_shapes = one_shape_form CanonicalAnswer (Joined IsZeroTurn) (λ c. iff_itself) canonical_uncollapsed canonical_one has_canonical canonical_again

-- unoriented forms of two shapes are equal exactly if the shapes are the same up to the direction of contours
pub unoriented_shapes : (s t : List (List Point)) → OneShapeForm UnorientedAnswer JoinedEitherWay s t
unoriented_shapes = one_shape_form UnorientedAnswer JoinedEitherWay (λ c. iff_itself) unoriented_uncollapsed unoriented_one has_unoriented unoriented_again

-- canonical forms of two lists are equal exactly if the lists are the same
pub canonical_lists : (s t : List (List (List Point))) → OneListForm CanonicalAnswer (Joined IsZeroTurn) s t
canonical_lists = one_list_form CanonicalAnswer (Joined IsZeroTurn) (λ c. iff_itself) canonical_uncollapsed canonical_one has_canonical canonical_again

-- unoriented forms of two lists are equal exactly if the lists are the same up to the direction of contours
pub unoriented_lists : (s t : List (List (List Point))) → OneListForm UnorientedAnswer JoinedEitherWay s t
unoriented_lists = one_list_form UnorientedAnswer JoinedEitherWay (λ c. iff_itself) unoriented_uncollapsed unoriented_one has_unoriented unoriented_again

-- a shape has a canonical form exactly if its outer contour doesn't collapse, and each form is its own form
pub canonical_has_shape : (s : List (List Point)) → HasShapeForm CanonicalAnswer s
canonical_has_shape = has_shape_form CanonicalAnswer (Joined IsZeroTurn) (λ c. iff_itself) canonical_uncollapsed canonical_one has_canonical canonical_again

-- a shape has an unoriented form exactly if its outer contour doesn't collapse, and each form is its own form
pub unoriented_has_shape : (s : List (List Point)) → HasShapeForm UnorientedAnswer s
unoriented_has_shape = has_shape_form UnorientedAnswer JoinedEitherWay (λ c. iff_itself) unoriented_uncollapsed unoriented_one has_unoriented unoriented_again

-- each list has a canonical form, and each form is its own form
pub canonical_has_list : (s : List (List (List Point))) → HasListForm CanonicalAnswer s
canonical_has_list = has_list_form CanonicalAnswer (Joined IsZeroTurn) (λ c. iff_itself) canonical_uncollapsed canonical_one has_canonical canonical_again

-- each list has an unoriented form, and each form is its own form
pub unoriented_has_list : (s : List (List (List Point))) → HasListForm UnorientedAnswer s
unoriented_has_list = has_list_form UnorientedAnswer JoinedEitherWay (λ c. iff_itself) unoriented_uncollapsed unoriented_one has_unoriented unoriented_again

-- a permutation keeps the sum of f
sum_shuffled : {X : Type 0} (f : X → ℤ) (xs ys : List X) → IsPermutation xs ys → sum_of f xs ≡ sum_of f ys
sum_shuffled f = along_permutation (λ xs ys. sum_of f xs ≡ sum_of f ys) (λ xs. refl) (λ x xs ys h. ap (λ z. f x +ℤ z) h) (λ x y xs. add_swap (f x) (f y) (sum_of f xs)) (λ xs ys zs h k. h ∙ k)

inside_shuffled : (k l : List (List Point)) → IsPermutation k l → (p : Point) → inside_count l p ≡ inside_count k p
unfolding inside_count
inside_shuffled k l moved p = sum_by-IsPermutation (λ c. count_by (is_right p) (edges c) % 2) k l moved

between_shuffled : (n : ℤ) (p : Point) (k l : List (List Point)) → IsPermutation k l → shape_winding (map (moved (scaling n)) l) p ≡ shape_winding (map (moved (scaling n)) k) p
between_shuffled n p k l shuffled = summed l ∙ sym (sum_shuffled (λ c. winding (moved (scaling n) c) p) k l shuffled) ∙ sym (summed k)
  where
    summed : (cs : List (List Point)) → shape_winding (map (moved (scaling n)) cs) p ≡ sum_of (λ c. winding (moved (scaling n) c) p) cs
    summed [] = refl
    summed (c ∷ cs) = ap (λ (z : ℤ). winding (moved (scaling n) c) p +ℤ z) (summed cs)

-- the canonical form of a shape keeps area, inside count and winding
pub canonical_keeps : (s : List (List Point)) (r : Option (List (List Point))) → ShapeForm CanonicalAnswer s r → IfSome r (AreKept s)
canonical_keeps s None a = tt
canonical_keeps s (Some l) a =
    let k = form_cleans CanonicalAnswer s l a in
    let kept : AreKept s k.0 = shape_keeps CanonicalAnswer canonical_kept s (Some k.0) k.1 in
    record { area = sym (sum_shuffled shoelace k.0 l k.2) ∙ kept.area; inside = λ p. inside_shuffled k.0 l k.2 p ∙ kept.inside p; between = λ n p. between_shuffled n p k.0 l k.2 ∙ kept.between n p; winding = λ p. sym (sum_shuffled (λ c. winding c p) k.0 l k.2) ∙ kept.winding p }

-- if answers keep f, and f is 0 for a contour without an answer, a cleaned shape keeps the sum of f
module _ (f : List Point → ℕ) (none : (c : List Point) → UnorientedAnswer c None → f c ≡ 0) (some : (c e : List Point) → UnorientedAnswer c (Some e) → f e ≡ f c) where
  clean_sum : (s k : List (List Point)) → ShapeClean UnorientedAnswer s (Some k) → sum_by f k ≡ sum_by f s
  clean_sum [] [] a = refl
  clean_sum [] (e ∷ k) a = absurd cc
  clean_sum (c ∷ s) [] a = absurd a
  clean_sum (c ∷ s) (e ∷ k) (outer, survive) = more c e s k outer (survivors_each UnorientedAnswer (λ cs kept. sum_by f kept ≡ sum_by f cs) refl (λ c cs kept a rest. omega (arith, sum_by-cons f c cs, none c a, rest)) more s k survive)
    where
      more : (c e : List Point) (cs kept : List (List Point)) → UnorientedAnswer c (Some e) → sum_by f kept ≡ sum_by f cs → sum_by f (e ∷ kept) ≡ sum_by f (c ∷ cs)
      more c e cs kept a rest = omega (arith, sum_by-cons f c cs, sum_by-cons f e kept, some c e a, rest)

-- opposite numbers have the same absolute value
opposite : (x y : ℤ) → x ≡ neg_ℤ y → nat_abs x ≡ nat_abs y
opposite x y e = omega (arith, ints)

-- a contour kept in either direction has the same absolute area
module _ {c e : List Point} where
  kept_area : IsKeptEitherWay c e → nat_abs (shoelace e) ≡ nat_abs (shoelace c)
  kept_area (inl k) = ap nat_abs k.area
  kept_area (inr k) = opposite _ _ k.area

  kept_inside : IsKeptEitherWay c e → (p : Point) → Inside e p ↔ Inside c p
  kept_inside (inl k) = k.inside
  kept_inside (inr k) = k.inside

  kept_between : (n : ℤ) (p : Point) → IsKeptEitherWay c e → nat_abs (winding (moved (scaling n) e) p) ≡ nat_abs (winding (moved (scaling n) c) p)
  kept_between n p (inl k) = ap nat_abs (k.between n p)
  kept_between n p (inr k) = opposite _ _ (k.between n p)

  kept_winding : (p : Point) → IsKeptEitherWay c e → nat_abs (winding e p) ≡ nat_abs (winding c p)
  kept_winding p (inl k) = ap nat_abs (k.winding p)
  kept_winding p (inr k) = opposite _ _ (k.winding p)

no_parity : (n : ℕ) → (n % 2 ≡ 1 → ⊥) → n % 2 ≡ 0
no_parity n h = omega arith

-- the unoriented form of a shape keeps absolute areas, inside counts and absolute winding numbers
pub unoriented_keeps : (s : List (List Point)) (r : Option (List (List Point))) → ShapeForm UnorientedAnswer s r → IfSome r (AreKeptEitherWay s)
unfolding Inside inside_count
unoriented_keeps s None a = tt
unoriented_keeps s (Some l) a =
    let k = form_cleans UnorientedAnswer s l a in
    let area : List Point → ℕ = λ c. nat_abs (shoelace c) in
    record {
      area = sum_by-IsPermutation area k.0 l k.2 ∙ clean_sum area (λ c h. ap nat_abs (unoriented_kept c None h).area) (λ c e h. kept_area (unoriented_kept c (Some e) h)) s k.0 k.1;
      inside = λ p. inside_shuffled k.0 l k.2 p ∙ clean_sum (λ c. edges_parity c p) (λ c h. no_parity (count_by (is_right p) (edges c)) ((unoriented_kept c None h).inside p))
          (λ c e h. same_parity (count_by (is_right p) (edges e)) (count_by (is_right p) (edges c)) (kept_inside (unoriented_kept c (Some e) h) p)) s k.0 k.1;
      between = λ n p. sum_by-IsPermutation (λ c. nat_abs (winding (moved (scaling n) c) p)) k.0 l k.2
          ∙ clean_sum (λ c. nat_abs (winding (moved (scaling n) c) p)) (λ c h. ap nat_abs ((unoriented_kept c None h).between n p))
          (λ c e h. kept_between n p (unoriented_kept c (Some e) h)) s k.0 k.1;
      winding = λ p. sum_by-IsPermutation (λ c. nat_abs (winding c p)) k.0 l k.2
          ∙ clean_sum (λ c. nat_abs (winding c p)) (λ c h. ap nat_abs ((unoriented_kept c None h).winding p))
          (λ c e h. kept_winding p (unoriented_kept c (Some e) h)) s k.0 k.1;
    }

-- Forms as functions return them.
module _ (Form : List Point → Option (List Point) → Type 0) (Kept : List (List Point) → List (List Point) → Type 0) (keeps : (s : List (List Point)) (r : Option (List (List Point))) → ShapeForm Form s r → IfSome r (Kept s)) where
  -- a returned form keeps `Kept`, and the only error is `OutOfMemory`
  pub shape_form_given : {I : Type 0} (width : Width) (value : I → ℤ) (s : List (List Point)) (r : Result (Option (Vec (Vec (IntPoint I)))) ShapeError) → IfOk r (λ o. ShapeForm Form s (answered (shape_of value) o))
      → IfOk r (λ o. IfSome o (λ x. IsSafeShape width (shape_of value x.items))) → IsOkUnless r OutOfMemory → OkUnlessMemory r (FormsShapeTo Form Kept width value s)
  shape_form_given width value s (Err e) answer safe memory = memory
  shape_form_given width value s (Ok None) answer safe memory = record { answer = answer; kept = tt; safe = tt }
  shape_form_given width value s (Ok (Some x)) answer safe memory = record { answer = answer; kept = keeps s (Some (shape_of value x.items)) answer; safe = safe }

  -- each form in a list's form keeps `Kept` of its shape
  pub forms_keep : (s l : List (List (List Point))) → ListForm Form s l → FormsKept Form Kept s l
  forms_keep s l (forms, survive, moved, up) = record {
    forms = forms;
    each = survivors_weaker (ShapeForm Form) (λ shape r. ShapeForm Form shape r × IfSome r (Kept shape)) (λ shape r a. (a, keeps shape r a)) s forms survive;
    same = moved;
  }

  -- a returned form of a list keeps `Kept` of each shape, and the only error is `OutOfMemory`
  pub list_form_given : {I : Type 0} (width : Width) (value : I → ℤ) (s : List (List (List Point))) (r : Result (Vec (Vec (Vec (IntPoint I)))) ShapeError) → IfOk r (λ x. ListForm Form s (shapes_of value x.items))
      → IfOk r (λ x. IsSafeList width (shapes_of value x.items)) → IsOkUnless r OutOfMemory → OkUnlessMemory r (FormsListTo Form Kept width value s)
  list_form_given width value s (Err e) answer safe memory = memory
  list_form_given width value s (Ok x) answer safe memory = record { answer = answer; kept = forms_keep s (shapes_of value x.items) answer; safe = safe }
