-- A store of polygons keeps forms, so it has a polygon that is the same as s exactly if it has the form of s; a sorted
-- set of forms contains what was inserted.
use Rattle.std.proofs.Common.{◌≡◌, ◌↔◌, ◌⊎◌, ℕ, zero, suc, ◌<◌, length, slice_index_or, ℤ, List, [], ◌∷◌, map, Some, Contains, IsTrue, Bool, true, false, inl, inr, refl, sym, ◌∙◌, ◌||◌, not, subst, arith}
use Rattle.std.specs.List.{list_any}
use Rattle.std.specs.Global.{Vec}
use Rattle.std.specs.Ordering.{MatchOrdering, match_ordering, ordering_then, is_eq, int_cmp}
use Rattle.std.specs.Cmp.Lexicographic.{slice_cmp}
use Rattle.std.specs.BTreeMap.{is_at}
use Rattle.std.specs.BTreeSet.{insert_key}
use Rattle.std.specs.declared.cmp.Ordering.{Ordering}
use Rattle.std.specs.declared.cmp.Ordering.TheVariants.{Less, Equal, Greater}
use Rattle.std.proofs.lemmas.Bool.{false≢true}
use Rattle.std.proofs.lemmas.List.{get_or_default}
use Rattle.std.proofs.lemmas.List.Elements.{All-contains, Contains-append_right}
use Rattle.i_shape.specs.Point.{Point}
use Rattle.i_shape.specs.IntPoint.{point_of, contour_of}
use Rattle.i_shape_core.specs.declared.point.IntPoint.{IntPoint}
use Rattle.i_shape.specs.Canonical.{IsBefore, CanonicalAnswer}
use Rattle.i_shape_core.proofs.LeastRotation.Order.{before_clash}
use Rattle.i_shape_core.proofs.Forms.ContourOrder.{point_cmp, points_told}
use Rattle.i_shape.specs.ShapeLists.{shape_of}
use Rattle.i_shape.specs.CanonicalShapes.{ShapeForm, OuterCollapses}
use Rattle.i_shape.proofs.Shapes.Forms.{canonical_shapes, canonical_has_shape}
use Rattle.callers.specs.Polygons.{AreOwnForms, IsPolygonFound, AlsoFindsPolygon, SamePolygon}
use Rattle.callers.proofs.StoredForms.{never_joined}

-- a comparison returns Equal exactly if its arguments represent equal values
abbrev Exact : {X Y : Type 0} → (X → X → Ordering) → (X → Y) → Type 0
Exact {X} cmp f = (x y : X) → (cmp x y ≡ Equal) ↔ (f x ≡ f y)

module _ {X Y : Type 0} (cmp : X → X → Ordering) (f : X → Y) (exact : Exact cmp f) where
  lists_exact : Exact (slice_cmp cmp) (map f)
  lists_exact [] [] = (λ e. refl, λ e. refl)
  lists_exact [] (y ∷ ys) = (λ e. absurd cc, λ e. absurd cc)
  lists_exact (x ∷ xs) [] = (λ e. absurd cc, λ e. absurd cc)
  lists_exact (x ∷ xs) (y ∷ ys) = go (cmp x y) (exact x y) (lists_exact xs ys)
    where
      go : (o : Ordering) → (o ≡ Equal) ↔ (f x ≡ f y) → (slice_cmp cmp xs ys ≡ Equal) ↔ (map f xs ≡ map f ys) → (ordering_then o (slice_cmp cmp xs ys) ≡ Equal) ↔ (map f (x ∷ xs) ≡ map f (y ∷ ys))
      go Less h t = (λ q. absurd cc, λ q. let p : f x ≡ f y = cc in let r = h.1 p in absurd cc)
      go Equal h t = (λ q. let p = h.0 refl in let r = t.0 q in λ i. p i ∷ r i, λ q. let r : map f xs ≡ map f ys = cc in t.1 r)
      go Greater h t = (λ q. absurd cc, λ q. let p : f x ≡ f y = cc in let r = h.1 p in absurd cc)

-- Points, contours and shapes of the program.
module _ {I : Type 0} (value : I → ℤ) (cmp : I → I → Ordering) (order : (a b : I) → cmp a b ≡ int_cmp (value a) (value b)) where
  points_exact : Exact (point_cmp value cmp order) (point_of value)
  points_exact p q = go (point_cmp value cmp order p q) (points_told value cmp order p q)
    where
      go : (o : Ordering) → MatchOrdering o (IsBefore (point_of value p) (point_of value q)) (point_of value p ≡ point_of value q) (IsBefore (point_of value q) (point_of value p)) → (o ≡ Equal) ↔ (point_of value p ≡ point_of value q)
      go Less h = (λ e. absurd cc, λ e. let x = subst (λ (z : Point). IsBefore (point_of value p) z) (sym e) h in absurd (before_clash (point_of value p) (point_of value p) x x))
      go Equal h = (λ e. h, λ e. refl)
      go Greater h = (λ e. absurd cc, λ e. let x = subst (λ (z : Point). IsBefore (point_of value q) z) e h in absurd (before_clash (point_of value q) (point_of value q) x x))

  -- the comparison of polygons, contour by contour and point by point
  abbrev pub polygon_cmp : Vec (Vec (IntPoint I)) → Vec (Vec (IntPoint I)) → Ordering
  polygon_cmp s t = slice_cmp (λ v w. slice_cmp (point_cmp value cmp order) v.items w.items) s.items t.items

  -- two polygons compare equal exactly if they have the same points
  pub polygons_exact : Exact polygon_cmp (λ s. shape_of value s.items)
  polygons_exact s t =
      lists_exact (λ v w. slice_cmp (point_cmp value cmp order) v.items w.items) (λ v. contour_of value v.items) (λ v w. lists_exact (point_cmp value cmp order) (point_of value) points_exact v.items w.items) s.items t.items

same_place : {X : Type 0} (xs : List X) (i : ℕ) (d e : X) → i < length xs → slice_index_or xs i e ≡ slice_index_or xs i d
same_place xs i d e h = get_or_default xs i e d h

-- a member of x ∷ xs is x or a member of xs
contains_cases : {X : Type 0} (x : X) (xs : List X) (y : X) → Contains (x ∷ xs) y → (x ≡ y) ⊎ Contains xs y
contains_cases x xs y (zero, lt, e) = inl e
contains_cases x xs y (suc k, lt, e) = inr (k, omega arith, e)

contains_here : {X : Type 0} (x : X) (xs : List X) (y : X) → x ≡ y → Contains (x ∷ xs) y
contains_here x xs y e = (0, omega arith, e)

module _ {K Y : Type 0} (cmp : K → K → Ordering) (g : K → Y) (exact : Exact cmp g) where
  -- a set contains a key exactly if the list of what its keys represent contains what the key represents
  pub key_listed : (k : K) (ks : List K) → IsTrue (list_any (is_at (cmp k)) ks) ↔ Contains (map g ks) (g k)
  key_listed k [] = (λ t. absurd cc, λ h. absurd (omega (arith, h.1)))
  key_listed k (x ∷ ks) = go (cmp k x) (exact k x) (key_listed k ks)
    where
      go : (o : Ordering) → (o ≡ Equal) ↔ (g k ≡ g x) → IsTrue (list_any (is_at (cmp k)) ks) ↔ Contains (map g ks) (g k)
          → IsTrue (is_eq o || list_any (is_at (cmp k)) ks) ↔ Contains (g x ∷ map g ks) (g k)
      go Equal h t = (λ _. contains_here (g x) (map g ks) (g k) (sym (h.0 refl)), λ _. refl)
      go Less h t = (λ q. Contains-append_right (g x ∷ []) (map g ks) (g k) (t.0 q), λ c. elim (contains_cases (g x) (map g ks) (g k) c) [ inl e ↦ (let r = h.1 (sym e) in absurd cc) | inr d ↦ t.1 d ])
      go Greater h t = (λ q. Contains-append_right (g x ∷ []) (map g ks) (g k) (t.0 q), λ c. elim (contains_cases (g x) (map g ks) (g k) c) [ inl e ↦ (let r = h.1 (sym e) in absurd cc) | inr d ↦ t.1 d ])

  -- after inserting a key, the set contains what it represents and what was there before
  pub key_inserted : (ks : List K) (k : K) (y : Y) → Contains (map g (insert_key cmp ks k)) y ↔ (Contains (map g ks) y ⊎ (g k ≡ y))
  key_inserted [] k y = (λ c. elim (contains_cases (g k) [] y c) [ inl e ↦ inr e | inr d ↦ inl d ], λ d. elim d [ inl c ↦ absurd (omega (arith, c.1)) | inr e ↦ contains_here (g k) [] y e ])
  key_inserted (x ∷ ks) k y = go (cmp k x) (exact k x) (key_inserted ks k y)
    where
      go : (o : Ordering) → (o ≡ Equal) ↔ (g k ≡ g x) → Contains (map g (insert_key cmp ks k)) y ↔ (Contains (map g ks) y ⊎ (g k ≡ y))
          → Contains (map g (match_ordering o (k ∷ x ∷ ks) (x ∷ ks) (x ∷ insert_key cmp ks k))) y ↔ (Contains (g x ∷ map g ks) y ⊎ (g k ≡ y))
      go Less h t = (
        λ c. elim (contains_cases (g k) (g x ∷ map g ks) y c) [ inl e ↦ inr e | inr d ↦ inl d ],
        λ d. elim d [ inl c ↦ Contains-append_right (g k ∷ []) (g x ∷ map g ks) y c | inr e ↦ contains_here (g k) (g x ∷ map g ks) y e ],
      )
      go Equal h t = (λ c. inl c, λ d. elim d [ inl c ↦ c | inr e ↦ contains_here (g x) (map g ks) y (sym (h.0 refl) ∙ e) ])
      go Greater h t = (
        λ c. elim (contains_cases (g x) (map g (insert_key cmp ks k)) y c) [
          | inl e ↦ inl (contains_here (g x) (map g ks) y e)
          | inr d ↦ elim (t.0 d) [ inl c ↦ inl (Contains-append_right (g x ∷ []) (map g ks) y c) | inr e ↦ inr e ]
        ],
        λ d. elim d [
          | inl c ↦ elim (contains_cases (g x) (map g ks) y c) [
            | inl e ↦ contains_here (g x) (map g (insert_key cmp ks k)) y e
            | inr b ↦ Contains-append_right (g x ∷ []) (map g (insert_key cmp ks k)) y (t.1 (inl b))
          ]
          | inr e ↦ Contains-append_right (g x ∷ []) (map g (insert_key cmp ks k)) y (t.1 (inr e))
        ],
      )

-- the forms of two polygons are equal exactly if the polygons are the same
same_by_form : (s t l m : List (List Point)) → ShapeForm CanonicalAnswer s (Some l) → ShapeForm CanonicalAnswer t (Some m) → (l ≡ m) ↔ SamePolygon s t
same_by_form s t l m a b = canonical_shapes s t l m a b

-- a polygon that equals one with a form has a form
never_same : (s t l : List (List Point)) → ShapeForm CanonicalAnswer s (Some l) → OuterCollapses t → SamePolygon s t → ⊥
never_same s [] l a collapses same = collapses
never_same [] (d ∷ t) l a collapses same = same
never_same (c ∷ s) (d ∷ t) [] a collapses same = a
never_same (c ∷ s) (d ∷ t) (x ∷ l) a collapses same = never_joined a.0 collapses same.0

module _ (store : List (List (List Point))) (forms : AreOwnForms store) where
  -- each polygon of the store is its own form
  own : (form : List (List Point)) → Contains store form → ShapeForm CanonicalAnswer form (Some form)
  own form there = All-contains (λ form. ShapeForm CanonicalAnswer form (Some form)) store form forms there

  -- a store contains the form of s exactly if it has a polygon that is the same as s
  pub polygon_found : (s l : List (List Point)) → ShapeForm CanonicalAnswer s (Some l) → Contains store l ↔ IsPolygonFound store s
  polygon_found s l a = (to, from)
    where
      to : Contains store l → IsPolygonFound store s
      to there = (l, there, (same_by_form l s l l (own l there) a).0 refl)

      from : IsPolygonFound store s → Contains store l
      from (form, there, same) = subst (Contains store) ((same_by_form form s form l (own form there) a).1 same) there

  -- a store has no polygon that is the same as one that collapses
  pub no_polygon_found : (s : List (List Point)) → OuterCollapses s → IsPolygonFound store s → ⊥
  no_polygon_found s collapses (form, there, same) = never_same form s form (own form there) collapses same

-- a store with the form of s added also finds the polygons that are the same as s
pub finds_polygon : (old new : List (List (List Point))) (s l : List (List Point)) → ShapeForm CanonicalAnswer s (Some l) → ((m : List (List Point)) → Contains new m ↔ (Contains old m ⊎ (l ≡ m))) → AlsoFindsPolygon old s new
finds_polygon old new s l a there t = (to, from)
  where
    again : ShapeForm CanonicalAnswer l (Some l)
    again = (canonical_has_shape s).again l a

    -- a polygon is the same as the form of s exactly if it is the same as s
    moved : SamePolygon l t ↔ SamePolygon s t
    moved = (
      λ same. let m = (canonical_has_shape t).some.1 (λ h. never_same l t l again h same) in (same_by_form s t l m.0 a m.1).0 ((same_by_form l t l m.0 again m.1).1 same),
      λ same. let m = (canonical_has_shape t).some.1 (λ h. never_same s t l a h same) in (same_by_form l t l m.0 again m.1).0 ((same_by_form s t l m.0 a m.1).1 same),
    )

    to : IsPolygonFound new t → IsPolygonFound old t ⊎ SamePolygon s t
    to (form, is, same) = elim ((there form).0 is) [ inl c ↦ inl (form, c, same) | inr e ↦ inr (moved.0 (subst (λ w. SamePolygon w t) (sym e) same)) ]

    from : IsPolygonFound old t ⊎ SamePolygon s t → IsPolygonFound new t
    from (inl (form, is, same)) = (form, (there form).1 (inl is), same)
    from (inr same) = (l, (there l).1 (inr refl), moved.1 same)

-- inserting a form keeps all members of a sorted set forms
pub own_forms_more : {K : Type 0} (cmp : K → K → Ordering) (g : K → List (List Point)) (exact : (x y : K) → (cmp x y ≡ Equal) ↔ (g x ≡ g y)) (ks : List K) (k : K) (s : List (List Point))
    → ShapeForm CanonicalAnswer s (Some (g k)) → AreOwnForms (map g ks) → AreOwnForms (map g (insert_key cmp ks k))
own_forms_more cmp g exact ks k s a forms =
    let Own : List (List Point) → Type 0 = λ form. ShapeForm CanonicalAnswer form (Some form) in
    let own : (y : List (List Point)) → Contains (map g (insert_key cmp ks k)) y → Own y =
    λ y there. elim ((key_inserted cmp g exact ks k y).0 there) [
      | inl old ↦ All-contains Own (map g ks) y forms old
      | inr new ↦ subst Own new ((canonical_has_shape s).again (g k) a)
    ] in
    λ i d h. own (slice_index_or (map g (insert_key cmp ks k)) i d) (i, h, same_place (map g (insert_key cmp ks k)) i d (slice_index_or (map g (insert_key cmp ks k)) i d) h)

-- if a set returns that a key isn't new, it was there
pub was_there : (added there : Bool) → added ≡ not there → added ≡ false → IsTrue there
was_there added true e f = refl
was_there added false e f = absurd (false≢true (sym f ∙ e))

-- if a set returns that a key is new, it wasn't there
pub was_missing : (added there : Bool) → added ≡ not there → added ≡ true → IsTrue there → ⊥
was_missing added true e f t = false≢true (sym e ∙ f)
was_missing added false e f t = false≢true t
