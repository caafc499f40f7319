-- How removing a point changes a sum over the edges of a contour.
use Rattle.std.proofs.Common.{◌≡◌, ℕ, zero, suc, ◌<◌, ◌≤◌, List, [], ◌∷◌, ◌++◌, length, get_or, remove, ℤ, pos, ◌+ℤ◌, refl, sym, ap, ◌∙◌, arith, inl, inr, eq-or-lt_of_le}
use Rattle.std.proofs.lemmas.List.{get_or_default, get_or_past}
use Rattle.std.proofs.lemmas.Int.{ints}
use Rattle.i_shape_core.proofs.Common.{Point, origin, IsZeroTurn, point_at, place_before, place_after, Step, Reach, stay, step}
use Rattle.i_shape_core.specs.Edges.{Edge, edges_between, edges, sum_of, area_of_edge, shoelace}
use Rattle.i_shape_core.proofs.Removal.Places.{before_first, before_later, after_earlier, after_last}
use Rattle.i_shape_core.proofs.Plane.CrossProducts.{edge, area_of_two}

-- functions with equal values on each edge have equal sums
pub sum_alike : (f g : Edge → ℤ) → ((e : Edge) → f e ≡ g e) → (es : List Edge) → sum_of f es ≡ sum_of g es
sum_alike f g same [] = refl
sum_alike f g same (e ∷ es) =
    let here = same e in
    let rest = sum_alike f g same es in
    omega (arith, ints)

-- appending an item adds its value
pub sum_push : {X : Type 0} (f : X → ℤ) (xs : List X) (x : X) → sum_of f (xs ++ x ∷ []) ≡ sum_of f xs +ℤ f x
sum_push f [] x = omega (arith, ints)
sum_push f (y ∷ xs) x = let rest = sum_push f xs x in omega (arith, ints)

abbrev along : (Edge → ℤ) → Point → List Point → Point → ℤ
along f a bs z = sum_of f (edges_between a bs z)

-- removing a point within a path replaces its two edges by one
path_without : (f : Edge → ℤ) (a : Point) (bs : List Point) (z : Point) (j : ℕ) → j < length bs
    → along f a bs z +ℤ f (edge (get_or (a ∷ bs) j origin) (get_or bs (suc j) z))
    ≡ along f a (remove bs j) z +ℤ (f (edge (get_or (a ∷ bs) j origin) (get_or bs j origin)) +ℤ f (edge (get_or bs j origin) (get_or bs (suc j) z)))
path_without f a [] z j h = absurd (omega arith)
path_without f a (b ∷ []) z zero h = omega (arith, ints)
path_without f a (b ∷ c ∷ bs) z zero h = omega (arith, ints)
path_without f a (b ∷ bs) z (suc j) h = let e = path_without f b bs z j (omega arith) in omega (arith, ints)

-- changing the end of a path from y to z replaces the last edge
path_to : (f : Edge → ℤ) (a : Point) (bs : List Point) (y z : Point)
    → along f a bs y +ℤ f (edge (get_or (a ∷ bs) (length bs) origin) z) ≡ along f a bs z +ℤ f (edge (get_or (a ∷ bs) (length bs) origin) y)
path_to f a [] y z = omega (arith, ints)
path_to f a (b ∷ bs) y z = let e = path_to f b bs y z in omega (arith, ints)

-- the point after index j + 1, as `path_without` reads it
later_point : (x : Point) (bs : List Point) (j : ℕ) → j < length bs → point_at (x ∷ bs) (place_after (suc (length bs)) (suc j)) ≡ get_or bs (suc j) x
later_point x bs j h = elim (eq-or-lt_of_le (let l : suc j ≤ length bs = h in l)) [
  | inl e ↦ ap (λ (k : ℕ). point_at (x ∷ bs) k) (after_last (suc (length bs)) (suc j) (omega arith)) ∙ sym (get_or_past bs (suc j) x (omega arith))
  | inr l ↦ ap (λ (k : ℕ). point_at (x ∷ bs) k) (after_earlier (suc (length bs)) (suc j) (omega arith)) ∙ get_or_default bs (suc j) origin x l
]

-- removing the point at place k changes the sum over the edges by its two edges and the one in their place
pub sum_without : (f : Edge → ℤ) (c : List Point) (k : ℕ) → 2 ≤ length c → k < length c
    → sum_of f (edges c) +ℤ f (edge (point_at c (place_before (length c) k)) (point_at c (place_after (length c) k)))
    ≡ sum_of f (edges (remove c k)) +ℤ (f (edge (point_at c (place_before (length c) k)) (point_at c k)) +ℤ f (edge (point_at c k) (point_at c (place_after (length c) k))))
sum_without f [] k h l = absurd (omega arith)
sum_without f (x ∷ []) k h l = absurd (omega arith)
sum_without f (x ∷ y ∷ ys) zero h l =
    let e = path_to f y ys x y in
    let before : place_before (suc (suc (length ys))) 0 ≡ suc (length ys) = before_first (suc (suc (length ys))) (omega arith) ∙ omega arith in
    let after : place_after (suc (suc (length ys))) 0 ≡ 1 = after_earlier (suc (suc (length ys))) 0 (omega arith) in
    rw (before, after) (omega (arith, ints))
sum_without f (x ∷ y ∷ ys) (suc j) h l =
    let e = path_without f x (y ∷ ys) x j (omega arith) in
    let before : place_before (suc (suc (length ys))) (suc j) ≡ j = before_later (suc (suc (length ys))) j (omega arith) in
    rw (before, later_point x (y ∷ ys) j (omega arith)) e

area_after : (s t e p : ℤ) (x : ℤ) → s +ℤ e ≡ t +ℤ p → p ≡ e +ℤ x → x ≡ pos 0 → s ≡ t
area_after s t e p x f g h = omega (arith, ints)

-- removing a zero turn keeps twice the area
pub area_after_step : (c d : List Point) → Step IsZeroTurn c d → shoelace c ≡ shoelace d
unfolding shoelace
area_after_step c d s = let r = s.removable in
    area_after _ _ _ _ _ (sum_without area_of_edge c s.place (omega (arith, r.enough)) r.within) (area_of_two _ _ _) r.passes
    ∙ ap (λ (e : List Point). sum_of area_of_edge (edges e)) (sym s.left)

-- removing zero turns keeps twice the area
pub area_kept : (c d : List Point) → Reach IsZeroTurn c d → shoelace c ≡ shoelace d
area_kept c d stay = refl
area_kept c d (step {d = m} s r) = area_after_step c m s ∙ area_kept m d r
