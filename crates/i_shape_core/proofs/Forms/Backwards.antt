-- A contour read backwards: its edges, its canonical form and the contours it is joined to.
use Rattle.std.proofs.Common.{◌≡◌, ℕ, ◌%◌, ◌≤◌, ◌↔◌, List, [], ◌∷◌, ◌++◌, length, map, reverse, ℤ, pos, neg_ℤ, Bool, true, false, cond, int_lt, count_by, refl, sym, ap, ◌∙◌, subst, arith}
use Rattle.std.proofs.lemmas.Int.{ints}
use Rattle.std.proofs.lemmas.List.{reverse-append, reverse-reverse, length-reverse, map-append}
use Rattle.i_shape_core.proofs.Common.{Point, cross, IsZeroTurn, point_of, contour_of, IntPoint, Step, Rotation, IsLeast, IsCanonical, by_rotation, by_removal, by_insertion, Joined, alone, link}
use Rattle.i_shape_core.specs.Edges.{Edge, edges_between, edges, sum_of, area_of_edge, shoelace, is_above, is_right, Inside}
use Rattle.i_shape_core.proofs.Arithmetic.WholeNumbers.{pos_injective}
use Rattle.i_shape_core.proofs.Arithmetic.Polynomials.{variable, plus, times, minus, by_polynomials}
use Rattle.i_shape_core.proofs.Sums.Edges.{sum_alike}
use Rattle.i_shape_core.proofs.Removal.Rotations.{rotation_sym, rotation_trans, rotation_length}
use Rattle.i_shape_core.proofs.Removal.Steps.{cycle_step_of_step, step_of_cycle_step}
use Rattle.i_shape_core.proofs.Removal.Reversal.{rotation_of_reversed, cycle_step_of_reversed, end_of_reversed}
use Rattle.i_shape_core.proofs.Removal.ZeroTurns.{zero_turn_both_ways, every_order}
use Rattle.i_shape_core.proofs.Sums.Inside.{bit_of_edge, count_as_sum, bit_of}
use Rattle.i_shape_core.proofs.Sums.RotatedEdges.{cut_path, same_sum}

-- an edge with its ends swapped
abbrev flip : Edge → Edge
flip e = record { start = e.end; end = e.start }

path_reversed : (f : Edge → ℤ) (a : Point) (u : List Point) (z : Point) → sum_of f (edges_between a (reverse u) z) ≡ sum_of (λ e. f (flip e)) (edges_between z u a)
path_reversed f a [] z = refl
path_reversed f a (p ∷ u) z =
    let apart : reverse (p ∷ u) ≡ reverse u ++ p ∷ [] = reverse-append (p ∷ []) u in
    let cut = cut_path f a (reverse u) p [] z in
    let rest = path_reversed f a u p in
    ap (λ w. sum_of f (edges_between a w z)) apart ∙ omega (arith, ints)

-- the edges of a contour read backwards are its edges with their ends swapped
sum_reversed : (f : Edge → ℤ) (c : List Point) → sum_of f (edges (reverse c)) ≡ sum_of (λ e. f (flip e)) (edges c)
sum_reversed f [] = refl
sum_reversed f (a ∷ u) =
    same_sum f (reverse (a ∷ u)) (a ∷ reverse u) (record { front = reverse u; back = a ∷ []; before = reverse-append (a ∷ []) u; after = refl }) ∙ path_reversed f a u a

area_flipped : (e : Edge) → area_of_edge (flip e) ≡ neg_ℤ (area_of_edge e)
unfolding area_of_edge
area_flipped e = by_polynomials (e.start.x ∷ e.start.y ∷ e.end.x ∷ e.end.y ∷ [])
    (plus (times (variable 2) (variable 1)) (minus (times (variable 3) (variable 0))))
    (minus (plus (times (variable 0) (variable 3)) (minus (times (variable 1) (variable 2))))) refl

sum_negated : (f : Edge → ℤ) (es : List Edge) → sum_of (λ e. neg_ℤ (f e)) es ≡ neg_ℤ (sum_of f es)
sum_negated f [] = refl
sum_negated f (e ∷ es) =
    let rest = sum_negated f es in
    omega (arith, ints)

-- reading a contour backwards negates its double area
pub shoelace_reversed : (c : List Point) → shoelace (reverse c) ≡ neg_ℤ (shoelace c)
unfolding shoelace
shoelace_reversed c = sum_reversed area_of_edge c ∙ sum_alike (λ e. area_of_edge (flip e)) (λ e. neg_ℤ (area_of_edge e)) area_flipped (edges c) ∙ sum_negated area_of_edge (edges c)

right_flipped : (p : Point) (e : Edge) → is_right p (flip e) ≡ is_right p e
unfolding is_right
right_flipped p e = go (is_above p e.start) (is_above p e.end) (int_lt (cross e.end p e.start) (pos 0)) (int_lt (cross e.start p e.end) (pos 0))
  where
    go : (s t x y : Bool) → cond t (cond s false y) (cond s x false) ≡ cond s (cond t false x) (cond t y false)
    go true true x y = refl
    go true false x y = refl
    go false true x y = refl
    go false false x y = refl

count_reversed : (p : Point) (c : List Point) → count_by (is_right p) (edges (reverse c)) ≡ count_by (is_right p) (edges c)
count_reversed p c = pos_injective _ _ (sym (count_as_sum p (edges (reverse c))) ∙ sum_reversed (λ e. pos (bit_of_edge p e)) c ∙ sum_alike _ _ (λ e. ap (λ b. pos (bit_of b)) (right_flipped p e)) (edges c) ∙ count_as_sum p (edges c))

-- reading a contour backwards keeps the points inside
pub inside_reversed : (c : List Point) (p : Point) → Inside (reverse c) p ↔ Inside c p
unfolding Inside
inside_reversed c p = let same = ap (λ (n : ℕ). n % 2) (count_reversed p c) in (λ h. sym same ∙ h, λ h. same ∙ h)

-- the least rotation of the canonical form read backwards is the canonical form of the contour read backwards
pub canonical_reversed : (c f b : List Point) → IsCanonical c f → IsLeast (reverse f) b → IsCanonical (reverse c) b
canonical_reversed c f b a l =
    let m = end_of_reversed zero_turn_both_ways a.ends.ended in
    let around : Rotation (reverse f) m.0 = rotation_trans (rotation_sym (rotation_of_reversed a.least.rotation)) m.2 in
    let enough : 3 ≤ length m.0 = omega (arith, rotation_length m.2, length-reverse a.end, a.ends.enough) in
    record {
      end = m.0;
      ends = record { ended = m.1; enough = enough; alone = λ g w. ((every_order (reverse c)).some m.0 g m.1 enough w).1 };
      least = record { rotation = rotation_trans (rotation_sym around) l.rotation; first = λ d r. l.first d (rotation_trans around r) };
    }

-- a step read backwards is a step, up to rotation
step_reversed : {c d : List Point} → Step IsZeroTurn c d → (x : List Point) × Step IsZeroTurn (reverse c) x × Rotation (reverse d) x
step_reversed s = step_of_cycle_step (cycle_step_of_reversed zero_turn_both_ways (cycle_step_of_step s))

reversed_long : (c : List Point) → 3 ≤ length c → 3 ≤ length (reverse c)
reversed_long c h = omega (arith, length-reverse c)

rotated_long : {c d : List Point} → Rotation c d → 3 ≤ length c → 3 ≤ length d
rotated_long r h = omega (arith, rotation_length r)

first_long : {c d : List Point} → Joined IsZeroTurn c d → 3 ≤ length c
first_long (alone h) = h
first_long (link h l j) = h

-- contours read backwards are joined if the contours are
pub joined_reversed : {c d : List Point} → Joined IsZeroTurn c d → Joined IsZeroTurn (reverse c) (reverse d)
joined_reversed {c} (alone h) = alone (reversed_long c h)
joined_reversed {c} (link h (by_rotation r) j) = link (reversed_long c h) (by_rotation (rotation_of_reversed r)) (joined_reversed j)
joined_reversed {c} (link h (by_removal s) j) =
    let rest = joined_reversed j in
    let t = step_reversed s in
    link (reversed_long c h) (by_removal t.1) (link (rotated_long t.2 (first_long rest)) (by_rotation (rotation_sym t.2)) rest)
joined_reversed {c} (link h (by_insertion s) j) =
    let t = step_reversed s in
    link (reversed_long c h) (by_rotation t.2) (link (rotated_long t.2 (reversed_long c h)) (by_insertion t.1) (joined_reversed j))

-- if c read backwards is joined to d, c is joined to d read backwards
pub joined_back : {c d : List Point} → Joined IsZeroTurn (reverse c) d → Joined IsZeroTurn c (reverse d)
joined_back {c} {d} j = subst (λ (w : List Point). Joined IsZeroTurn w (reverse d)) (reverse-reverse c) (joined_reversed j)

-- reading the program's points backwards reads the contour backwards
pub contour_reversed : {I : Type 0} (value : I → ℤ) (points : List (IntPoint I)) → contour_of value (reverse points) ≡ reverse (contour_of value points)
contour_reversed value [] = refl
contour_reversed value (p ∷ points) =
    ap (map (point_of value)) (reverse-append (p ∷ []) points) ∙ map-append (point_of value) (reverse points) (p ∷ [])
    ∙ ap (λ w. w ++ point_of value p ∷ []) (contour_reversed value points) ∙ sym (reverse-append (point_of value p ∷ []) (contour_of value points))
