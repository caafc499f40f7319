-- Removing zero turns keeps the winding numbers.
use Rattle.std.proofs.Common.{◌≡◌, ◌<◌, List, [], ◌∷◌, ◌++◌, length, reverse, ℤ, pos, ◌+ℤ◌, ◌-ℤ◌, neg_ℤ, refl, sym, ap, ◌∙◌, arith, Bool, true, false, cond, int_lt}
use Rattle.std.proofs.lemmas.Int.{ints}
use Rattle.std.proofs.lemmas.List.{reverse-append}
use Rattle.i_shape_core.proofs.Common.{Point, cross, IsZeroTurn, Step, Reach, stay, step, Rotation, edges_between, edges, sum_of}
use Rattle.i_shape_core.proofs.Plane.CrossProducts.{edge, triangle_identity}
use Rattle.i_shape_core.proofs.Sums.Edges.{sum_without}
use Rattle.i_shape_core.proofs.Sums.Inside.{right_when, right_low, right_high, above_by_test, not_above}
use Rattle.i_shape_core.proofs.Sums.RotatedEdges.{cut_path, same_sum}
use Rattle.i_shape_core.specs.Winding.{winding_of_edge, winding}

-- ---- what one edge adds
-- 1 for true, 0 for false
abbrev pub bit : Bool → ℤ
bit t = cond t (pos 1) (pos 0)

-- an edge with both ends on one side of the height of p adds nothing
pub flat : (p a b : Point) (s : Bool) → int_lt p.y a.y ≡ s → int_lt p.y b.y ≡ s → winding_of_edge p (edge a b) ≡ pos 0
unfolding winding_of_edge
flat p a b true e f = rw (right_when p a b true true e f) refl
flat p a b false e f = rw (right_when p a b false false e f) refl

-- an edge that goes up past p adds 1 if it is right of p
pub goes_up : (p a b : Point) → int_lt p.y a.y ≡ false → int_lt p.y b.y ≡ true → winding_of_edge p (edge a b) ≡ bit (int_lt (cross a p b) (pos 0))
unfolding winding_of_edge
goes_up p a b e f = rw (right_when p a b false true e f, e, f) refl

-- an edge that goes down past p adds -1 if it is right of p
pub goes_down : (p a b : Point) → int_lt p.y a.y ≡ true → int_lt p.y b.y ≡ false → winding_of_edge p (edge a b) ≡ neg_ℤ (bit (int_lt (cross b p a) (pos 0)))
unfolding winding_of_edge
goes_down p a b e f = rw (right_when p a b true false e f, e, f) (taken (int_lt (cross b p a) (pos 0)))
  where
    taken : (t : Bool) → cond t (pos 0 -ℤ pos 1) (pos 0) ≡ neg_ℤ (cond t (pos 1) (pos 0))
    taken true = refl
    taken false = refl

-- if a, b and c are collinear, the edges ab and bc add what ac does
winding_of_two : (p a b c : Point) → cross a b c ≡ pos 0 → winding_of_edge p (edge a b) +ℤ winding_of_edge p (edge b c) ≡ winding_of_edge p (edge a c)
winding_of_two p a b c z = go (int_lt p.y a.y) (int_lt p.y b.y) (int_lt p.y c.y) refl refl refl
  where
    go : (s t u : Bool) → int_lt p.y a.y ≡ s → int_lt p.y b.y ≡ t → int_lt p.y c.y ≡ u → winding_of_edge p (edge a b) +ℤ winding_of_edge p (edge b c) ≡ winding_of_edge p (edge a c)
    go true true true e f g = rw (flat p a b true e f, flat p b c true f g, flat p a c true e g) refl
    go false false false e f g = rw (flat p a b false e f, flat p b c false f g, flat p a c false e g) refl
    go true true false e f g = rw (flat p a b true e f, goes_down p b c f g, goes_down p a c e g, right_high a b c p z (above_by_test p a e) (above_by_test p b f) (not_above p c g)) (omega (arith, ints))
    go false false true e f g = rw (flat p a b false e f, goes_up p b c f g, goes_up p a c e g, right_low a b c p z (not_above p a e) (not_above p b f) (above_by_test p c g)) (omega (arith, ints))
    go true false false e f g = rw (goes_down p a b e f, flat p b c false f g, goes_down p a c e g, right_low b c a p (triangle_identity b c a ∙ triangle_identity c a b ∙ z) (not_above p b f) (not_above p c g) (above_by_test p a e)) (omega (arith, ints))
    go false true true e f g = rw (goes_up p a b e f, flat p b c true f g, goes_up p a c e g, right_high b c a p (triangle_identity b c a ∙ triangle_identity c a b ∙ z) (above_by_test p b f) (above_by_test p c g) (not_above p a e)) (omega (arith, ints))
    go true false true e f g = rw (goes_down p a b e f, goes_up p b c f g, flat p a c true e g, right_high c a b p (triangle_identity c a b ∙ z) (above_by_test p c g) (above_by_test p a e) (not_above p b f)) (omega (arith, ints))
    go false true false e f g = rw (goes_up p a b e f, goes_down p b c f g, flat p a c false e g, right_low c a b p (triangle_identity c a b ∙ z) (not_above p c g) (not_above p a e) (above_by_test p b f)) (omega (arith, ints))

-- ---- removals
after_step : (s t e w : ℤ) → s +ℤ e ≡ t +ℤ w → w ≡ e → s ≡ t
after_step s t e w f g = omega (arith, ints)

winding_after_step : (p : Point) (c d : List Point) → Step IsZeroTurn c d → winding c p ≡ winding d p
unfolding winding
winding_after_step p c d s = let r = s.removable in
    after_step _ _ _ _ (sum_without (winding_of_edge p) c s.place (omega (arith, r.enough)) r.within) (winding_of_two p _ _ _ r.passes)
    ∙ ap (λ (e : List Point). sum_of (winding_of_edge p) (edges e)) (sym s.left)

-- removing zero turns keeps the winding number about each point
pub winding_kept : (c d : List Point) → Reach IsZeroTurn c d → (p : Point) → winding c p ≡ winding d p
winding_kept c d stay p = refl
winding_kept c d (step {d = m} s r) p = winding_after_step p c m s ∙ winding_kept m d r p

-- ---- backwards
-- an edge read backwards adds the negative
winding_flipped : (p a b : Point) → winding_of_edge p (edge b a) ≡ neg_ℤ (winding_of_edge p (edge a b))
winding_flipped p a b = go (int_lt p.y a.y) (int_lt p.y b.y) refl refl
  where
    go : (s t : Bool) → int_lt p.y a.y ≡ s → int_lt p.y b.y ≡ t → winding_of_edge p (edge b a) ≡ neg_ℤ (winding_of_edge p (edge a b))
    go true true e f = rw (flat p a b true e f, flat p b a true f e) refl
    go true false e f = rw (goes_down p a b e f, goes_up p b a f e) (omega (arith, ints))
    go false true e f = rw (goes_up p a b e f, goes_down p b a f e) refl
    go false false e f = rw (flat p a b false e f, flat p b a false f e) refl

-- a path read backwards adds the negative
path_reversed : (p a : Point) (u : List Point) (z : Point) → sum_of (winding_of_edge p) (edges_between a (reverse u) z) ≡ neg_ℤ (sum_of (winding_of_edge p) (edges_between z u a))
path_reversed p a [] z = let e = winding_flipped p z a in omega (arith, ints)
path_reversed p a (b ∷ u) z =
    let split = ap (λ (l : List Point). sum_of (winding_of_edge p) (edges_between a l z)) (reverse-append (b ∷ []) u) in
    let cut = cut_path (winding_of_edge p) a (reverse u) b [] z in
    let rest = path_reversed p a u b in
    let last = winding_flipped p z b in
    omega (arith, ints)

first_from_last : (c : List Point) (x : Point) (r : List Point) → c ≡ r ++ x ∷ [] → Rotation c (x ∷ r)
first_from_last c x r e = record { front = r; back = x ∷ []; before = e; after = refl }

-- reading a contour backwards negates its winding number about each point
pub winding_reversed : (c : List Point) (p : Point) → winding (reverse c) p ≡ neg_ℤ (winding c p)
unfolding winding
winding_reversed [] p = refl
winding_reversed (a ∷ u) p = same_sum (winding_of_edge p) (reverse (a ∷ u)) (a ∷ reverse u) (first_from_last (reverse (a ∷ u)) a (reverse u) (reverse-append (a ∷ []) u)) ∙ path_reversed p a u a

-- ---- few points
nothing : (p a : Point) → winding_of_edge p (edge a a) ≡ pos 0
nothing p a = flat p a a (int_lt p.y a.y) refl refl

-- fewer than three points have winding number 0
pub winding_none : (c : List Point) → length c < 3 → (p : Point) → winding c p ≡ pos 0
unfolding winding
winding_none [] h p = refl
winding_none (a ∷ []) h p = let e = nothing p a in omega (arith, ints)
winding_none (a ∷ b ∷ []) h p = let e = winding_flipped p a b in omega (arith, ints)
winding_none (a ∷ b ∷ c ∷ cs) h p = absurd (omega arith)
