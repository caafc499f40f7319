-- The walk over a contour that starts from its last point and sums what each edge adds to the winding number.
use Rattle.std.proofs.Common.{◌≡◌, ◌⊎◌, ℕ, suc, ◌+◌, ◌-◌, ◌^◌, ◌<◌, ◌≤◌, List, [], ◌∷◌, length, drop, get_or, ℤ, pos, negsuc, ◌+ℤ◌, ◌-ℤ◌, ◌≤ℤ◌, int_lt, FitsSigned, w32, w64, to_z, of_z, refl, sym, ap, subst, ◌∙◌, arith, inl, inr, eq-or-lt_of_le, Bool, true, false, cond}
use Rattle.std.proofs.lemmas.Int.{ints, to_z-of_z}
use Rattle.std.proofs.lemmas.List.{get_or_default}
use Rattle.i_shape_core.proofs.Common.{Point, point_of, contour_of, IntPoint, edges_between, sum_of, is_right, last_of}
use Rattle.i_shape_core.specs.Winding.{level, winding_of_edge, winding, IsWithinHalf}
use Rattle.std.specs.Int.{Width}
use Rattle.std.proofs.Math.IntN.{+ℤ_assoc}
use Rattle.i_shape_core.proofs.Plane.Contours.{rest-read, rest-none}
use Rattle.i_shape_core.proofs.Plane.CrossProducts.{edge}
use Rattle.i_shape_core.proofs.Sums.Inside.{right_when}
use Rattle.i_shape_core.proofs.Arithmetic.Products.{InReach, fits-reach, reach-fits}
use Rattle.i_shape_core.proofs.Sums.InsideWalk.{path_over, walk_sum}

-- ---- one edge
-- an edge that isn't right of p adds nothing
pub adds_nothing : (p a b : Point) (r : Bool) → r ≡ is_right p (edge a b) → r ≡ false → pos 0 ≡ winding_of_edge p (edge a b)
unfolding winding_of_edge
adds_nothing p a b r e f = rw (sym e ∙ f) refl

-- an edge right of p adds 1 if its end lies above p, otherwise -1
adds_or_takes_one : (p a b : Point) (r s : Bool) → r ≡ is_right p (edge a b) → r ≡ true → s ≡ int_lt p.y b.y → cond s (pos 1) (negsuc 0) ≡ winding_of_edge p (edge a b)
unfolding winding_of_edge
adds_or_takes_one p a b r s e f g = go (int_lt p.y a.y) (int_lt p.y b.y) refl refl
  where
    go : (t u : Bool) → int_lt p.y a.y ≡ t → int_lt p.y b.y ≡ u → cond s (pos 1) (negsuc 0) ≡ winding_of_edge p (edge a b)
    go true true h k = let no = right_when p a b true true h k in absurd (cc)
    go false false h k = let no = right_when p a b false false h k in absurd (cc)
    go true false h k = rw (g, sym e ∙ f, h, k) refl
    go false true h k = rw (g, sym e ∙ f, h, k) refl

-- an edge right of p adds 1 if its end lies above p
pub adds_one : (p a b : Point) (r s : Bool) → r ≡ is_right p (edge a b) → r ≡ true → s ≡ int_lt p.y b.y → s ≡ true → pos 1 ≡ winding_of_edge p (edge a b)
adds_one p a b r s e f g h = ap (λ (t : Bool). cond t (pos 1) (negsuc 0)) (sym h) ∙ adds_or_takes_one p a b r s e f g

-- an edge right of p adds -1 if its end isn't above p
pub takes_one : (p a b : Point) (r s : Bool) → r ≡ is_right p (edge a b) → r ≡ true → s ≡ int_lt p.y b.y → s ≡ false → negsuc 0 ≡ winding_of_edge p (edge a b)
takes_one p a b r s e f g h = ap (λ (t : Bool). cond t (pos 1) (negsuc 0)) (sym h) ∙ adds_or_takes_one p a b r s e f g

-- how far the total can be from 0 after i edges: half of i, and a half more on one side if the walk is now on the other
-- side of the height of p than at the start
pub record IsNear (i : ℕ) (first here total : ℤ) : Type 0 where
  pub most : (total +ℤ total +ℤ first) ≤ℤ (pos i +ℤ here)
  pub least : here ≤ℤ (total +ℤ total +ℤ first +ℤ pos i)

record IsEdgeNear (a b w : ℤ) : Type 0 where
  most : (w +ℤ w +ℤ a) ≤ℤ (pos 1 +ℤ b)
  least : b ≤ℤ (w +ℤ w +ℤ a +ℤ pos 1)

edge_near : (p a b : Point) → IsEdgeNear (level p a) (level p b) (winding_of_edge p (edge a b))
unfolding winding_of_edge
edge_near p a b = go (is_right p (edge a b)) (int_lt p.y a.y) (int_lt p.y b.y) refl refl refl
  where
    made : (r s t : Bool) → IsEdgeNear (cond s (pos 1) (pos 0)) (cond t (pos 1) (pos 0)) (cond r (cond t (pos 1) (pos 0) -ℤ cond s (pos 1) (pos 0)) (pos 0))
    made true true true = record { most = omega (arith, ints); least = omega (arith, ints) }
    made true true false = record { most = omega (arith, ints); least = omega (arith, ints) }
    made true false true = record { most = omega (arith, ints); least = omega (arith, ints) }
    made true false false = record { most = omega (arith, ints); least = omega (arith, ints) }
    made false true true = record { most = omega (arith, ints); least = omega (arith, ints) }
    made false true false = record { most = omega (arith, ints); least = omega (arith, ints) }
    made false false true = record { most = omega (arith, ints); least = omega (arith, ints) }
    made false false false = record { most = omega (arith, ints); least = omega (arith, ints) }

    go : (r s t : Bool) → is_right p (edge a b) ≡ r → int_lt p.y a.y ≡ s → int_lt p.y b.y ≡ t → IsEdgeNear (level p a) (level p b) (winding_of_edge p (edge a b))
    go r s t e f g = rw (e, f, g) (made r s t)

one_nearer : (i : ℕ) (first a b total w : ℤ) → IsNear i first a total → IsEdgeNear a b w → IsNear (i + 1) first b (total +ℤ w)
one_nearer i first a b total w n e =
    let m = n.most in
    let l = n.least in
    let x = e.most in
    let y = e.least in
    record { most = omega (arith, ints); least = omega (arith, ints) }

-- one more edge keeps the total as near to 0 as `IsNear` says
pub near_step : (p a b : Point) (i : ℕ) (first total : ℤ) → IsNear i first (level p a) total → IsNear (i + 1) first (level p b) (total +ℤ winding_of_edge p (edge a b))
near_step p a b i first total n = one_nearer i first (level p a) (level p b) total (winding_of_edge p (edge a b)) n (edge_near p a b)

-- before the first edge the total is 0
pub near_first : (first : ℤ) → IsNear 0 first first (pos 0)
near_first first = record { most = omega (arith, ints); least = omega (arith, ints) }

-- what the edges of a path add up to is as near to 0 as `IsNear` says
path_near : (p a : Point) (bs : List Point) (z : Point) → IsNear (suc (length bs)) (level p a) (level p z) (sum_of (winding_of_edge p) (edges_between a bs z))
path_near p a [] z =
    let one = edge_near p a z in
    let most = one.most in
    let least = one.least in
    record { most = omega (arith, ints); least = omega (arith, ints) }
path_near p a (b ∷ bs) z =
    let one = edge_near p a b in
    let rest = path_near p b bs z in
    let most = one.most in
    let least = one.least in
    let rest_most = rest.most in
    let rest_least = rest.least in
    record { most = omega (arith, ints); least = omega (arith, ints) }

-- the winding number is at most half the number of points from 0
pub winding_half : (c : List Point) (p : Point) → IsWithinHalf (length c) (winding c p)
unfolding winding
winding_half [] p = record { most = omega (arith, ints); least = omega (arith, ints) }
winding_half (a ∷ bs) p =
    let near = path_near p a bs a in
    let most = near.most in
    let least = near.least in
    record { most = omega (arith, ints); least = omega (arith, ints) }

-- a contour without points has winding number 0
pub no_points : {I : Type 0} (value : I → ℤ) (p : Point) (cs : List (IntPoint I)) → length cs ≤ 0 → pos 0 ≡ winding (contour_of value cs) p
unfolding winding
no_points value p [] h = refl
no_points value p (x ∷ xs) h = absurd (omega arith)

-- ---- the walk
-- what the edges of the path from q over the points add to the winding number about p
abbrev pub winding_over : Point → Point → List Point → ℤ
winding_over p q ps = sum_of (winding_of_edge p) (path_over q ps)

-- at index i, what the edge to point i adds moves from the rest to the total
pub walk_edge : {I : Type 0} (value : I → ℤ) (p : Point) (cs : List (IntPoint I)) (i : ℕ) (start x : IntPoint I) (t w s : ℤ) → i < length cs → x ≡ get_or cs i x
    → w ≡ winding_of_edge p (edge (point_of value start) (point_of value x)) → t +ℤ winding_over p (point_of value start) (contour_of value (drop i cs)) ≡ s
    → t +ℤ w +ℤ winding_over p (point_of value x) (contour_of value (drop (i + 1) cs)) ≡ s
walk_edge value p cs i start x t w s h e f g =
    let k = subst (λ (ps : List Point). t +ℤ winding_over p (point_of value start) ps ≡ s) (rest-read value cs i x h e) g in
    rw f (+ℤ_assoc t (winding_of_edge p (edge (point_of value start) (point_of value x))) (winding_over p (point_of value x) (contour_of value (drop (i + 1) cs))) ∙ k)

-- the edges of the walk from the last point over all points add up to the winding number
pub walk_all : {I : Type 0} (value : I → ℤ) (p : Point) (cs : List (IntPoint I)) (last : IntPoint I) → 0 < length cs → last ≡ get_or cs (length cs - 1) last
    → winding_over p (point_of value last) (contour_of value cs) ≡ winding (contour_of value cs) p
unfolding winding
walk_all value p cs last h e = walk_sum value (winding_of_edge p) cs last h e

-- at the end the total is the winding number
pub walk_over : {I : Type 0} (value : I → ℤ) (p : Point) (cs : List (IntPoint I)) (i : ℕ) (start last : IntPoint I) (t : ℤ) → length cs ≤ i → 0 < length cs → last ≡ get_or cs (length cs - 1) last
    → t +ℤ winding_over p (point_of value start) (contour_of value (drop i cs)) ≡ winding_over p (point_of value last) (contour_of value cs) → t ≡ winding (contour_of value cs) p
walk_over value p cs i start last t h some e f =
    plus_none t ∙ ap (λ (ps : List Point). t +ℤ winding_over p (point_of value start) ps) (sym (rest-none value cs i h)) ∙ f ∙ walk_all value p cs last some e
  where
    plus_none : (t : ℤ) → t ≡ t +ℤ pos 0
    plus_none t = omega (arith, ints)

-- ---- the winding number fits
level_cases : (p a : Point) → (level p a ≡ pos 0) ⊎ (level p a ≡ pos 1)
level_cases p a = go (int_lt p.y a.y) refl
  where
    go : (t : Bool) → int_lt p.y a.y ≡ t → (level p a ≡ pos 0) ⊎ (level p a ≡ pos 1)
    go true e = inr (rw e refl)
    go false e = inl (rw e refl)

-- the last point of the walk is the one that it started from
back_at_last : {I : Type 0} (cs : List (IntPoint I)) (i : ℕ) (last x : IntPoint I) → last ≡ get_or cs (length cs - 1) last → i < length cs → x ≡ get_or cs i x → i + 1 ≡ length cs → x ≡ last
back_at_last cs i last x e h f g = f ∙ get_or_default cs i x last h ∙ ap (λ (j : ℕ). get_or cs j last) (omega arith) ∙ sym e

total_bounded : (m n : ℕ) (first here total : ℤ) → IsNear m first here total → (first ≡ pos 0) ⊎ (first ≡ pos 1) → (here ≡ pos 0) ⊎ (here ≡ pos 1) → (m ≡ n → here ≡ first) → m ≤ n → n < 2 ^ 64 → InReach (2 ^ 63) total
total_bounded m n first here total near f g same h room = elim (eq-or-lt_of_le h) [
  | inl e ↦ let most = near.most in let l = near.least in let s = same e in record { from = omega (arith, ints); below = omega (arith, ints) }
  | inr k ↦ let most = near.most in let l = near.least in record { from = omega (arith, ints); below = omega (arith, ints) }
]

-- the total fits a signed number of 64 bits
pub total_fits : {I : Type 0} (value : I → ℤ) (p : Point) (cs : List (IntPoint I)) (i : ℕ) (start last x : IntPoint I) (t w : ℤ) → last ≡ get_or cs (length cs - 1) last → i < length cs → length cs < 2 ^ 64 → x ≡ get_or cs i x
    → w ≡ winding_of_edge p (edge (point_of value start) (point_of value x)) → IsNear i (level p (point_of value last)) (level p (point_of value start)) t → FitsSigned w64 (t +ℤ w)
total_fits value p cs i start last x t w e h room f g near =
    reach-fits w64 (t +ℤ w) (total_bounded (i + 1) (length cs) (level p (point_of value last)) (level p (point_of value x)) (t +ℤ w)
    (rw g (near_step p (point_of value start) (point_of value x) i (level p (point_of value last)) t near))
    (level_cases p (point_of value last)) (level_cases p (point_of value x))
    (λ k. ap (λ (y : IntPoint _). level p (point_of value y)) (back_at_last cs i last x e h f k)) (omega arith) room)

-- the program's sum is the sum if it fits
pub total_added : (w : Width) (t r : ℤ) → FitsSigned w (t +ℤ r) → FitsSigned w r → to_z w (of_z w (t +ℤ to_z w (of_z w r))) ≡ t +ℤ r
total_added w t r f g = rw (to_z-of_z w r g) (to_z-of_z w (t +ℤ r) f)

-- ---- a walk by parts
-- a walk over the whole contour, from its last point `first`, is at q, has summed up `total`, and `rest` is to come
pub record IsWalked (p first : Point) (whole : List Point) (q : Point) (rest : List Point) (total : ℤ) : Type 0 where
  pub within : length rest ≤ length whole
  pub near : (done : ℕ) → done + length rest ≡ length whole → IsNear done (level p first) (level p q) total
  pub closes : last_of q rest ≡ first
  pub told : total +ℤ winding_over p q rest ≡ winding_over p first whole

wider : (r : ℤ) → FitsSigned w32 r → FitsSigned w64 r
wider r f = let reach = fits-reach w32 r f in let from = reach.from in let below = reach.below in reach-fits w64 r (record { from = omega (arith, ints); below = omega (arith, ints) })
