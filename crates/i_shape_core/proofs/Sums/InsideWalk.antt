-- The walk over a contour that starts from its last point and counts the edges right of a point.
use Rattle.std.proofs.Common.{◌≡◌, ℕ, ◌+◌, ◌%◌, ◌<◌, ◌≤◌, List, [], ◌∷◌, ◌++◌, length, drop, get_or, ℤ, pos, int_lt, refl, sym, ap, ◌∙◌, arith, ◌↔◌, Bool, true, false, not, cond, ◌&&◌, count_by, IsTrue, ◌-◌}
use Rattle.i_shape_core.proofs.Common.{point_of, contour_of, IntPoint, Point, origin, cross, last_of}
use Rattle.std.proofs.lemmas.List.Sums.{sum_by-cons}
use mathlib.Core.Bool.{beq}
use Rattle.std.proofs.Math.IntN.{+ℤ_comm}
use Rattle.i_shape_core.specs.Edges.{Edge, edges_between, edges, sum_of, is_right, Inside}
use Rattle.i_shape_core.proofs.Plane.Contours.{rest-read, rest-none}
use Rattle.i_shape_core.proofs.Plane.CrossProducts.{edge}
use Rattle.i_shape_core.proofs.Arithmetic.WholeNumbers.{pos_injective}
use Rattle.i_shape_core.proofs.Sums.Edges.{sum_push}
use Rattle.i_shape_core.proofs.Sums.Inside.{bit_of, bit_of_edge, right_when, count_as_sum}

-- an edge is right of p exactly if its ends are on different sides of the height of p, and p is left of it read upwards
pub right_told : (p a b : Point) (s t : Bool) → s ≡ int_lt p.y a.y → t ≡ int_lt p.y b.y → not (beq s t) && int_lt (cross (cond s b a) p (cond s a b)) (pos 0) ≡ is_right p (edge a b)
right_told p a b true true e f = sym (right_when p a b true true (sym e) (sym f))
right_told p a b true false e f = sym (right_when p a b true false (sym e) (sym f))
right_told p a b false true e f = sym (right_when p a b false true (sym e) (sym f))
right_told p a b false false e f = sym (right_when p a b false false (sym e) (sym f))

-- the edges of the path from q over the points
abbrev pub path_over : Point → List Point → List Edge
path_over q [] = []
path_over q (p ∷ ps) = edge q p ∷ path_over p ps

-- the edges of a path from a to z are those over its points and the last one, to z
pub between_is : (a : Point) (bs : List Point) (z : Point) → edges_between a bs z ≡ path_over a bs ++ edge (last_of a bs) z ∷ []
between_is a [] z = refl
between_is a (b ∷ bs) z = ap (λ (es : List Edge). edge a b ∷ es) (between_is b bs z)

-- one more edge flips the parity if it is right of p
flipped : (s r : Bool) (n m : ℕ) → (bit_of s + (bit_of r + n)) % 2 ≡ m → (bit_of (cond r (not s) s) + n) % 2 ≡ m
flipped true true n m e = omega arith
flipped true false n m e = omega arith
flipped false true n m e = omega arith
flipped false false n m e = omega arith

-- ---- over the points of a program
last_item : {I : Type 0} (value : I → ℤ) (x : IntPoint I) (xs : List (IntPoint I)) (d : IntPoint I) → point_of value (get_or (x ∷ xs) (length xs) d) ≡ last_of (point_of value x) (contour_of value xs)
last_item value x [] d = refl
last_item value x (y ∷ xs) d = last_item value y xs d

-- the last point of the program's list is the last point of the contour
pub last_point : {I : Type 0} (value : I → ℤ) (cs : List (IntPoint I)) (last : IntPoint I) → 0 < length cs → last ≡ get_or cs (length cs - 1) last → point_of value last ≡ last_of origin (contour_of value cs)
last_point value [] last h e = absurd (omega arith)
last_point value (x ∷ xs) last h e = ap (point_of value) (e ∙ ap (λ (j : ℕ). get_or (x ∷ xs) j last) (let last : length (x ∷ xs) - 1 ≡ length xs = omega arith in last)) ∙ last_item value x xs last

-- summing f over the walk from the last point over all points is summing it over the contour's edges
pub walk_sum : {I : Type 0} (value : I → ℤ) (f : Edge → ℤ) (cs : List (IntPoint I)) (last : IntPoint I) → 0 < length cs → last ≡ get_or cs (length cs - 1) last
    → sum_of f (path_over (point_of value last) (contour_of value cs)) ≡ sum_of f (edges (contour_of value cs))
walk_sum value f [] last h e = absurd (omega arith)
walk_sum value f (x ∷ xs) last h e =
    let q = point_of value x in
    let ps = contour_of value xs in
    ap (λ (r : Point). sum_of f (path_over r (q ∷ ps))) (last_point value (x ∷ xs) last h e)
    ∙ +ℤ_comm (f (edge (last_of q ps) q)) (sum_of f (path_over q ps))
    ∙ sym (sum_push f (path_over q ps) (edge (last_of q ps) q))
    ∙ ap (sum_of f) (sym (between_is q ps q))

-- s is whether an odd number of edges so far are right of p; the walk is at q, and `rest` is to come
abbrev pub IsCounted : List Point → Point → Bool → Point → List Point → Type 0
IsCounted c p s q rest = (bit_of s + count_by (is_right p) (path_over q rest)) % 2 ≡ count_by (is_right p) (edges c) % 2

-- the walk starts at the last point
pub counted_start : {I : Type 0} (value : I → ℤ) (p : Point) (cs : List (IntPoint I)) (last : IntPoint I) → 0 < length cs → last ≡ get_or cs (length cs - 1) last
    → IsCounted (contour_of value cs) p false (point_of value last) (contour_of value cs)
counted_start value p cs last h e =
    let all = pos_injective _ _ (sym (count_as_sum p (path_over (point_of value last) (contour_of value cs))) ∙ walk_sum value (λ e. pos (bit_of_edge p e)) cs last h e ∙ count_as_sum p (edges (contour_of value cs))) in
    rw all (omega arith)

-- the walk goes on to the next point
pub counted_more : {I : Type 0} (value : I → ℤ) (p : Point) (cs : List (IntPoint I)) (i : ℕ) (start x : IntPoint I) (s r : Bool) → i < length cs → x ≡ get_or cs i x
    → r ≡ is_right p (edge (point_of value start) (point_of value x)) → IsCounted (contour_of value cs) p s (point_of value start) (contour_of value (drop i cs))
    → IsCounted (contour_of value cs) p (cond r (not s) s) (point_of value x) (contour_of value (drop (i + 1) cs))
counted_more value p cs i start x s r h e f w =
    let rest = contour_of value (drop (i + 1) cs) in
    rw f (flipped s (is_right p (edge (point_of value start) (point_of value x))) (count_by (is_right p) (path_over (point_of value x) rest)) _
    (ap (λ (n : ℕ). (bit_of s + n) % 2) (sym (sum_by-cons (bit_of_edge p) (edge (point_of value start) (point_of value x)) (path_over (point_of value x) rest))) ∙ rw (rest-read value cs i x h e) at w))

-- at the end s is whether p is inside
pub counted_end : {I : Type 0} (value : I → ℤ) (p : Point) (cs : List (IntPoint I)) (i : ℕ) (start : IntPoint I) (s : Bool) → length cs ≤ i
    → IsCounted (contour_of value cs) p s (point_of value start) (contour_of value (drop i cs)) → IsTrue s ↔ Inside (contour_of value cs) p
unfolding Inside
counted_end value p cs i start true h w = let e = rw (rest-none value cs i h) at w in (λ t. sym e ∙ refl, λ t. refl)
counted_end value p cs i start false h w = let e = rw (rest-none value cs i h) at w in (λ t. absurd (cc), λ t. absurd (omega arith))
