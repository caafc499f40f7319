-- Rotations have the same edges, so equal sums over them and as many right of a point.
use Rattle.std.proofs.Common.{◌≡◌, List, [], ◌∷◌, ◌++◌, ℤ, pos, ◌+ℤ◌, sym, ap, ◌∙◌, arith, append-nil, count_by}
use Rattle.std.proofs.lemmas.Int.{ints}
use Rattle.i_shape_core.proofs.Common.{Point, Rotation, Edge, edges_between, edges, sum_of, is_right}
use Rattle.i_shape_core.proofs.Arithmetic.WholeNumbers.{pos_injective}
use Rattle.i_shape_core.proofs.Sums.Inside.{bit_of_edge, count_as_sum}

-- a sum over the edges of a path through b is that of the path to b and that of the path from b
pub cut_path : (f : Edge → ℤ) (a : Point) (u : List Point) (b : Point) (t : List Point) (z : Point)
    → sum_of f (edges_between a (u ++ b ∷ t) z) ≡ sum_of f (edges_between a u b) +ℤ sum_of f (edges_between b t z)
cut_path f a [] b t z = omega (arith, ints)
cut_path f a (p ∷ u) b t z = let e = cut_path f p u b t z in omega (arith, ints)

same_sum_cut : (f : Edge → ℤ) (u t : List Point) → sum_of f (edges (u ++ t)) ≡ sum_of f (edges (t ++ u))
same_sum_cut f [] t = ap (λ (c : List Point). sum_of f (edges c)) (sym (append-nil t))
same_sum_cut f u [] = ap (λ (c : List Point). sum_of f (edges c)) (append-nil u)
same_sum_cut f (a ∷ u) (b ∷ t) =
    let there = cut_path f a u b t a in
    let back = cut_path f b t a u b in
    omega (arith, ints)

-- rotations have equal sums over their edges
pub same_sum : (f : Edge → ℤ) (c d : List Point) → Rotation c d → sum_of f (edges c) ≡ sum_of f (edges d)
same_sum f c d r =
    ap (λ (e : List Point). sum_of f (edges e)) r.before ∙ same_sum_cut f r.front r.back ∙ sym (ap (λ (e : List Point). sum_of f (edges e)) r.after)

-- rotations have as many edges right of p
pub same_count : (p : Point) (c d : List Point) → Rotation c d → count_by (is_right p) (edges c) ≡ count_by (is_right p) (edges d)
same_count p c d r = pos_injective _ _ (sym (count_as_sum p (edges c)) ∙ same_sum (λ e. pos (bit_of_edge p e)) c d r ∙ count_as_sum p (edges d))
