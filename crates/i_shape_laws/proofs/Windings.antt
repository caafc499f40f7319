-- The parity of the winding number, and its laws.
use Rattle.std.proofs.Common.{◌≡◌, ℕ, ◌%◌, List, [], ◌∷◌, ℤ, pos, negsuc, ◌+ℤ◌, neg_ℤ, refl, sym, ◌∙◌, arith, ◌↔◌, Bool, true, false, cond, int_lt, count_by, unsigned_abs}
use Rattle.std.proofs.lemmas.Int.{ints}
use Rattle.std.proofs.lemmas.List.Sums.{sum_by-cons}
use Rattle.i_shape_core.specs.Point.{Point, cross}
use Rattle.i_shape_core.specs.Edges.{Edge, edges, sum_of, is_right, Inside}
use Rattle.i_shape_core.specs.Winding.{winding_of_edge, winding, IsOdd}
use Rattle.i_shape_laws.specs.Windings.{WindingKept, WindingRotated}
use Rattle.i_shape_core.proofs.Plane.CrossProducts.{edge}
use Rattle.i_shape_core.proofs.Sums.Inside.{right_when}
use Rattle.i_shape_core.proofs.Sums.RotatedEdges.{same_sum}
use Rattle.i_shape_core.proofs.Sums.Windings.{bit, flat, goes_up, goes_down, winding_kept, winding_none, winding_reversed}

-- ---- parity
-- z and n differ by an even number
record Passed (z : ℤ) (n : ℕ) : Type 0 where
  half : ℤ
  is : pos n ≡ z +ℤ (half +ℤ half)

passed_edge : (p a b : Point) → Passed (winding_of_edge p (edge a b)) (cond (is_right p (edge a b)) 1 0)
passed_edge p a b = go (int_lt p.y a.y) (int_lt p.y b.y) refl refl
  where
    upwards : (t : Bool) → Passed (bit t) (cond t 1 0)
    upwards true = record { half = pos 0; is = refl }
    upwards false = record { half = pos 0; is = refl }

    downwards : (t : Bool) → Passed (neg_ℤ (bit t)) (cond t 1 0)
    downwards true = record { half = pos 1; is = refl }
    downwards false = record { half = pos 0; is = refl }

    go : (s t : Bool) → int_lt p.y a.y ≡ s → int_lt p.y b.y ≡ t → Passed (winding_of_edge p (edge a b)) (cond (is_right p (edge a b)) 1 0)
    go true true e f = rw (flat p a b true e f, right_when p a b true true e f) (upwards false)
    go false false e f = rw (flat p a b false e f, right_when p a b false false e f) (upwards false)
    go true false e f = rw (goes_down p a b e f, right_when p a b true false e f) (downwards (int_lt (cross b p a) (pos 0)))
    go false true e f = rw (goes_up p a b e f, right_when p a b false true e f) (upwards (int_lt (cross a p b) (pos 0)))

passed_edges : (p : Point) (es : List Edge) → Passed (sum_of (winding_of_edge p) es) (count_by (is_right p) es)
passed_edges p [] = record { half = pos 0; is = refl }
passed_edges p (e ∷ es) =
    let one = passed_edge p e.start e.end in
    let rest = passed_edges p es in
    record { half = one.half +ℤ rest.half; is = omega (arith, ints, one.is, rest.is, sum_by-cons (λ (f : Edge). cond (is_right p f) 1 0) e es) }

odd : (z : ℤ) (n : ℕ) → Passed z n → unsigned_abs z % 2 ≡ n % 2
odd (pos k) n w = omega (arith, ints, w.is)
odd (negsuc k) n w = omega (arith, ints, w.is)

-- a point is inside exactly if its winding number is odd
pub winding_parity : (c : List Point) (p : Point) → Inside c p ↔ IsOdd (winding c p)
unfolding winding Inside
winding_parity c p = let e = odd _ _ (passed_edges p (edges c)) in (λ h. e ∙ h, λ h. sym e ∙ h)

-- ---- the laws
pub winding_laws : (c d : List Point) → WindingKept c d
winding_laws c d = record { kept = winding_kept c d; none = winding_none c }

-- rotation keeps the winding numbers, reading backwards negates them
pub rotated_laws : (c d : List Point) → WindingRotated c d
unfolding winding
rotated_laws c d = record { rotated = λ r p. same_sum (winding_of_edge p) c d r; backwards = winding_reversed c }
