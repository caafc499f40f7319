-- Removing zero turns and rotation keep the winding number about a point with rational coordinates; reversal negates
-- it.
use Rattle.std.proofs.Common.{◌≡◌, ℤ, pos, neg_ℤ, List, [], ◌∷◌, ◌++◌, map, reverse, refl, sym, ap, ◌∙◌, arith}
use Rattle.std.proofs.lemmas.List.{length-map, map-append, reverse-append}
use Rattle.i_shape_core.proofs.Common.{Point, IsZeroTurn, Reach, Rotation, IsCollapsed}
use Rattle.i_shape_core.specs.Winding.{winding, winding_of_edge}
use Rattle.i_shape_core.specs.Moves.{moved_point, moved, scaling}
use Rattle.i_shape_core.proofs.Sums.RotatedEdges.{same_sum}
use Rattle.i_shape_core.proofs.Sums.Windings.{winding_kept, winding_none, winding_reversed}
use Rattle.i_shape_core.proofs.Moved.Mapped.{reach_mapped, rotation_mapped}
use Rattle.i_shape_core.proofs.Moved.ZeroTurns.{zero_moved}

-- removing zero turns keeps the winding number about each point with rational coordinates
pub winding_between : (c d : List Point) → Reach IsZeroTurn c d → (n : ℤ) (p : Point) → winding (moved (scaling n) c) p ≡ winding (moved (scaling n) d) p
winding_between c d r n = winding_kept (moved (scaling n) c) (moved (scaling n) d) (reach_mapped (moved_point (scaling n)) (zero_moved (scaling n)) r)

-- fewer than three points have winding number 0
pub between_none : (d : List Point) → IsCollapsed d → (n : ℤ) (p : Point) → winding (moved (scaling n) d) p ≡ pos 0
between_none d h n p = winding_none (moved (scaling n) d) (omega (arith, length-map d (moved_point (scaling n)), h)) p

-- rotations have the same winding number about each point with rational coordinates
pub between_rotated : {e l : List Point} → Rotation e l → (n : ℤ) (p : Point) → winding (moved (scaling n) e) p ≡ winding (moved (scaling n) l) p
unfolding winding
between_rotated {e} {l} r n p = same_sum (winding_of_edge p) (moved (scaling n) e) (moved (scaling n) l) (rotation_mapped (moved_point (scaling n)) r)

map_reversed : (f : Point → Point) (c : List Point) → map f (reverse c) ≡ reverse (map f c)
map_reversed f [] = refl
map_reversed f (a ∷ c) = ap (map f) (reverse-append (a ∷ []) c) ∙ map-append f (reverse c) (a ∷ []) ∙ ap (λ (l : List Point). l ++ f a ∷ []) (map_reversed f c) ∙ sym (reverse-append (f a ∷ []) (map f c))

-- reading a contour backwards negates its winding number about each point with rational coordinates
pub between_reversed : (c : List Point) (n : ℤ) (p : Point) → winding (moved (scaling n) (reverse c)) p ≡ neg_ℤ (winding (moved (scaling n) c) p)
between_reversed c n p = ap (λ (d : List Point). winding d p) (map_reversed (moved_point (scaling n)) c) ∙ winding_reversed (moved (scaling n) c) p
