-- Laws of contours that an affine map moves, and of their edges.
use Rattle.std.specs.Prelude.{◌≡◌, ◌<ℤ◌, ◌↔◌, ℤ, pos, neg_ℤ, List, Option, option_map}
use Rattle.i_shape_core.specs.Point.{Point, IsZeroTurn, IsBack}
use Rattle.i_shape_core.specs.Contour.{Reach, End}
use Rattle.i_shape_core.specs.Cleaners.{SimpleAnswer, DespikeAnswer}
use Rattle.i_shape_core.specs.Moves.{Move, determinant, moved_point, moved, scaling}
use Rattle.i_shape_core.specs.Winding.{winding}
use Rattle.i_shape_core.specs.Boundary.{IsOnEdge}

-- a contour and the moved one reach the same contours, moved, and have the same ends, moved, also if only back vertices
-- are removed, and the same results of a cleaner, moved
pub record MovedAlike (m : Move) (c : List Point) : Type 0 where
  pub reached : (d : List Point) → Reach IsZeroTurn c d ↔ Reach IsZeroTurn (moved m c) (moved m d)
  pub ends : (e : List Point) → End IsZeroTurn c e ↔ End IsZeroTurn (moved m c) (moved m e)
  pub every : (f : List Point) → End IsZeroTurn (moved m c) f → (e : List Point) × End IsZeroTurn c e × (f ≡ moved m e)
  pub backwards : (e : List Point) → End IsBack c e ↔ End IsBack (moved m c) (moved m e)
  pub answers : (r : Option (List Point)) → SimpleAnswer c r ↔ SimpleAnswer (moved m c) (option_map (moved m) r)
  pub despiked : (r : Option (List Point)) → DespikeAnswer c r ↔ DespikeAnswer (moved m c) (option_map (moved m) r)

-- a moved contour has the same winding number about the moved point, or the opposite one if the move mirrors the plane
pub record WindingMoved (m : Move) (c : List Point) (p : Point) : Type 0 where
  pub kept : pos 0 <ℤ determinant m → winding (moved m c) (moved_point m p) ≡ winding c p
  pub mirrored : determinant m <ℤ pos 0 → winding (moved m c) (moved_point m p) ≡ neg_ℤ (winding c p)

-- removals add no point to the edges; for n other than 0, the point with the coordinates p.x / n and p.y / n lies on an
-- edge of c exactly if p lies on an edge of c scaled by n
abbrev pub BoundaryWithin : List Point → List Point → Type 0
BoundaryWithin c d = Reach IsZeroTurn c d → (n : ℤ) (p : Point) → IsOnEdge (moved (scaling n) d) p → IsOnEdge (moved (scaling n) c) p
