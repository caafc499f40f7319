-- The laws of removal, over unbounded integers: what holds of the contours that removals reach.
use Rattle.std.specs.Prelude.{◌≡◌, ◌<◌, ◌≤◌, List, ◌∷◌, ◌++◌, reverse, length, ◌↔◌}
use Rattle.i_shape_core.specs.Point.{Point, IsZeroTurn, IsBack}
use Rattle.i_shape_core.specs.Contour.{Reach, End, Rotation, SameEnd, IsCollapsed, IsSimple}
use Rattle.i_shape_core.specs.Edges.{shoelace, Inside}
use Rattle.i_shape_core.specs.Convex.{NoSpikes, Convex}

-- any two ends of c are rotations of each other, or both have collapsed
abbrev pub OneEnd : List Point → Type 0
OneEnd c = (e f : List Point) → End IsZeroTurn c e → End IsZeroTurn c f → SameEnd e f

-- an end of c and an end of a rotation of c are rotations of each other, or both have collapsed
abbrev pub RotatedEnds : List Point → List Point → Type 0
RotatedEnds c d = Rotation c d → (e f : List Point) → End IsZeroTurn c e → End IsZeroTurn d f → SameEnd e f

-- an end of c, reversed, and an end of c reversed are rotations of each other, or both have collapsed
abbrev pub ReversedEnds : List Point → Type 0
ReversedEnds c = (e f : List Point) → End IsZeroTurn c e → End IsZeroTurn (reverse c) f → SameEnd (reverse e) f

-- an end has no end but itself, and removals lead from a simple contour only to itself
pub record Twice (c : List Point) : Type 0 where
  pub again : (e f : List Point) → End IsZeroTurn c e → End IsZeroTurn e f → f ≡ e
  pub simple : IsSimple c → (d : List Point) → Reach IsZeroTurn c d → d ≡ c

-- an end of at least three points is the end of every order up to rotation; every order collapses or none does; there
-- is an end
pub record EveryOrder (c : List Point) : Type 0 where
  pub some : (e f : List Point) → End IsZeroTurn c e → 3 ≤ length e → End IsZeroTurn c f → (3 ≤ length f) × Rotation e f
  pub none : (d f : List Point) → Reach IsZeroTurn c d → IsCollapsed d → End IsZeroTurn c f → IsCollapsed f
  pub exists : (e : List Point) × End IsZeroTurn c e

-- if only back vertices are removed from c, what is left has collapsed exactly if the ends of c have, and otherwise has
-- their ends
pub record Agreed (c : List Point) : Type 0 where
  pub alike : (d e : List Point) → End IsBack c d → End IsZeroTurn c e → IsCollapsed d ↔ IsCollapsed e
  pub ends : (d e f : List Point) → End IsBack c d → 3 ≤ length d → End IsZeroTurn c e → End IsZeroTurn d f → Rotation e f

-- removals keep the double area
abbrev pub AreaKept : List Point → List Point → Type 0
AreaKept c d = Reach IsZeroTurn c d → shoelace c ≡ shoelace d

-- removals keep which points are inside; no point is inside fewer than three points
pub record InsideKept (c d : List Point) : Type 0 where
  pub kept : Reach IsZeroTurn c d → (p : Point) → Inside c p ↔ Inside d p
  pub none : length c < 3 → (p : Point) → Inside c p → ⊥

-- without spikes no end collapses, and each is convex exactly if the contour is; rotation, reversal and repeating a
-- point right after itself keep convexity
pub record ConvexKept (c : List Point) : Type 0 where
  pub ends : NoSpikes c → (e : List Point) → End IsZeroTurn c e → (3 ≤ length e) × (Convex c ↔ Convex e)
  pub rotated : (d : List Point) → Rotation c d → Convex c ↔ Convex d
  pub backwards : Convex c ↔ Convex (reverse c)
  pub repeated : (u : List Point) (p : Point) (t : List Point) → c ≡ u ++ p ∷ t → Convex c ↔ Convex (u ++ p ∷ p ∷ t)
