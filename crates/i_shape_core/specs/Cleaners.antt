-- The result of a cleaner.
use Rattle.std.specs.Prelude.{◌≡◌, ℕ, ℤ, ◌-◌, ◌*◌, ◌≤◌, ◌↔◌, pos, List, length, Option, Some, None}
use Rattle.i_shape_core.specs.Point.{Point, IsZeroTurn, IsBack}
use Rattle.i_shape_core.specs.Convex.{NoSpikes}
use Rattle.i_shape_core.specs.Contour.{End, IsCollapsed, Rotation}
use Rattle.i_shape_core.specs.Edges.{shoelace, Inside}
use Rattle.i_shape_core.specs.Winding.{winding}
use Rattle.i_shape_core.specs.Moves.{moved, scaling}

-- e is the one end of c up to rotation, and has at least three points; as an end it lists points of c in their order in
-- c
pub record IsOneEnd (c e : List Point) : Type 0 where
  pub ended : End IsZeroTurn c e
  pub enough : 3 ≤ length e
  pub alone : (f : List Point) → End IsZeroTurn c f → Rotation e f

-- in whatever order zero turns are removed, fewer than three points are left
abbrev pub EachEndCollapses : List Point → Type 0
EachEndCollapses c = (e : List Point) → End IsZeroTurn c e → IsCollapsed e

-- the result of `simplified`: the one end, or none if each end collapses
abbrev pub SimpleAnswer : List Point → Option (List Point) → Type 0
SimpleAnswer c None = EachEndCollapses c
SimpleAnswer c (Some e) = IsOneEnd c e

-- c and e have the same double area, the same points inside, and the same winding number about each point
pub record IsKept (c e : List Point) : Type 0 where
  pub area : shoelace e ≡ shoelace c
  pub inside : (p : Point) → Inside e p ↔ Inside c p
  -- also scaled by any n: for n above 0 these are the winding numbers about the point with the rational coordinates p.x
  -- / n and p.y / n
  pub between : (n : ℤ) (p : Point) → winding (moved (scaling n) e) p ≡ winding (moved (scaling n) c) p
  pub winding : (p : Point) → winding e p ≡ winding c p

-- c has no area, no point inside, and winding number 0 about each point, also scaled by any n
pub record IsFlat (c : List Point) : Type 0 where
  pub area : shoelace c ≡ pos 0
  pub inside : (p : Point) → Inside c p → ⊥
  pub between : (n : ℤ) (p : Point) → winding (moved (scaling n) c) p ≡ pos 0
  pub winding : (p : Point) → winding c p ≡ pos 0

-- what a cleaner's result keeps
abbrev pub KeptAnswer : List Point → Option (List Point) → Type 0
KeptAnswer c None = IsFlat c
KeptAnswer c (Some e) = IsKept c e

-- a cleaner visits from `fewest` to 3n vertices of a contour of n points
pub record IsVisited (n fewest visits : ℕ) : Type 0 where
  pub least : fewest ≤ visits
  pub most : visits ≤ 3 * n

-- a cleaner visits from n to 3n vertices of a contour of n points, or from n - 2 to 3n if it collapses
abbrev pub VisitsAnswer : List Point → Option (List Point) → ℕ → Type 0
VisitsAnswer c None visits = IsVisited (length c) (length c - 2) visits
VisitsAnswer c (Some e) visits = IsVisited (length c) (length c) visits

-- d is what is left of c once back vertices are removed until there is none; d has no spikes, no end of c has
-- collapsed, and the ends of d are those of c
pub record IsDespiked (c d : List Point) : Type 0 where
  pub ended : End IsBack c d
  pub enough : 3 ≤ length d
  pub spikeless : NoSpikes d
  pub uncollapsed : (e : List Point) → End IsZeroTurn c e → 3 ≤ length e
  pub ends : (e f : List Point) → End IsZeroTurn c e → End IsZeroTurn d f → Rotation e f

-- despiking leaves the contour unchanged
abbrev pub IsDespikedAlready : List Point → Type 0
IsDespikedAlready c = IsDespiked c c

-- the result of `despiked_contour`: a contour without spikes and repeated points, or none if each end collapses
abbrev pub SpikelessAnswer : List Point → Option (List Point) → Type 0
SpikelessAnswer c None = EachEndCollapses c
SpikelessAnswer c (Some d) = IsDespiked c d

-- the result of removing spikes that leaves a contour without spikes unchanged
pub record DespikeAnswer (c : List Point) (r : Option (List Point)) : Type 0 where
  pub clean : NoSpikes c → r ≡ Some c
  pub cleaned : (NoSpikes c → ⊥) → SpikelessAnswer c r
