-- One form for all contours that are joined: the least rotation of the end.
use Rattle.std.specs.Prelude.{◌≡◌, ◌≤◌, ◌⊎◌, ◌↔◌, ◌<ℤ◌, ℕ, ℤ, List, [], ◌∷◌, ◌++◌, take, drop, length, Option, Some, None, neg_ℤ, reverse}
use Rattle.i_shape_core.specs.Point.{Point, IsZeroTurn}
use Rattle.i_shape_core.specs.Contour.{Test, Step, End, Rotation}
use Rattle.i_shape_core.specs.Cleaners.{IsOneEnd, EachEndCollapses, IsKept, IsFlat}
use Rattle.i_shape_core.specs.Edges.{shoelace, Inside}
use Rattle.i_shape_core.specs.Winding.{winding}
use Rattle.i_shape_core.specs.Moves.{moved, scaling}

-- p comes before q: by x, then by y
abbrev pub IsBefore : Point → Point → Type 0
IsBefore p q = (p.x <ℤ q.x) ⊎ ((p.x ≡ q.x) × (p.y <ℤ q.y))

-- c equals d or precedes it, comparing point by point
abbrev pub IsAtMost : List Point → List Point → Type 0
IsAtMost [] d = Unit {0}
IsAtMost (p ∷ c) [] = ⊥
IsAtMost (p ∷ c) (q ∷ d) = IsBefore p q ⊎ ((p ≡ q) × IsAtMost c d)

-- l is the least of the rotations of c
pub record IsLeast (c l : List Point) : Type 0 where
  pub rotation : Rotation c l
  pub first : (d : List Point) → Rotation c d → IsAtMost l d

-- the rotation of c that starts at place k
abbrev pub started_at : List Point → ℕ → List Point
started_at c k = drop k c ++ take k c

-- l is the least rotation of the one end of c
pub record IsCanonical (c l : List Point) : Type 0 where
  pub end : List Point
  pub ends : IsOneEnd c end
  pub least : IsLeast end l

-- the result of `canonical`: the least rotation of the one end, or none if each end collapses
abbrev pub CanonicalAnswer : List Point → Option (List Point) → Type 0
CanonicalAnswer c None = EachEndCollapses c
CanonicalAnswer c (Some l) = IsCanonical c l

-- d is a rotation of c, or c with one removable point removed or inserted
pub data IsLink (P : Test) (c d : List Point) : Type 0 where
  by_rotation : Rotation c d → IsLink P c d
  by_removal : Step P c d → IsLink P c d
  by_insertion : Step P d c → IsLink P c d

-- a chain of contours of at least three points joins c and d
pub data Joined (P : Test) : List Point → List Point → Type 0 where
  alone : {c : List Point} → 3 ≤ length c → Joined P c c
  link : {c d e : List Point} → 3 ≤ length c → IsLink P c d → Joined P d e → Joined P c e

-- if an end of c and an end of d haven't collapsed, their least rotations are equal exactly if c and d are joined
abbrev pub CanonicalJoined : List Point → List Point → Type 0
CanonicalJoined c d = (e f l m : List Point) → End IsZeroTurn c e → 3 ≤ length e → End IsZeroTurn d f → 3 ≤ length f
    → IsLeast e l → IsLeast f m → (l ≡ m) ↔ Joined IsZeroTurn c d

-- l is the lesser of the canonical forms of c and of c reversed
pub record IsUnoriented (c l : List Point) : Type 0 where
  pub forwards : List Point
  pub backwards : List Point
  pub is_forwards : IsCanonical c forwards
  pub is_backwards : IsCanonical (reverse c) backwards
  pub one : (l ≡ forwards) ⊎ (l ≡ backwards)
  pub first : IsAtMost l forwards × IsAtMost l backwards

-- l is the lesser of c and the least rotation of c reversed
pub record IsLesserWay (c l : List Point) : Type 0 where
  pub backwards : List Point
  pub is_backwards : IsLeast (reverse c) backwards
  pub one : (l ≡ c) ⊎ (l ≡ backwards)
  pub first : IsAtMost l c × IsAtMost l backwards

-- the result of `canonical_unoriented`: the lesser of the two forms, or none if each end collapses
abbrev pub UnorientedAnswer : List Point → Option (List Point) → Type 0
UnorientedAnswer c None = EachEndCollapses c
UnorientedAnswer c (Some l) = IsUnoriented c l

-- e has the opposite double area of c, the same points inside, and the opposite winding number about each point, also
-- if both are scaled by any n
pub record IsKeptBackwards (c e : List Point) : Type 0 where
  pub area : shoelace e ≡ neg_ℤ (shoelace c)
  pub inside : (p : Point) → Inside e p ↔ Inside c p
  pub between : (n : ℤ) (p : Point) → winding (moved (scaling n) e) p ≡ neg_ℤ (winding (moved (scaling n) c) p)
  pub winding : (p : Point) → winding e p ≡ neg_ℤ (winding c p)

-- e keeps the measures of c, or all of them with the opposite sign
abbrev pub IsKeptEitherWay : List Point → List Point → Type 0
IsKeptEitherWay c e = IsKept c e ⊎ IsKeptBackwards c e

-- what the unoriented form keeps of c; if each end collapses, c has area 0 and winding numbers 0
abbrev pub KeptEitherWay : List Point → Option (List Point) → Type 0
KeptEitherWay c None = IsFlat c
KeptEitherWay c (Some e) = IsKeptEitherWay c e

-- c is joined to d, or to d reversed
abbrev pub JoinedEitherWay : List Point → List Point → Type 0
JoinedEitherWay c d = Joined IsZeroTurn c d ⊎ Joined IsZeroTurn c (reverse d)
