-- Laws of the ends of a contour and of its forms.
use Rattle.std.specs.Prelude.{◌≡◌, ◌≤◌, ◌⊎◌, ◌↔◌, List, [], ◌∷◌, length, Some}
use Rattle.i_shape_core.specs.Point.{Point, IsZeroTurn}
use Rattle.i_shape_core.specs.Contour.{End}
use Rattle.i_shape_core.specs.Canonical.{Joined, UnorientedAnswer, JoinedEitherWay}

-- p is one of the points of c
abbrev pub IsIn : Point → List Point → Type 0
IsIn p [] = ⊥
IsIn p (q ∷ c) = (p ≡ q) ⊎ IsIn p c

-- no point occurs twice in c
abbrev pub Distinct : List Point → Type 0
Distinct [] = Unit {0}
Distinct (p ∷ c) = (IsIn p c → ⊥) × Distinct c

-- if no point occurs twice, every order leaves the same list
abbrev pub OneCertainEnd : List Point → Type 0
OneCertainEnd c = Distinct c → (e f : List Point) → End IsZeroTurn c e → 3 ≤ length e → End IsZeroTurn c f → f ≡ e

-- no contour joined to c has fewer points than an end of c
abbrev pub Shortest : List Point → List Point → Type 0
Shortest c d = Joined IsZeroTurn c d → (e : List Point) → End IsZeroTurn c e → length e ≤ length d

-- the unoriented forms of two contours, if both have one, are equal exactly if the contours are joined, or one to the
-- other reversed
abbrev pub UnorientedJoined : List Point → List Point → Type 0
UnorientedJoined c d = (l m : List Point) → UnorientedAnswer c (Some l) → UnorientedAnswer d (Some m) → (l ≡ m) ↔ JoinedEitherWay c d
