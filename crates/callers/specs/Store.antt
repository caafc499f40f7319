-- What the calls on a store of contours return. A store is the list of its canonical forms.
use Rattle.std.specs.Prelude.{List, ◌≡◌, ◌⊎◌, ◌↔◌, [], ◌∷◌, ◌++◌}
use Rattle.std.specs.List.{All, Contains}
use Rattle.i_shape.specs.Point.{Point, IsZeroTurn}
use Rattle.i_shape.specs.Canonical.{IsCanonical, Joined}
use Rattle.i_shape.specs.Cleaners.{EachEndCollapses}
use Rattle.callers.specs.declared.store.Insertion.{Insertion}
use Rattle.callers.specs.declared.store.Insertion.TheVariants.{New, Known, Collapsed}

-- each contour of the store is the canonical form of some contour
abbrev pub AreForms : List (List Point) → Type 0
AreForms forms = All (λ form. (c : List Point) × IsCanonical c form) forms

-- a contour of the store is joined to c
abbrev pub IsFound : List (List Point) → List Point → Type 0
IsFound store c = (form : List Point) × Contains store form × Joined IsZeroTurn form c

-- the new store finds what the old one found, the contours joined to c, and nothing else
abbrev pub AlsoFinds : List (List Point) → List Point → List (List Point) → Type 0
AlsoFinds old c new = (d : List Point) → IsFound new d ↔ (IsFound old d ⊎ Joined IsZeroTurn c d)

-- no contour of the old store was joined to c, and the canonical form of c is appended
pub record IsAdded (old : List (List Point)) (c : List Point) (new : List (List Point)) : Type 0 where
  pub missing : IsFound old c → ⊥
  pub form : List Point
  pub canonical : IsCanonical c form
  pub appended : new ≡ old ++ form ∷ []

-- what `insert` returns, and the store after it
abbrev pub InsertAnswer : List (List Point) → List Point → Insertion → List (List Point) → Type 0
InsertAnswer old c New new = IsAdded old c new
InsertAnswer old c Known new = IsFound old c × (new ≡ old)
InsertAnswer old c Collapsed new = EachEndCollapses c × (new ≡ old)
