-- What the calls on a store of polygons return. A store is the list of its forms; their order means nothing.
use Rattle.std.specs.Prelude.{List, Some, ◌≡◌, ◌⊎◌, ◌↔◌}
use Rattle.std.specs.List.{All, Contains}
use Rattle.i_shape.specs.Point.{Point, IsZeroTurn}
use Rattle.i_shape.specs.Canonical.{CanonicalAnswer, Joined}
use Rattle.i_shape.specs.CanonicalShapes.{ShapeForm, SameShape, OuterCollapses}
use Rattle.callers.specs.declared.store.Insertion.{Insertion}
use Rattle.callers.specs.declared.store.Insertion.TheVariants.{New, Known, Collapsed}

-- each polygon of the store is a form, and so its own form
abbrev pub AreOwnForms : List (List (List Point)) → Type 0
AreOwnForms forms = All (λ form. ShapeForm CanonicalAnswer form (Some form)) forms

-- the outer contours are joined, and the holes that don't collapse are joined one to one; a polygon without contours is
-- the same only as another one without contours
abbrev pub SamePolygon : List (List Point) → List (List Point) → Type 0
SamePolygon s t = SameShape (Joined IsZeroTurn) s t

-- a polygon of the store is the same as s
abbrev pub IsPolygonFound : List (List (List Point)) → List (List Point) → Type 0
IsPolygonFound store s = (form : List (List Point)) × Contains store form × SamePolygon form s

-- the new store finds what the old one found, the polygons that are the same as s, and nothing else
abbrev pub AlsoFindsPolygon : List (List (List Point)) → List (List Point) → List (List (List Point)) → Type 0
AlsoFindsPolygon old s new = (t : List (List Point)) → IsPolygonFound new t ↔ (IsPolygonFound old t ⊎ SamePolygon s t)

-- what `insert` returns, and the store after it
abbrev pub PolygonInserted : List (List (List Point)) → List (List Point) → Insertion → List (List (List Point)) → Type 0
PolygonInserted old s New new = (OuterCollapses s → ⊥) × (IsPolygonFound old s → ⊥) × AlsoFindsPolygon old s new
PolygonInserted old s Known new = IsPolygonFound old s × (new ≡ old)
PolygonInserted old s Collapsed new = OuterCollapses s × (new ≡ old)
