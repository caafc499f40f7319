-- What steps of cleaning in place look for and leave. Only private functions cite this.
use Rattle.std.specs.Prelude.{◌≤◌, Bool, true, false, ℕ, List, [], ◌∷◌, Option, length, map, max, vec_capacity, if◌then◌else◌}
use Rattle.std.specs.List.{AllZip, filter}
use Rattle.i_shape_core.specs.Point.{Point}
use Rattle.i_shape_core.specs.Written.{slot}
use Rattle.i_shape.specs.declared.int.in_place.InPlaceWork.{InPlaceWork}

-- d is what is left of c: its answer, or no points if it collapses
abbrev pub IsLeftOf : (List Point → Option (List Point) → Type 0) → List Point → List Point → Type 0
IsLeftOf Answer c d = Answer c (slot d)

-- each contour is what is left of the one at its index
abbrev pub AreLeftOf : (List Point → Option (List Point) → Type 0) → List (List Point) → List (List Point) → Type 0
AreLeftOf Answer shape left = AllZip (IsLeftOf Answer) shape left

-- there is room for the contour, if it doesn't pass
abbrev pub HasRoomFor : {W : Type 0} → (W → ℕ → Type 0) → (List Point → Type 0) → W → List Point → Type 0
HasRoomFor has_room Passes w c = (Passes c → ⊥) → has_room w (length c)

-- contours of so many points can be cleaned in place without more memory: for fewer than three none is needed
abbrev pub HasRoom : {I C : Type 0} → (C → ℕ → Type 0) → InPlaceWork I C → ℕ → Type 0
HasRoom has_room work n = has_room work.cleaner n × (n ≤ max 2 (vec_capacity work.copy))

-- whether the contour has a point
abbrev pub has_points : List Point → Bool
has_points [] = false
has_points (p ∷ c) = true

-- the outer contour has points, or the shape had none
abbrev pub keeps_outer : List (List Point) → Bool
keeps_outer [] = true
keeps_outer (outer ∷ holes) = has_points outer

-- the contours that have points, or none if the outer one has no points
abbrev pub kept_contours : List (List Point) → List (List Point)
kept_contours shape = if keeps_outer shape then filter has_points shape else []

-- the shapes whose outer contour has points, each without its empty contours
abbrev pub kept_shapes : List (List (List Point)) → List (List (List Point))
kept_shapes shapes = map (filter has_points) (filter keeps_outer shapes)
