-- The number of points that a cleaner has memory for.
use Rattle.std.specs.Prelude.{◌≡◌, ℕ, ◌≤◌, max, vec_capacity}
use Rattle.i_shape_core.specs.declared.clean.simplifier.ContourSimplifier.{ContourSimplifier}
use Rattle.i_shape_core.specs.declared.clean.despike.ContourDeSpiker.{ContourDeSpiker}

-- a simplifier holds no memory
abbrev pub HoldsNoMemoryToSimplify : ContourSimplifier → Type 0
HoldsNoMemoryToSimplify simplifier = vec_capacity simplifier.stack ≡ 0

-- a simplifier needs no more memory for a contour of so many points: for fewer than three it needs none
abbrev pub HasRoomToSimplify : ContourSimplifier → ℕ → Type 0
HasRoomToSimplify simplifier points = points ≤ max 2 (vec_capacity simplifier.stack)

-- the new simplifier has at least the room of the old one
abbrev pub KeepsRoomToSimplify : ContourSimplifier → ContourSimplifier → Type 0
KeepsRoomToSimplify old new = vec_capacity old.stack ≤ vec_capacity new.stack

-- a despiker holds no memory
abbrev pub HoldsNoMemoryToDespike : ContourDeSpiker → Type 0
HoldsNoMemoryToDespike despiker = vec_capacity despiker.places ≡ 0

-- a despiker needs no more memory for a contour of so many points: for fewer than four it needs none
abbrev pub HasRoomToDespike : ContourDeSpiker → ℕ → Type 0
HasRoomToDespike despiker points = points ≤ max 3 (vec_capacity despiker.places)

-- the new despiker has at least the room of the old one
abbrev pub KeepsRoomToDespike : ContourDeSpiker → ContourDeSpiker → Type 0
KeepsRoomToDespike old new = vec_capacity old.places ≤ vec_capacity new.places
