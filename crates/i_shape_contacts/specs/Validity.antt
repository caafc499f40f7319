-- When a polygon is valid, and the first fault of one that isn't. Its rings are those into which the offsets divide the
-- points: ring 0 is the outer contour, the others are its holes.
use Rattle.std.specs.Prelude.{◌≡◌, ◌+◌, ◌<◌, ◌≤◌, ◌⊎◌, ℕ, pos, List, length}
use Rattle.i_shape_core.specs.Point.{Point}
use Rattle.i_shape_core.specs.Contour.{point_at}
use Rattle.i_shape_core.specs.Rings.{nth_ring}
use Rattle.i_shape_core.specs.Winding.{winding}
use Rattle.i_shape_contacts.specs.Contacts.{AreAllEqual, IsRingContact, NoContact, IsFirstContact}
use Rattle.i_shape_contacts.specs.declared.validity.Validity.{Validity}
use Rattle.i_shape_contacts.specs.declared.validity.Validity.TheVariants.{Valid, TooFewPoints, Contact, HoleOutside, HoleWithin}

-- the ring is degenerate: it has fewer than three points, or all its points are equal
abbrev pub IsDegenerate : List Point → Type 0
IsDegenerate ring = (length ring < 3) ⊎ AreAllEqual ring

-- some vertex of the hole has winding number 0 about the outer contour
pub record IsOutside (outer hole : List Point) : Type 0 where
  pub vertex : ℕ
  pub is_vertex : vertex < length hole
  pub outside : winding outer (point_at hole vertex) ≡ pos 0

-- some vertex of the hole has a winding number other than 0 about the other hole
pub record IsWithin (other hole : List Point) : Type 0 where
  pub vertex : ℕ
  pub is_vertex : vertex < length hole
  pub within : winding other (point_at hole vertex) ≡ pos 0 → ⊥

-- there is a ring k, and it is degenerate
pub record IsDegenerateRing (offsets : List ℕ) (c : List Point) (k : ℕ) : Type 0 where
  pub is_ring : k + 1 < length offsets
  pub degenerate : IsDegenerate (nth_ring c offsets k)

-- ring k is a hole
pub record IsHole (offsets : List ℕ) (k : ℕ) : Type 0 where
  pub not_outer : 0 < k
  pub is_ring : k + 1 < length offsets

-- ring k is a hole outside the outer contour
pub record IsHoleOutside (offsets : List ℕ) (c : List Point) (k : ℕ) : Type 0 where
  pub is_hole : IsHole offsets k
  pub outside : IsOutside (nth_ring c offsets 0) (nth_ring c offsets k)

-- ring k is a hole within ring j, another hole
pub record IsHoleWithin (offsets : List ℕ) (c : List Point) (k j : ℕ) : Type 0 where
  pub is_hole : IsHole offsets k
  pub other_is_hole : IsHole offsets j
  pub differ : k ≡ j → ⊥
  pub within : IsWithin (nth_ring c offsets j) (nth_ring c offsets k)

-- no ring is degenerate
abbrev pub NoDegenerateRing : List ℕ → List Point → Type 0
NoDegenerateRing offsets c = (k : ℕ) → IsDegenerateRing offsets c k → ⊥

-- no hole is outside the outer contour
abbrev pub NoHoleOutside : List ℕ → List Point → Type 0
NoHoleOutside offsets c = (k : ℕ) → IsHoleOutside offsets c k → ⊥

-- no hole is within another
abbrev pub NoHoleWithin : List ℕ → List Point → Type 0
NoHoleWithin offsets c = (k j : ℕ) → IsHoleWithin offsets c k j → ⊥

-- the polygon is valid: no ring is degenerate, no two edges are in contact, no hole is outside the outer contour, and
-- none is within another
pub record IsValidPolygon (offsets : List ℕ) (c : List Point) : Type 0 where
  pub no_degenerate : NoDegenerateRing offsets c
  pub no_contact : NoContact (IsRingContact offsets c)
  pub no_outside : NoHoleOutside offsets c
  pub no_within : NoHoleWithin offsets c

-- k is the least number for which P is true
pub record IsLeast (P : ℕ → Type 0) (k : ℕ) : Type 0 where
  pub is : P k
  pub least : (j : ℕ) → P j → k ≤ j

-- hole k is the first that is within another, and j the first such other
pub record IsFirstWithin (offsets : List ℕ) (c : List Point) (k j : ℕ) : Type 0 where
  pub first_other : IsLeast (IsHoleWithin offsets c k) j
  pub none_before : (i l : ℕ) → i < k → IsHoleWithin offsets c i l → ⊥

-- edges i and j are the first that are in contact, and no ring is degenerate
pub record IsContactFault (offsets : List ℕ) (c : List Point) (i j : ℕ) : Type 0 where
  pub no_degenerate : NoDegenerateRing offsets c
  pub first : IsFirstContact (IsRingContact offsets c) i j

-- hole k is the first that is outside the outer contour, no ring is degenerate, and no edges are in contact
pub record IsOutsideFault (offsets : List ℕ) (c : List Point) (k : ℕ) : Type 0 where
  pub no_degenerate : NoDegenerateRing offsets c
  pub no_contact : NoContact (IsRingContact offsets c)
  pub first : IsLeast (IsHoleOutside offsets c) k

-- hole k is the first within another, j the first such other, and there is no fault of another kind
pub record IsWithinFault (offsets : List ℕ) (c : List Point) (k j : ℕ) : Type 0 where
  pub no_degenerate : NoDegenerateRing offsets c
  pub no_contact : NoContact (IsRingContact offsets c)
  pub no_outside : NoHoleOutside offsets c
  pub first : IsFirstWithin offsets c k j

-- the first fault, by kind and then by place: a degenerate ring, a contact, a hole outside, a hole within another; or
-- none
abbrev pub IsFirstFault : List ℕ → List Point → Validity → Type 0
IsFirstFault offsets c Valid = IsValidPolygon offsets c
IsFirstFault offsets c (TooFewPoints k) = IsLeast (IsDegenerateRing offsets c) k
IsFirstFault offsets c (Contact it) = IsContactFault offsets c it.first it.second
IsFirstFault offsets c (HoleOutside k) = IsOutsideFault offsets c k
IsFirstFault offsets c (HoleWithin k j) = IsWithinFault offsets c k j
