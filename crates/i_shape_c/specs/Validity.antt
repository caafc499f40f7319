-- What the calls return and write that find the first fault of each of many polygons.
use Rattle.std.specs.Prelude.{◌≡◌, ℕ, ℤ, ◌+◌, ◌-◌, ◌<◌, ◌≤◌, pos, negsuc, zero, suc, List, map, length, take, drop, slice_range}
use Rattle.std.specs.Int.{Width}
use Rattle.std.specs.List.{AllZip, range_with_len}
use Rattle.i_shape.specs.Point.{Point}
use Rattle.i_shape_contacts.specs.Validity.{IsFirstFault}
use Rattle.i_shape_contacts.specs.declared.validity.Validity.{Validity}
use Rattle.i_shape_contacts.specs.declared.validity.Validity.TheVariants.{Valid, TooFewPoints, Contact, HoleOutside, HoleWithin}
use Rattle.i_shape_touching.specs.Touching.{IsFirstTouchingFault}
use Rattle.i_shape_touching.specs.declared.validity.TouchingValidity.{TouchingValidity}
use Rattle.i_shape_touching.specs.declared.validity.TouchingValidity.TheVariants.{Valid, TooFewPoints, Contact, HoleOutside, HoleWithin, Disconnected}
use Rattle.i_shape_c.specs.Batch.{offset, AreSafeContours}
use Rattle.i_shape_c.specs.Codes.{Refuses}
use Rattle.i_shape_c.specs.Polygons.{PolygonArrays, PartsPolygons}
use Rattle.i_shape_c.specs.declared.validity.Fault.{Fault}

-- the offsets of the contours of polygon k
abbrev pub polygon_offsets : List ℕ → List ℕ → ℕ → List ℕ
polygon_offsets contours shapes k = slice_range contours (offset shapes k) (offset shapes (k + 1) + 1)

-- there is room for the offsets of the contours of each polygon
abbrev pub HasOffsetsRoom : List ℕ → ℕ → Type 0
HasOffsetsRoom shapes room = (k : ℕ) → k + 1 < length shapes → offset shapes (k + 1) + 1 ≤ room + offset shapes k

-- the offsets, each less the first
abbrev pub rebased : List ℕ → List ℕ
rebased offsets = map (λ o. o - offset offsets 0) offsets

-- the points from the first offset to the last
abbrev pub points_between : {P : Type 0} → List P → List ℕ → List P
points_between points offsets = slice_range points (offset offsets 0) (offset offsets (length offsets - 1))

-- the fault of this kind at these indices
abbrev pub fault : ℕ → ℕ → ℕ → Fault
fault kind first second = record { kind = kind; first = first; second = second }

-- a polygon's fault, shifted to the indices of all contours and points
abbrev pub placed : ℕ → ℕ → Validity → Fault
placed contour point Valid = fault 0 0 0
placed contour point (TooFewPoints k) = fault 1 (contour + k) 0
placed contour point (Contact it) = fault 2 (point + it.first) (point + it.second)
placed contour point (HoleOutside k) = fault 3 (contour + k) 0
placed contour point (HoleWithin k j) = fault 4 (contour + k) (contour + j)

-- a polygon's fault if its contours may touch, shifted in the same way
abbrev pub placed_touching : ℕ → ℕ → TouchingValidity → Fault
placed_touching contour point Valid = fault 0 0 0
placed_touching contour point (TooFewPoints k) = fault 1 (contour + k) 0
placed_touching contour point (Contact it) = fault 2 (point + it.first) (point + it.second)
placed_touching contour point (HoleOutside k) = fault 3 (contour + k) 0
placed_touching contour point (HoleWithin k j) = fault 4 (contour + k) (contour + j)
placed_touching contour point (Disconnected it) = fault 5 (point + it.first) (point + it.second)

-- what it is to be a polygon's fault: a relation of all points, the offsets of the polygon's contours, the index of its
-- first contour, and the fault
abbrev pub FaultNotion : Type 1
FaultNotion = List Point → List ℕ → ℕ → Fault → Type 0

-- `written` is the first fault, by IsFirst, of the polygon whose contours have these offsets and begin at index
-- `contour`
pub record IsPlacedFault {V : Type 0} (IsFirst : List ℕ → List Point → V → Type 0) (place : ℕ → ℕ → V → Fault) (points : List Point) (offsets : List ℕ) (contour : ℕ) (written : Fault) : Type 0 where
  pub validity : V
  pub first : IsFirst (rebased offsets) (points_between points offsets) validity
  pub is : written ≡ place contour (offset offsets 0) validity

-- `written` is the first fault of that polygon
abbrev pub IsFaultOf : FaultNotion
IsFaultOf = IsPlacedFault IsFirstFault placed

-- `written` is the first fault of that polygon if its contours may touch
abbrev pub IsTouchingFaultOf : FaultNotion
IsTouchingFaultOf = IsPlacedFault IsFirstTouchingFault placed_touching

-- `written` is the first fault, by Is, of polygon k
abbrev pub IsFaultAt : {P : Type 0} → FaultNotion → (P → Point) → PolygonArrays P → ℕ → Fault → Type 0
IsFaultAt Is point given k = Is (map point given.points) (polygon_offsets given.contours given.shapes k) (offset given.shapes k)

-- the new items begin with the first fault, by Is, of each polygon, in order, and are otherwise unchanged
pub record AreFaults {P : Type 0} (Is : FaultNotion) (point : P → Point) (given : PolygonArrays P) (old new : List Fault) : Type 0 where
  pub each : AllZip (IsFaultAt Is point given) (range_with_len 0 (length given.shapes - 1)) (take (length given.shapes - 1) new)
  pub rest : drop (length given.shapes - 1) new ≡ drop (length given.shapes - 1) old

-- 0 and the fault of each polygon, or a code with nothing written
abbrev pub FaultsAnswer : {P : Type 0} → FaultNotion → (P → Point) → PolygonArrays P → List Fault → List Fault → ℤ → Type 0
FaultsAnswer Is point given old new (pos zero) = AreFaults Is point given old new
FaultsAnswer Is point given old new (pos (suc n)) = ⊥
FaultsAnswer Is point given old new (negsuc n) = (n < 4) × (new ≡ old)

-- what a call returns and writes for the first fault, by Is, of each polygon, and exactly when it returns each code;
-- without polygons it never returns that for memory
pub record FindsFaults {P : Type 0} (Is : FaultNotion) (width : Width) (point : P → Point) (given : PolygonArrays P) (old new : List Fault) (result : ℤ) : Type 0 where
  pub answer : FaultsAnswer Is point given old new result
  pub refuses : Refuses (PartsPolygons (length given.points) given.contours given.shapes) (length given.shapes - 1 ≤ length old) (AreSafeContours width point given.points given.contours) (length given.shapes ≡ 1) result
