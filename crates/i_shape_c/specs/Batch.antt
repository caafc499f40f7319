-- Many contours in one array of points, divided by offsets.
use Rattle.std.specs.Prelude.{◌≡◌, ℕ, ℤ, ◌+◌, ◌-◌, ◌<◌, ◌≤◌, pos, negsuc, List, map, length, slice_range}
use Rattle.std.specs.Int.{Width}
use Rattle.i_shape.specs.Point.{Point}
use Rattle.i_shape.specs.Written.{slot, IsCleaned}
use Rattle.i_shape.specs.Rings.{AreCleanedRings}
pub use Rattle.i_shape.specs.Rings.{offset, nth_ring as nth_contour, AreRising, PartsPoints, RingArrays as ContourArrays, ring_arrays as contour_arrays}
use Rattle.i_shape_c.specs.Cleaned.{AreSafe, TakesNoMemory}
use Rattle.i_shape.specs.Cleaning.{Cleaning}
use Rattle.i_shape_c.specs.Codes.{Refuses}

-- there is room for as many points and offsets
pub record HasRoom (points offsets out_points out_offsets : ℕ) : Type 0 where
  pub points_room : points ≤ out_points
  pub offsets_room : offsets ≤ out_offsets

-- each point from the first offset to the last is safe
abbrev pub AreSafeContours : {P : Type 0} → Width → (P → Point) → List P → List ℕ → Type 0
AreSafeContours width point points offsets = AreSafe width point (slice_range points (offset offsets 0) (offset offsets (length offsets - 1)))

-- `Spares` holds of each contour
abbrev pub AreSpared : {P : Type 0} → (List Point → Type 0) → (P → Point) → List P → List ℕ → Type 0
AreSpared Spares point points offsets = (k : ℕ) → k + 1 < length offsets → Spares (map point (nth_contour points offsets k))

-- each contour that the new offsets give is what the cleaner makes of the given one at the same index, empty where that
-- collapses; there are n points in all, and what follows them and the offsets is unchanged
abbrev pub IsCleanedBatch : {P : Type 0} → Cleaning → Width → (P → Point) → ContourArrays P → ContourArrays P → ContourArrays P → ℕ → Type 0
IsCleanedBatch cleaning width point given old new = AreCleanedRings (λ contour left. IsCleaned cleaning width (map point contour) (slot (map point left))) given old new

-- nothing is written
pub record IsUntouched {P : Type 0} (old new : ContourArrays P) : Type 0 where
  pub points : new.points ≡ old.points
  pub offsets : new.offsets ≡ old.offsets

-- the number of points that are written, or a code with nothing written
abbrev pub BatchAnswer : {P : Type 0} → Cleaning → Width → (P → Point) → ContourArrays P → ContourArrays P → ContourArrays P → ℤ → Type 0
BatchAnswer cleaning width point given old new (pos n) = IsCleanedBatch cleaning width point given old new n
BatchAnswer cleaning width point given old new (negsuc n) = (n < 4) × IsUntouched old new

-- what a call that cleans many contours returns and leaves, and exactly when it returns a code: never that of a failed
-- allocation where each contour takes no memory
pub record CleansContours {P : Type 0} (cleaning : Cleaning) (width : Width) (point : P → Point) (given old new : ContourArrays P) (result : ℤ) : Type 0 where
  pub answer : BatchAnswer cleaning width point given old new result
  pub refuses : Refuses (PartsPoints (length given.points) given.offsets) (HasRoom (length given.points) (length given.offsets) (length old.points) (length old.offsets)) (AreSafeContours width point given.points given.offsets)
      (AreSpared (TakesNoMemory cleaning.fewest cleaning.clean) point given.points given.offsets) result
