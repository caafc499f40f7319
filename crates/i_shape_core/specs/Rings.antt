-- Rings in one array of points, divided by offsets.
use Rattle.std.specs.Prelude.{◌≡◌, ℕ, ◌+◌, ◌-◌, ◌<◌, ◌≤◌, List, length, drop, get_or, slice_range, Option, Result, OnErr, OnOk, IsOk, IsOkUnless}
use Rattle.std.specs.Int.{Width}
use Rattle.i_shape_core.specs.Point.{Point}
use Rattle.i_shape_core.specs.IntPoint.{IsSafeContour}
use Rattle.i_shape_core.specs.Cleaning.{Cleaning}
use Rattle.i_shape_core.specs.Written.{slot, IsCleaned}
use Rattle.i_shape_core.specs.Unclean.{LongestUnclean, IsShortOrClean}
use Rattle.i_shape_core.specs.declared.error.ShapeError.{ShapeError}
use Rattle.i_shape_core.specs.declared.error.ShapeError.TheVariants.{OutOfMemory}

-- the offset at a place
abbrev pub offset : List ℕ → ℕ → ℕ
offset offsets k = get_or offsets k 0

-- the points of ring k
abbrev pub nth_ring : {P : Type 0} → List P → List ℕ → ℕ → List P
nth_ring points offsets k = slice_range points (offset offsets k) (offset offsets (k + 1))

-- none of the first n offsets is less than the one before it
abbrev pub AreRising : List ℕ → ℕ → Type 0
AreRising offsets n = (k : ℕ) → k + 1 < n → offset offsets k ≤ offset offsets (k + 1)

-- the offsets cut consecutive parts out of a list of that many points: the first may be above 0, and the last below
-- that number
pub record PartsPoints (points : ℕ) (offsets : List ℕ) : Type 0 where
  pub some : 0 < length offsets
  pub order : AreRising offsets (length offsets)
  pub last : offset offsets (length offsets - 1) ≤ points

-- the points of each ring are safe; `read` gives the points that a list represents
abbrev pub AreSafeRings : {P : Type 0} → Width → (List P → List Point) → List P → List ℕ → Type 0
AreSafeRings width read points offsets = (k : ℕ) → k + 1 < length offsets → IsSafeContour width (read (nth_ring points offsets k))

-- each ring between the first n offsets is clean
abbrev pub AreCleanRings : {P : Type 0} → (List Point → Type 0) → (List P → List Point) → List P → List ℕ → ℕ → Type 0
AreCleanRings Clean read points offsets n = (k : ℕ) → k + 1 < n → Clean (read (nth_ring points offsets k))

-- the number of points of the longest of those rings that isn't clean, or none if all are clean
abbrev pub LongestUncleanRing : {P : Type 0} → (List Point → Type 0) → (List P → List Point) → List P → List ℕ → ℕ → Option ℕ → Type 0
LongestUncleanRing Clean read points offsets n = LongestUnclean (λ k. k + 1 < n) (λ k. Clean (read (nth_ring points offsets k))) (λ k. length (nth_ring points offsets k))

-- each ring between the first n offsets is clean, or there is room for its points
abbrev pub HaveRoom : {P : Type 0} → (List Point → Type 0) → (List P → List Point) → (ℕ → Type 0) → List P → List ℕ → ℕ → Type 0
HaveRoom Clean read room points offsets n = (k : ℕ) → k + 1 < n → (Clean (read (nth_ring points offsets k)) → ⊥) → room (length (nth_ring points offsets k))

-- each ring between the first n offsets is clean, or has fewer than three points
abbrev pub AreShortOrClean : {P : Type 0} → (List Point → Type 0) → (List P → List Point) → List P → List ℕ → ℕ → Type 0
AreShortOrClean Clean read points offsets n = (k : ℕ) → k + 1 < n → IsShortOrClean (λ j. Clean (read (nth_ring points offsets j))) (λ j. length (nth_ring points offsets j)) k

-- a call makes room for the longest ring that isn't clean: `had` and `has` hold of the numbers of points for which
-- there is room before and after
pub record TakesRoom {P T : Type 0} (Clean : List Point → Type 0) (read : List P → List Point) (had has : ℕ → Type 0) (points : List P) (offsets : List ℕ) (result : Result T ShapeError) : Type 0 where
  -- `OutOfMemory` is the only error, and can't occur if each ring is clean or short, or if there is room
  pub memory : IsOkUnless result OutOfMemory
  pub unclean : OnErr result (AreShortOrClean Clean read points offsets (length offsets) → ⊥)
  pub reserved : HaveRoom Clean read had points offsets (length offsets) → IsOk result
  -- no room is lost, and afterwards there is room for each ring that isn't clean
  pub keeps_room : (n : ℕ) → had n → has n
  pub takes_room : OnOk result (HaveRoom Clean read has points offsets (length offsets))

-- points, and the offsets that divide them into rings
pub record RingArrays (P : Type 0) : Type 0 where
  pub points : List P
  pub offsets : List ℕ

-- these two arrays
abbrev pub ring_arrays : {P : Type 0} → List P → List ℕ → RingArrays P
ring_arrays points offsets = record { points = points; offsets = offsets }

-- what a cleaner leaves of a caller's ring: an empty list if it collapses
pub record CleansRing {P : Type 0} (cleaning : Cleaning) (width : Width) (read : List P → List Point) (given left : List P) : Type 0 where
  pub picked : cleaning.picks P given left
  pub cleaned : IsCleaned cleaning width (read given) (slot (read left))

-- each ring into which the new offsets divide the points is what is left of the given ring that was at its place; there
-- are n points in total, and what lies behind them and behind the offsets is as it was
pub record AreCleanedRings {P : Type 0} (Left : List P → List P → Type 0) (given old new : RingArrays P) (n : ℕ) : Type 0 where
  pub first : offset new.offsets 0 ≡ 0
  pub order : AreRising new.offsets (length given.offsets)
  pub last : offset new.offsets (length given.offsets - 1) ≡ n
  pub fewer : n ≤ length given.points
  pub cleaned : (k : ℕ) → k + 1 < length given.offsets → Left (nth_ring given.points given.offsets k) (nth_ring new.points new.offsets k)
  pub rest : drop n new.points ≡ drop n old.points
  pub offsets_rest : drop (length given.offsets) new.offsets ≡ drop (length given.offsets) old.offsets
