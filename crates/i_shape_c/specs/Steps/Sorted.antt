-- How polygons are sorted and then written.
use Rattle.std.specs.Prelude.{◌≡◌, ℕ, ◌-◌, List, map, length, take, drop, IsPermutation}
use Rattle.std.specs.List.{AllZip, AllPairs}
use Rattle.i_shape.specs.Point.{Point}
use Rattle.i_shape.specs.Canonical.{IsAtMost}
use Rattle.i_shape.specs.CanonicalShapes.{IsShapeAtMost}
use Rattle.i_shape_c.specs.Steps.Appended.{HoldsPolygons}
use Rattle.i_shape_c.specs.Batch.{offset}
use Rattle.i_shape_c.specs.Polygons.{PolygonArrays, parts}

-- the first item is unchanged, and the others are sorted
pub record SortsRest {X : Type 0} (Sorted : List X → Type 0) (old new : List X) : Type 0 where
  pub first : take 1 new ≡ take 1 old
  pub same : IsPermutation (drop 1 old) (drop 1 new)
  pub sorted : Sorted (drop 1 new)

-- all items are sorted
pub record SortsAll {X : Type 0} (Sorted : List X → Type 0) (old new : List X) : Type 0 where
  pub same : IsPermutation old new
  pub sorted : Sorted new

-- the items of each part that the offsets delimit are so changed, and those outside are unchanged
pub record ChangesEach {X : Type 0} (Changes : List X → List X → Type 0) (old new : List X) (offsets : List ℕ) : Type 0 where
  pub each : AllZip Changes (parts old offsets) (parts new offsets)
  pub before : take (offset offsets 0) new ≡ take (offset offsets 0) old
  pub behind : drop (offset offsets (length offsets - 1)) new ≡ drop (offset offsets (length offsets - 1)) old

-- the items of each part but its first are sorted
abbrev pub SortsEachRest : {X : Type 0} → (List X → Type 0) → List X → List X → List ℕ → Type 0
SortsEachRest Sorted old new offsets = ChangesEach (SortsRest Sorted) old new offsets

-- the items of each part are sorted
abbrev pub SortsEach : {X : Type 0} → (List X → Type 0) → List X → List X → List ℕ → Type 0
SortsEach Sorted old new offsets = ChangesEach (SortsAll Sorted) old new offsets

-- the holes of each polygon are sorted, and then the polygons
pub record SortsPolygons (given sorted : List (List (List Point))) : Type 0 where
  pub holes : List (List (List Point))
  pub holes_sorted : AllZip (SortsRest (AllPairs IsAtMost)) given holes
  pub same : IsPermutation holes sorted
  pub in_order : AllPairs IsShapeAtMost sorted

-- the holes of each polygon are sorted, and then the polygons of each feature
pub record SortsFeatures (features : List ℕ) (given sorted : List (List (List Point))) : Type 0 where
  pub holes : List (List (List Point))
  pub holes_sorted : AllZip (SortsRest (AllPairs IsAtMost)) given holes
  pub in_order : SortsEach (AllPairs IsShapeAtMost) holes sorted features

-- the three arrays begin with the polygons that `Sorts` makes of the given ones
pub record WritesSorted {P : Type 0} (Sorts : List (List (List Point)) → List (List (List Point)) → Type 0) (point : P → Point) (given : List (List (List P))) (old new : PolygonArrays P) : Type 0 where
  pub list : List (List (List P))
  pub sorted : Sorts (map (map (map point)) given) (map (map (map point)) list)
  pub held : HoldsPolygons list old new
