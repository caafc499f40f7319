-- Which of many polygons holds each of many points, by a fill rule.
use Rattle.std.specs.Prelude.{◌≡◌, ◌≢◌, ◌⊎◌, ℕ, ℤ, ◌+◌, ◌-◌, ◌<◌, ◌≤◌, pos, negsuc, zero, suc, List, length, slice_range, get_or, None, IfSome}
use Rattle.std.specs.Int.{Width}
use Rattle.std.specs.List.{All}
use Rattle.i_shape.specs.Point.{Point}
use Rattle.i_shape.specs.Filling.{IsFilled}
use Rattle.i_shape_core.specs.declared.measure.fill_rule.FillRule.{FillRule}
use Rattle.i_shape_contacts.specs.Steps.Boxes.{Holds}
use Rattle.i_shape_contacts.specs.declared.boxes.Bounds.{Bounds}
use Rattle.i_shape_c.specs.Batch.{offset, AreSafeContours}
use Rattle.i_shape_c.specs.Cleaned.{AreSafe}
use Rattle.i_shape_c.specs.Codes.{Refuses}
use Rattle.i_shape_c.specs.Locations.{rule_of, AreTold}
use Rattle.i_shape_c.specs.Polygons.{PolygonArrays, PartsPolygons}
use Rattle.i_shape_c.specs.Validity.{polygon_offsets}
use Rattle.i_shape_c.specs.Windings.{contours_winding}

-- polygon k holds p: the rule fills p, given the total winding number about it of the polygon's contours
abbrev pub DoesHold : {P : Type 0} → (P → Point) → FillRule → PolygonArrays P → Point → ℕ → Type 0
DoesHold point rule given p k = IsFilled rule (contours_winding point given.points (polygon_offsets given.contours given.shapes k) p)

-- written in place of an index where no polygon holds the point: the greatest number of 64 bits, which is no index
abbrev pub no_shape : ℕ
no_shape = 18446744073709551615

-- k is the first index below n of which `Holds` holds
pub record IsFirstHolder (Holds : ℕ → Type 0) (n k : ℕ) : Type 0 where
  pub within : k < n
  pub here : Holds k
  pub before : (j : ℕ) → j < k → Holds j → ⊥

-- the index of the first polygon that holds p, or `no_shape` where none does
abbrev pub IsHolder : {P : Type 0} → (P → Point) → PolygonArrays P → FillRule → Point → ℕ → Type 0
IsHolder point given rule p index =
    IsFirstHolder (DoesHold point rule given p) (length given.shapes - 1) index ⊎ ((index ≡ no_shape) × ((k : ℕ) → k < length given.shapes - 1 → DoesHold point rule given p k → ⊥))

-- a call's query about many points: polygons, the points in question, and the code of a fill rule
pub record HoldersQuery (P : Type 0) : Type 0 where
  pub polygons : PolygonArrays P
  pub about : List P
  pub rule : ℤ

-- the query of these parts
abbrev pub holders_query : {P : Type 0} → PolygonArrays P → List P → ℤ → HoldersQuery P
holders_query polygons about rule = record { polygons = polygons; about = about; rule = rule }

-- 0 and an index for each point, or a code with nothing written
abbrev pub HoldersAnswer : {P : Type 0} → (P → Point) → HoldersQuery P → List ℕ → List ℕ → ℤ → Type 0
HoldersAnswer point asked old new (pos zero) = IfSome (rule_of asked.rule) (λ r. AreTold (IsHolder point asked.polygons r) point asked.about old new)
HoldersAnswer point asked old new (pos (suc n)) = ⊥
HoldersAnswer point asked old new (negsuc n) = (n < 4) × (new ≡ old)

-- what a call returns and writes for the first polygon that holds each of many points, and exactly when it returns which
-- code: none for memory
pub record FindsHolders {P : Type 0} (width : Width) (point : P → Point) (asked : HoldersQuery P) (old new : List ℕ) (result : ℤ) : Type 0 where
  pub answer : HoldersAnswer point asked old new result
  pub refuses : Refuses ((rule_of asked.rule ≢ None) × PartsPolygons (length asked.polygons.points) asked.polygons.contours asked.polygons.shapes) (length asked.about ≤ length old)
      (AreSafeContours width point asked.polygons.points asked.polygons.contours × AreSafe width point asked.about) (Unit {0}) result

-- the points of the contours of polygon k
abbrev pub polygon_points : {P : Type 0} → PolygonArrays P → ℕ → List P
polygon_points given k = slice_range given.points (offset given.contours (offset given.shapes k)) (offset given.contours (offset given.shapes (k + 1)))

-- each box holds the points of the polygon at its index
abbrev pub AreBoxes : {P I : Type 0} → (I → ℤ) → (P → Point) → PolygonArrays P → List (Bounds I) → Type 0
AreBoxes {P} {I} value point given boxes = (k : ℕ) (d : Bounds I) → k < length boxes → All (λ q. Holds value (get_or boxes k d) (point q)) (polygon_points given k)
