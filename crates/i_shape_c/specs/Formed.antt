-- The canonical form of each of many polygons, in two arrays: a contour that collapses is empty, so each stays in its
-- polygon. And the canonical form of each of many features, which are lists of polygons: a polygon that collapses has no
-- contour, so each stays in its feature.
use Rattle.std.specs.Prelude.{◌≡◌, ℕ, ℤ, ◌-◌, ◌<◌, ◌≤◌, ◌⊎◌, pos, negsuc, List, [], map, length, Option, Some, None}
use Rattle.std.specs.Int.{Width}
use Rattle.std.specs.List.{AllPairs, AllZip}
use Rattle.i_shape.specs.Point.{Point}
use Rattle.i_shape.specs.Canonical.{IsAtMost}
use Rattle.i_shape.specs.CanonicalShapes.{ShapeForm, IsShapeAtMost}
use Rattle.i_shape.specs.Cleaning.{Cleaning}
use Rattle.i_shape.specs.Paths.{concatenated}
use Rattle.i_shape.specs.Written.{slot, IsCleaned}
use Rattle.i_shape_c.specs.Steps.Appended.{IsPut}
use Rattle.i_shape_c.specs.Batch.{ContourArrays, PartsPoints, HasRoom, AreSafeContours, IsUntouched}
use Rattle.i_shape_c.specs.Codes.{Refuses}
use Rattle.i_shape_c.specs.Polygons.{PolygonArrays, polygon_arrays, PartsPolygons, HasShapesRoom, HaveNoContours, ShapesAnswer, parts, polygons, offsets_of}
use Rattle.i_shape_c.specs.Steps.Sorted.{SortsEachRest, SortsEach}

-- each contour is what the cleaner makes of one, empty where that collapses: the first contour of a polygon is that of
-- the first, and the others are those of the others, sorted, so that the empty ones come first; the contours outside
-- the polygons stay at their places
pub record AreFormed {P : Type 0} (cleaning : Cleaning) (width : Width) (point : P → Point) (given : PolygonArrays P) (contours : List (List P)) : Type 0 where
  pub forms : List (List Point)
  pub cleaned : AllZip (λ contour form. IsCleaned cleaning width contour (slot form)) (parts (map point given.points) given.contours) forms
  pub sorted : SortsEachRest (AllPairs IsAtMost) forms (map (map point) contours) given.shapes

-- the new arrays begin with the form of each polygon, n points in all, and what follows is unchanged
pub record HoldForms {P : Type 0} (cleaning : Cleaning) (width : Width) (point : P → Point) (given : PolygonArrays P) (old new : ContourArrays P) (n : ℕ) : Type 0 where
  pub contours : List (List P)
  pub formed : AreFormed cleaning width point given contours
  pub count : length (concatenated contours) ≡ n
  pub fewer : n ≤ length given.points
  pub points_are : IsPut 0 (concatenated contours) old.points new.points
  pub offsets_are : IsPut 0 (offsets_of 0 contours) old.offsets new.offsets

-- the number of points that are written, or a code with nothing written
abbrev pub FormsAnswer : {P : Type 0} → Cleaning → Width → (P → Point) → PolygonArrays P → ContourArrays P → ContourArrays P → ℤ → Type 0
FormsAnswer cleaning width point given old new (pos n) = HoldForms cleaning width point given old new n
FormsAnswer cleaning width point given old new (negsuc n) = (n < 4) × IsUntouched old new

-- what a call returns and leaves that writes the form of each polygon, and exactly when it returns a code: never that
-- of a failed allocation where there is no contour
pub record FormsEach {P : Type 0} (cleaning : Cleaning) (width : Width) (point : P → Point) (given : PolygonArrays P) (old new : ContourArrays P) (result : ℤ) : Type 0 where
  pub answer : FormsAnswer cleaning width point given old new result
  pub refuses : Refuses (PartsPolygons (length given.points) given.contours given.shapes) (HasRoom (length given.points) (length given.contours) (length old.points) (length old.offsets))
      (AreSafeContours width point given.points given.contours) (length given.contours ≡ 1) result

-- polygons, and the offsets that divide them into features
pub record FeatureArrays (P : Type 0) : Type 0 where
  pub polygons : PolygonArrays P
  pub features : List ℕ

-- the record of these four arrays
abbrev pub feature_arrays : {P : Type 0} → List P → List ℕ → List ℕ → List ℕ → FeatureArrays P
feature_arrays points contours shapes features = record { polygons = polygon_arrays points contours shapes; features = features }

-- the offsets divide so many points into contours, these into polygons, and these into features
pub record PartsFeatures (points : ℕ) (contours shapes features : List ℕ) : Type 0 where
  pub polygons_parted : PartsPolygons points contours shapes
  pub features_parted : PartsPoints (length shapes - 1) features

-- the form of a polygon, which has no contour if the polygon collapses
abbrev pub IsFormOrEmpty : (List Point → Option (List Point) → Type 0) → List (List Point) → List (List Point) → Type 0
IsFormOrEmpty Form shape form = ShapeForm Form shape (Some form) ⊎ (ShapeForm Form shape None × (form ≡ []))

-- the forms of the polygons, those of each feature sorted; the forms of polygons that no feature has stay at their places
pub record FeaturesForm (Form : List Point → Option (List Point) → Type 0) (features : List ℕ) (given sorted : List (List (List Point))) : Type 0 where
  pub forms : List (List (List Point))
  pub formed : AllZip (IsFormOrEmpty Form) given forms
  pub in_order : SortsEach (AllPairs IsShapeAtMost) forms sorted features

-- what a call returns and leaves that writes the form of each feature: the number of polygons, or a code with nothing
-- written; and exactly when it returns each code, but that of memory only where a polygon has a contour
pub record FormsFeatures {P : Type 0} (cleaning : Cleaning) (width : Width) (point : P → Point) (given : FeatureArrays P) (old new : PolygonArrays P) (result : ℤ) : Type 0 where
  pub answer : ShapesAnswer (FeaturesForm cleaning.answers given.features) point given.polygons old new result
  pub refuses : Refuses (PartsFeatures (length given.polygons.points) given.polygons.contours given.polygons.shapes given.features)
      (HasShapesRoom (length given.polygons.points) (length given.polygons.contours) (length given.polygons.shapes) (length old.points) (length old.contours) (length old.shapes))
      (AreSafeContours width point given.polygons.points given.polygons.contours)
      (HaveNoContours (polygons (map point given.polygons.points) given.polygons.contours given.polygons.shapes)) result
