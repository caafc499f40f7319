-- Polygons in three arrays: points, offsets that divide these into contours, and offsets that divide the contours into
-- polygons.
use Rattle.std.specs.Prelude.{◌≡◌, ℕ, ℤ, ◌+◌, ◌-◌, ◌<◌, ◌≤◌, ◌++◌, pos, negsuc, List, [], ◌∷◌, map, length, take, drop}
use Rattle.std.specs.List.{All, range_with_len}
use Rattle.i_shape.specs.Point.{Point}
use Rattle.i_shape.specs.CanonicalShapes.{ListForm}
use Rattle.i_shape.specs.Paths.{concatenated}
use Rattle.i_shape.specs.ShapeAnswers.{ListClean, EachShape}
use Rattle.i_shape_c.specs.Batch.{nth_contour, PartsPoints, HasRoom, AreSafeContours}
use Rattle.i_shape_c.specs.Cleaned.{TakesNoMemory}
use Rattle.i_shape.specs.Cleaning.{Cleaning}
use Rattle.i_shape_c.specs.Codes.{Refuses}
use Rattle.std.specs.Int.{Width}

-- points, the offsets that divide them into contours, and those that divide the contours into polygons
pub record PolygonArrays (P : Type 0) : Type 0 where
  pub points : List P
  pub contours : List ℕ
  pub shapes : List ℕ

-- the record of these three arrays
abbrev pub polygon_arrays : {P : Type 0} → List P → List ℕ → List ℕ → PolygonArrays P
polygon_arrays points contours shapes = record { points = points; contours = contours; shapes = shapes }

-- the parts of a list between one offset and the next
abbrev pub parts : {P : Type 0} → List P → List ℕ → List (List P)
parts list offsets = map (nth_contour list offsets) (range_with_len 0 (length offsets - 1))

-- the contours of each polygon
abbrev pub polygons : {P : Type 0} → List P → List ℕ → List ℕ → List (List (List P))
polygons points contours shapes = parts (parts points contours) shapes

-- the offsets of lists laid end to end from `start` on: where each begins, and where the last ends
abbrev pub offsets_of : {P : Type 0} → ℕ → List (List P) → List ℕ
offsets_of start [] = start ∷ []
offsets_of start (part ∷ parts) = start ∷ offsets_of (start + length part) parts

-- the offsets divide so many points into contours, and these into polygons
pub record PartsPolygons (points : ℕ) (contours shapes : List ℕ) : Type 0 where
  pub contours_parted : PartsPoints points contours
  pub shapes_parted : PartsPoints (length contours - 1) shapes

-- there is room for so many points, and for the offsets of contours and polygons
pub record HasShapesRoom (points contours shapes out_points out_contours out_shapes : ℕ) : Type 0 where
  pub contours_fit : HasRoom points contours out_points out_contours
  pub shapes_room : shapes ≤ out_shapes

-- the new arrays begin with what is left of the polygons, n of them, and are otherwise unchanged; at most as many
-- points, contours and polygons are left as were given
pub record AreShapesLeft {P : Type 0} (Gives : List (List (List Point)) → List (List (List Point)) → Type 0) (point : P → Point) (given old new : PolygonArrays P) (n : ℕ) : Type 0 where
  pub list : List (List (List Point))
  pub left : Gives (polygons (map point given.points) given.contours given.shapes) list
  pub count : length list ≡ n
  pub fewer_points : length (concatenated (concatenated list)) ≤ length given.points
  pub fewer_contours : length (concatenated list) < length given.contours
  pub fewer_shapes : n < length given.shapes
  pub written : map point (take (length (concatenated (concatenated list))) new.points) ≡ concatenated (concatenated list)
  pub rest : drop (length (concatenated (concatenated list))) new.points ≡ drop (length (concatenated (concatenated list))) old.points
  pub contours_are : new.contours ≡ offsets_of 0 (concatenated list) ++ drop (length (concatenated list) + 1) old.contours
  pub shapes_are : new.shapes ≡ offsets_of 0 list ++ drop (length list + 1) old.shapes

-- the number of polygons that are left, or a code with nothing written
abbrev pub ShapesAnswer : {P : Type 0} → (List (List (List Point)) → List (List (List Point)) → Type 0) → (P → Point) → PolygonArrays P → PolygonArrays P → PolygonArrays P → ℤ → Type 0
ShapesAnswer Gives point given old new (pos n) = AreShapesLeft Gives point given old new n
ShapesAnswer Gives point given old new (negsuc n) = (n < 4) × (new.points ≡ old.points) × (new.contours ≡ old.contours) × (new.shapes ≡ old.shapes)

-- no polygon has a contour
abbrev pub HaveNoContours : List (List (List Point)) → Type 0
HaveNoContours list = All (λ shape. shape ≡ []) list

-- what a call does with polygons: `gives` relates the polygons to what is left of them, and the call needs no memory if
-- `spares` holds of them
pub record PolygonCleaning : Type 1 where
  pub spares : List (List (List Point)) → Type 0
  pub gives : List (List (List Point)) → List (List (List Point)) → Type 0

-- each contour is cleaned; no memory is needed if no contour needs any
abbrev pub cleaned_by : Cleaning → PolygonCleaning
cleaned_by cleaning = record { spares = EachShape (TakesNoMemory cleaning.fewest cleaning.clean); gives = ListClean cleaning.answers }

-- the polygons are brought into the form by the cleaner's form of contours; no memory is needed if no polygon has a
-- contour
abbrev pub formed_by : Cleaning → PolygonCleaning
formed_by cleaning = record { spares = HaveNoContours; gives = ListForm cleaning.answers }

-- what a call that cleans polygons returns and leaves, and exactly when it returns each code, but that of memory only
-- if `spares` doesn't hold
pub record CleansPolygons {P : Type 0} (cleaning : PolygonCleaning) (width : Width) (point : P → Point) (given old new : PolygonArrays P) (result : ℤ) : Type 0 where
  pub answer : ShapesAnswer cleaning.gives point given old new result
  pub refuses : Refuses (PartsPolygons (length given.points) given.contours given.shapes)
      (HasShapesRoom (length given.points) (length given.contours) (length given.shapes) (length old.points) (length old.contours) (length old.shapes))
      (AreSafeContours width point given.points given.contours) (cleaning.spares (polygons (map point given.points) given.contours given.shapes)) result
