-- How what is left of polygons is written one after the other, and the room that it takes. The calls
-- don't cite this.
use Rattle.std.specs.Prelude.{◌≡◌, Bool, ℕ, ◌+◌, ◌-◌, ◌<◌, ◌≤◌, ◌⊎◌, ◌++◌, List, [], ◌∷◌, map, length, take, drop, slice_range, IsTrue, Option, Some, None}
use Rattle.std.specs.Int.{Width}
use Rattle.std.specs.List.{AllZip, range_with_len}
use Rattle.std.specs.Option.{option_map, option_to_list}
use Rattle.i_shape.specs.Point.{Point}
use Rattle.i_shape.specs.IntPoint.{IsSafeContour}
use Rattle.i_shape.specs.Paths.{concatenated}
use Rattle.i_shape.specs.ShapeAnswers.{ShapeClean}
use Rattle.i_shape_c.specs.Batch.{ContourArrays, contour_arrays, offset, nth_contour}
use Rattle.i_shape_c.specs.Polygons.{PolygonArrays, parts, offsets_of}
use Rattle.i_shape_c.specs.declared.polygons.Counts.{Counts}

-- a contour can be cleaned without more memory: it is safe; if `is_clean`, it is clean; if it isn't clean, there is
-- room for its points; `read` returns the points that a list represents
pub record IsReady {P : Type 0} (Clean : List Point → Type 0) (width : Width) (read : List P → List Point) (is_clean : Bool) (room : ℕ → Type 0) (ring : List P) : Type 0 where
  pub safe : IsSafeContour width (read ring)
  pub clean : IsTrue is_clean → Clean (read ring)
  pub reserved : (Clean (read ring) → ⊥) → room (length ring)

-- each contour that the offsets delimit can be cleaned without more memory
abbrev pub AreReady : {P : Type 0} → (List Point → Type 0) → Width → (List P → List Point) → Bool → (ℕ → Type 0) → List P → List ℕ → Type 0
AreReady Clean width read all_clean room points rings = (k : ℕ) → k + 1 < length rings → IsReady Clean width read all_clean room (nth_contour points rings k)

-- the offsets of the contours of polygon k, if `rings` begins with those of the first polygon
abbrev pub rings_at : List ℕ → List ℕ → ℕ → List ℕ
rings_at rings shapes k = slice_range rings (offset shapes k - offset shapes 0) (offset shapes (k + 1) - offset shapes 0 + 1)

-- the contours of each of the first n polygons
abbrev pub polygons_of : {P : Type 0} → List P → List ℕ → List ℕ → ℕ → List (List (List P))
polygons_of points rings shapes n = map (λ k. parts points (rings_at rings shapes k)) (range_with_len 0 n)

-- there is room for the points of the polygons, the offsets of their contours, and their own offsets
pub record HasPolygonsRoom (contours shapes : List ℕ) (out_points out_contours out_shapes : ℕ) : Type 0 where
  pub points_room : offset contours (offset shapes (length shapes - 1)) ≤ out_points + offset contours (offset shapes 0)
  pub contours_room : offset shapes (length shapes - 1) < out_contours + offset shapes 0
  pub shapes_room : length shapes ≤ out_shapes

-- the new list has the part at index `at`, and is otherwise unchanged
abbrev pub IsPut : {P : Type 0} → ℕ → List P → List P → List P → Type 0
IsPut at part old new = new ≡ take at old ++ (part ++ drop (at + length part) old)

-- the ends of lists laid end to end from `start` on
abbrev pub ends_from : {P : Type 0} → ℕ → List (List P) → List ℕ
ends_from start [] = []
ends_from start (part ∷ rest) = (start + length part) ∷ ends_from (start + length part) rest

-- the contours are written after those counted before, and counted
pub record AppendsRings {P : Type 0} (rings : List (List P)) (old new : ContourArrays P) (before after : Counts) : Type 0 where
  pub points : IsPut before.points (concatenated rings) old.points new.points
  pub contours : IsPut (before.contours + 1) (ends_from before.points rings) old.offsets new.offsets
  pub points_len : length new.points ≡ length old.points
  pub contours_len : length new.offsets ≡ length old.offsets
  pub points_count : after.points ≡ before.points + length (concatenated rings)
  pub contours_count : after.contours ≡ before.contours + length rings

-- the polygons are written after those counted before, and counted
pub record AppendsPolygons {P : Type 0} (list : List (List (List P))) (old new : PolygonArrays P) (before after : Counts) : Type 0 where
  pub rings : AppendsRings (concatenated list) (contour_arrays old.points old.contours) (contour_arrays new.points new.contours) before after
  pub shapes : IsPut (before.shapes + 1) (ends_from before.contours list) old.shapes new.shapes
  pub shapes_len : length new.shapes ≡ length old.shapes
  pub shapes_count : after.shapes ≡ before.shapes + length list

-- what is left of a polygon: nothing, and so no contour, if it collapses
abbrev pub IsLeftOrEmpty : (List Point → Option (List Point) → Type 0) → List (List Point) → List (List Point) → Type 0
IsLeftOrEmpty Answer shape kept = ShapeClean Answer shape (Some kept) ⊎ (ShapeClean Answer shape None × (kept ≡ []))

-- what is left of each polygon
abbrev pub AreLeftOrEmpty : (List Point → Option (List Point) → Type 0) → List (List (List Point)) → List (List (List Point)) → Type 0
AreLeftOrEmpty Answer given kept = AllZip (IsLeftOrEmpty Answer) given kept

-- what is left of a contour is written after those counted before; nothing is written if it collapses
pub record AppendsRingLeft {P : Type 0} (Answer : List Point → Option (List Point) → Type 0) (point : P → Point) (ring : List P) (old new : ContourArrays P) (before after : Counts) : Type 0 where
  pub left : Option (List P)
  pub answer : Answer (map point ring) (option_map (map point) left)
  pub appended : AppendsRings (option_to_list left) old new before after

-- what is left of a polygon is written after those counted before; nothing is written if it collapses
pub record AppendsShapeLeft {P : Type 0} (Answer : List Point → Option (List Point) → Type 0) (point : P → Point) (shape : List (List P)) (old new : PolygonArrays P) (before after : Counts) : Type 0 where
  pub left : Option (List (List P))
  pub answer : ShapeClean Answer (map (map point) shape) (option_map (map (map point)) left)
  pub appended : AppendsPolygons (option_to_list left) old new before after

-- what is left of a polygon is written after those counted before, without contours if it collapses
pub record AppendsShapeKept {P : Type 0} (Answer : List Point → Option (List Point) → Type 0) (point : P → Point) (shape : List (List P)) (old new : PolygonArrays P) (before after : Counts) : Type 0 where
  pub kept : List (List P)
  pub answer : IsLeftOrEmpty Answer (map (map point) shape) (map (map point) kept)
  pub appended : AppendsPolygons (kept ∷ []) old new before after

-- the three arrays begin with the polygons, and are otherwise unchanged
pub record HoldsPolygons {P : Type 0} (list : List (List (List P))) (old new : PolygonArrays P) : Type 0 where
  pub points_are : IsPut 0 (concatenated (concatenated list)) old.points new.points
  pub contours_are : IsPut 0 (offsets_of 0 (concatenated list)) old.contours new.contours
  pub shapes_are : IsPut 0 (offsets_of 0 list) old.shapes new.shapes

-- the three arrays hold the n polygons, with at most `points` points, fewer than `rings` contours, and n below `shapes`
pub record WritesPolygons {P : Type 0} (list : List (List (List P))) (points rings shapes : ℕ) (old new : PolygonArrays P) (n : ℕ) : Type 0 where
  pub held : HoldsPolygons list old new
  pub count : length list ≡ n
  pub fewer_points : length (concatenated (concatenated list)) ≤ points
  pub fewer_contours : length (concatenated list) < rings
  pub fewer_shapes : length list < shapes

-- the arrays hold what is left of the given polygons, whose contours' offsets begin with those of the first polygon
pub record WritesLeft {P : Type 0} (Gives : List (List (List Point)) → List (List (List Point)) → Type 0) (point : P → Point) (given old new : PolygonArrays P) (n : ℕ) : Type 0 where
  pub left : List (List (List P))
  pub answer : Gives (map (map (map point)) (polygons_of given.points given.contours given.shapes (length given.shapes - 1))) (map (map (map point)) left)
  pub written : WritesPolygons left (length given.points) (length given.contours) (length given.shapes) old new n
