-- What flat buffers hold and name, and their room.
use Rattle.std.specs.Prelude.{◌≡◌, ℕ, List, [], ◌∷◌, length, ◌++◌, ◌-◌, ◌≤◌, ℤ, map, vec_capacity}
use Rattle.std.specs.List.{All, sum_by}
use Rattle.std.specs.declared.ops.Range.{Range}
use Rattle.i_shape_core.specs.declared.point.IntPoint.{IntPoint}
use Rattle.i_shape.specs.declared.flat.buffer.contours.FlatContoursBuffer.{FlatContoursBuffer}
use Rattle.i_shape_source.specs.Paths.{concatenated}
use Rattle.i_shape.specs.Flat.{InOrder, part_of, slices, behind, end_to_end, IsReadableShape, shapes}
use Rattle.i_shape.specs.declared.flat.buffer.shapes.FlatShapesBuffer.{FlatShapesBuffer}
use Rattle.i_shape_core.specs.Point.{Point}
use Rattle.i_shape_core.specs.IntPoint.{contour_of}
pub use Rattle.i_shape_core.specs.Survivors.{Compact}

-- the buffer holds the contours end to end, and nothing else
pub record HoldsContours {T : Type 0} (buffer : FlatContoursBuffer T) (contours : List (List (IntPoint T))) : Type 0 where
  pub points : buffer.points.items ≡ concatenated contours
  pub ranges : buffer.ranges.items ≡ end_to_end 0 contours
  pub readable : All (InOrder (length buffer.points.items)) buffer.ranges.items
  pub slices : slices buffer.points.items buffer.ranges.items ≡ contours

-- the two buffers have the same points and the same ranges
pub record SameLists {T : Type 0} (old new : FlatContoursBuffer T) : Type 0 where
  pub points : new.points.items ≡ old.points.items
  pub ranges : new.ranges.items ≡ old.ranges.items

-- there is room for at least so many points and contours in all
abbrev pub HasRoom : {T : Type 0} → FlatContoursBuffer T → ℕ → ℕ → Type 0
HasRoom buffer points contours = (points ≤ vec_capacity buffer.points) × (contours ≤ vec_capacity buffer.ranges)

-- the new buffer has room for all that the old one had room for
abbrev pub KeepsRoom : {T : Type 0} → FlatContoursBuffer T → FlatContoursBuffer T → Type 0
KeepsRoom old new = HasRoom new (vec_capacity old.points) (vec_capacity old.ranges)

-- there is no range, or the first can be read
abbrev pub CanReadFirst : List (Range ℕ) → ℕ → Type 0
CanReadFirst [] n = Unit {0}
CanReadFirst (range ∷ ranges) n = InOrder n range

-- the part of the points that the first range names, or all of them if there is no range
abbrev pub first_contour : {P : Type 0} → List P → List (Range ℕ) → List P
first_contour points [] = points
first_contour points (range ∷ ranges) = part_of points range

-- every contour can be read
abbrev pub CanReadContours : {T : Type 0} → FlatContoursBuffer T → Type 0
CanReadContours buffer = All (InOrder (length buffer.points.items)) buffer.ranges.items

-- every shape can be read
abbrev pub CanReadShapes : {T : Type 0} → FlatShapesBuffer T → Type 0
CanReadShapes buffer = All (IsReadableShape (length buffer.points.items) buffer.contour_ranges.items) buffer.shape_ranges.items

-- the shapes that the buffer names
abbrev pub shapes_in : {T : Type 0} → FlatShapesBuffer T → List (List (List (IntPoint T)))
shapes_in buffer = shapes buffer.points.items buffer.contour_ranges.items buffer.shape_ranges.items

-- the buffer holds the contours of the shapes end to end, and nothing else
pub record HoldsShapes {T : Type 0} (buffer : FlatShapesBuffer T) (list : List (List (List (IntPoint T)))) : Type 0 where
  pub points : buffer.points.items ≡ concatenated (concatenated list)
  pub contour_ranges : buffer.contour_ranges.items ≡ end_to_end 0 (concatenated list)
  pub shape_ranges : buffer.shape_ranges.items ≡ end_to_end 0 list
  pub contours_readable : All (InOrder (length buffer.points.items)) buffer.contour_ranges.items
  pub shapes_readable : CanReadShapes buffer
  pub slices : slices buffer.points.items buffer.contour_ranges.items ≡ concatenated list
  pub shapes : shapes_in buffer ≡ list

-- the two buffers have the same points and the same ranges
pub record SameShapeLists {T : Type 0} (old new : FlatShapesBuffer T) : Type 0 where
  pub points : new.points.items ≡ old.points.items
  pub contour_ranges : new.contour_ranges.items ≡ old.contour_ranges.items
  pub shape_ranges : new.shape_ranges.items ≡ old.shape_ranges.items

-- there is room for at least so many points, contours and shapes in all
abbrev pub HasShapesRoom : {T : Type 0} → FlatShapesBuffer T → ℕ → ℕ → ℕ → Type 0
HasShapesRoom buffer points contours shapes =
    (points ≤ vec_capacity buffer.points) × (contours ≤ vec_capacity buffer.contour_ranges) × (shapes ≤ vec_capacity buffer.shape_ranges)

-- the new buffer has room for all that the old one had room for
abbrev pub KeepsShapesRoom : {T : Type 0} → FlatShapesBuffer T → FlatShapesBuffer T → Type 0
KeepsShapesRoom old new = HasShapesRoom new (vec_capacity old.points) (vec_capacity old.contour_ranges) (vec_capacity old.shape_ranges)

-- the new buffer is the old one with a shape appended
pub record AddsShape {T : Type 0} (old new : FlatShapesBuffer T) (shape : List (List (IntPoint T))) : Type 0 where
  pub points : new.points.items ≡ old.points.items ++ concatenated shape
  pub contour_ranges : new.contour_ranges.items ≡ old.contour_ranges.items ++ end_to_end (length old.points.items) shape
  pub shape_ranges : new.shape_ranges.items ≡ old.shape_ranges.items ++ behind (length old.contour_ranges.items) (length shape) ∷ []
  -- if the old shapes can be read, so can the new ones, which are the old ones and then this shape
  pub readable : CanReadShapes old → CanReadShapes new
  pub shapes : CanReadShapes old → shapes_in new ≡ shapes_in old ++ shape ∷ []

-- the contours that ranges name in points, in unbounded integers; `value` returns the number that a coordinate
-- represents
abbrev pub read_contours : {T : Type 0} → (T → ℤ) → List (IntPoint T) → List (Range ℕ) → List (List Point)
read_contours value points ranges = map (contour_of value) (slices points ranges)

-- the contours that the ranges of a buffer name, in unbounded integers
abbrev pub contours_in : {T : Type 0} → (T → ℤ) → FlatContoursBuffer T → List (List Point)
contours_in value buffer = read_contours value buffer.points.items buffer.ranges.items

-- the number of points that a range names: none if it is reversed
abbrev pub range_len : Range ℕ → ℕ
range_len range = range.end - range.start

-- contours in unbounded integers; `value` returns the number that a coordinate represents
abbrev pub contours_of : {T : Type 0} → (T → ℤ) → List (List (IntPoint T)) → List (List Point)
contours_of value contours = map (contour_of value) contours

-- the shapes that ranges of ranges name in points, in unbounded integers
abbrev pub read_shapes : {T : Type 0} → (T → ℤ) → List (IntPoint T) → List (Range ℕ) → List (Range ℕ) → List (List (List Point))
read_shapes value points contour_ranges shape_ranges = map (contours_of value) (shapes points contour_ranges shape_ranges)

-- the shapes that a buffer names, in unbounded integers
abbrev pub named_shapes : {T : Type 0} → (T → ℤ) → FlatShapesBuffer T → List (List (List Point))
named_shapes value buffer = map (contours_of value) (shapes_in buffer)

-- the number of points of the shapes together, each counted as often as it is named
abbrev pub named_points : List (Range ℕ) → List (Range ℕ) → ℕ
named_points contour_ranges shape_ranges = sum_by (λ range. sum_by range_len (part_of contour_ranges range)) shape_ranges

-- the number of contours of the shapes together, each counted as often as it is named
abbrev pub named_contours : List (Range ℕ) → List (Range ℕ) → ℕ
named_contours contour_ranges shape_ranges = sum_by (λ range. length (part_of contour_ranges range)) shape_ranges
