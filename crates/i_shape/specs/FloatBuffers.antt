-- What a flat buffer over points of any type holds.
use Rattle.std.specs.Prelude.{ℕ, List, length, Bool, ◌&&◌, nat_le, ◌≡◌, ◌≤◌, [], ◌∷◌, vec_capacity}
use Rattle.std.specs.List.{filter, All}
use Rattle.std.specs.declared.ops.Range.{Range}
use Rattle.i_shape.specs.Flat.{slices, InOrder, IsReadableShape, shapes, end_to_end}
use Rattle.i_shape.specs.declared.flat.float.contours.FloatFlatContoursBuffer.{FloatFlatContoursBuffer}
use Rattle.i_shape.specs.declared.flat.float.shapes.FloatFlatShapesBuffer.{FloatFlatShapesBuffer}
use Rattle.i_shape_source.specs.Paths.{concatenated}

-- whether the range lies within a list of n members and isn't reversed
abbrev pub is_readable : ℕ → Range ℕ → Bool
is_readable n range = nat_le range.start range.end && nat_le range.end n

-- the parts of the points that the ranges name, without the ranges that are reversed or reach beyond the points
abbrev pub readable_slices : {P : Type 0} → List P → List (Range ℕ) → List (List P)
readable_slices points ranges = slices points (filter (is_readable (length points)) ranges)

-- the buffer of contours has these points and these ranges
pub record HasLists {P : Type 0} (buffer : FloatFlatContoursBuffer P) (held : List P) (named : List (Range ℕ)) : Type 0 where
  pub points : buffer.points.items ≡ held
  pub ranges : buffer.ranges.items ≡ named

-- the buffer of shapes has these points, these contour ranges and these shape ranges
pub record HasShapeLists {P : Type 0} (buffer : FloatFlatShapesBuffer P) (held : List P) (named grouped : List (Range ℕ)) : Type 0 where
  pub points : buffer.points.items ≡ held
  pub contour_ranges : buffer.contour_ranges.items ≡ named
  pub shape_ranges : buffer.shape_ranges.items ≡ grouped

-- the buffer of contours has room for at least so many points and contours in all
abbrev pub HasListsRoom : {P : Type 0} → FloatFlatContoursBuffer P → ℕ → ℕ → Type 0
HasListsRoom buffer points contours = (points ≤ vec_capacity buffer.points) × (contours ≤ vec_capacity buffer.ranges)

-- the new buffer has room for all that the old one had room for
abbrev pub KeepsListsRoom : {P : Type 0} → FloatFlatContoursBuffer P → FloatFlatContoursBuffer P → Type 0
KeepsListsRoom old new = HasListsRoom new (vec_capacity old.points) (vec_capacity old.ranges)

-- the buffer of shapes has room for at least so many points, contours and shapes in all
abbrev pub HasGroupsRoom : {P : Type 0} → FloatFlatShapesBuffer P → ℕ → ℕ → ℕ → Type 0
HasGroupsRoom buffer points contours shapes =
    (points ≤ vec_capacity buffer.points) × (contours ≤ vec_capacity buffer.contour_ranges) × (shapes ≤ vec_capacity buffer.shape_ranges)

-- the new buffer has room for all that the old one had room for
abbrev pub KeepsGroupsRoom : {P : Type 0} → FloatFlatShapesBuffer P → FloatFlatShapesBuffer P → Type 0
KeepsGroupsRoom old new = HasGroupsRoom new (vec_capacity old.points) (vec_capacity old.contour_ranges) (vec_capacity old.shape_ranges)

-- the two buffers of shapes have the same points and the same ranges
abbrev pub SameGroups : {P : Type 0} → FloatFlatShapesBuffer P → FloatFlatShapesBuffer P → Type 0
SameGroups old new = HasShapeLists new old.points.items old.contour_ranges.items old.shape_ranges.items

-- the points are the paths end to end, and one range names each path
pub record LieEndToEnd {P : Type 0} (held : List P) (named : List (Range ℕ)) (paths : List (List P)) : Type 0 where
  pub points : held ≡ concatenated paths
  pub ranges : named ≡ end_to_end 0 paths
  pub readable : All (InOrder (length held)) named
  pub slices : slices held named ≡ paths
  pub lent : readable_slices held named ≡ paths

-- all paths as one shape, or no shape if there are no paths
abbrev pub in_one_shape : {P : Type 0} → List (List P) → List (List (List P))
in_one_shape [] = []
in_one_shape (path ∷ paths) = (path ∷ paths) ∷ []

-- one shape range names all paths, or there are no paths and no shape range
pub record FormOneShape {P : Type 0} (buffer : FloatFlatShapesBuffer P) (paths : List (List P)) : Type 0 where
  pub shape_ranges : buffer.shape_ranges.items ≡ end_to_end 0 (in_one_shape paths)
  pub readable : All (IsReadableShape (length buffer.points.items) buffer.contour_ranges.items) buffer.shape_ranges.items
  pub shapes : shapes buffer.points.items buffer.contour_ranges.items buffer.shape_ranges.items ≡ in_one_shape paths
