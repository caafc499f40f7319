-- Which polygons and contours are left, as indices, if collapsed contours are empty.
use Rattle.std.specs.Prelude.{◌≡◌, ◌^◌, ℕ, ℤ, Bool, ◌||◌, nat_lt, nat_le, ◌+◌, ◌-◌, ◌<◌, ◌≤◌, ◌++◌, pos, negsuc, List, map, length, drop}
use Rattle.std.specs.List.{filter, range_with_len}
use Rattle.i_shape.specs.Paths.{concatenated}
use Rattle.i_shape_c.specs.Batch.{offset}
use Rattle.i_shape_c.specs.Codes.{Refuses}
use Rattle.i_shape_c.specs.Polygons.{PartsPolygons, offsets_of}

-- whether contour k has points
abbrev pub has_points : List ℕ → ℕ → Bool
has_points contours k = nat_lt (offset contours k) (offset contours (k + 1))

-- whether polygon k is left: it has no contours, or its outer one has points
abbrev pub is_left : List ℕ → List ℕ → ℕ → Bool
is_left contours shapes k = nat_le (offset shapes (k + 1)) (offset shapes k) || has_points contours (offset shapes k)

-- the indices of those of the first n polygons that are left
abbrev pub shapes_left : List ℕ → List ℕ → ℕ → List ℕ
shapes_left contours shapes n = filter (is_left contours shapes) (range_with_len 0 n)

-- the indices from `start` to before `end` of the contours that have points
abbrev pub contours_left : List ℕ → ℕ → ℕ → List ℕ
contours_left contours start end = filter (has_points contours) (range_with_len start (end - start))

-- for each polygon that is left, the indices of its contours that have points
abbrev pub contours_by_shape : List ℕ → List ℕ → ℕ → List (List ℕ)
contours_by_shape contours shapes n = map (λ k. contours_left contours (offset shapes k) (offset shapes (k + 1))) (shapes_left contours shapes n)

-- the arrays that are written
pub record Indices : Type 0 where
  pub contours : List ℕ
  pub shapes : List ℕ
  pub offsets : List ℕ

-- the new list begins with the part, and is otherwise unchanged
abbrev pub BeginsWith : List ℕ → List ℕ → List ℕ → Type 0
BeginsWith part old new = new ≡ part ++ drop (length part) old

-- of the first n polygons `count` are left; the new arrays begin with the indices of these and of their contours that
-- have points, and with the offsets that divide these contours into these polygons
pub record AreIndicesLeft (contours shapes : List ℕ) (n : ℕ) (old new : Indices) (count : ℕ) : Type 0 where
  pub shapes_are : BeginsWith (shapes_left contours shapes n) old.shapes new.shapes
  pub contours_are : BeginsWith (concatenated (contours_by_shape contours shapes n)) old.contours new.contours
  pub offsets_are : BeginsWith (offsets_of 0 (contours_by_shape contours shapes n)) old.offsets new.offsets
  pub shape_count : length (shapes_left contours shapes n) ≡ count

-- there is room for the indices of so many contours and polygons, and for one offset more than polygons
pub record HasIndicesRoom (contours shapes out_contours out_shapes out_offsets : ℕ) : Type 0 where
  pub contours_room : contours ≤ out_contours
  pub shapes_room : shapes ≤ out_shapes
  pub offsets_room : shapes < out_offsets

-- the number of polygons that are left, or a code with nothing written
abbrev pub CompactAnswer : List ℕ → List ℕ → Indices → Indices → ℤ → Type 0
CompactAnswer contours shapes old new (pos n) = AreIndicesLeft contours shapes (length shapes - 1) old new n
CompactAnswer contours shapes old new (negsuc n) = (n < 4) × (new ≡ old)

-- what the call returns and writes, and exactly when it returns each code; it takes any number of points, and never
-- returns the codes for unsafe points and memory
pub record CompactsShapes (contours shapes : List ℕ) (old new : Indices) (result : ℤ) : Type 0 where
  pub answer : CompactAnswer contours shapes old new result
  pub refuses : Refuses (PartsPolygons (2 ^ 64 - 1) contours shapes)
      (HasIndicesRoom (length contours - 1) (length shapes - 1) (length old.contours) (length old.shapes) (length old.offsets)) (Unit {0}) (Unit {0}) result
