-- What a list of points and lists of ranges mean together.
use Rattle.std.specs.Prelude.{ℕ, ◌+◌, ◌<◌, ◌≤◌, List, [], ◌∷◌, length, map, slice_range}
use Rattle.std.specs.List.{All}
use Rattle.std.specs.declared.ops.Range.{Range}

-- the range lies within a list of n members, and isn't reversed
abbrev pub InOrder : ℕ → Range ℕ → Type 0
InOrder n range = (range.start ≤ range.end) × (range.end ≤ n)

-- the part of a list that a range names: none of it if the range is empty or reversed
abbrev pub part_of : {P : Type 0} → List P → Range ℕ → List P
part_of list range = slice_range list range.start range.end

-- the parts of the points that the ranges name, in order
abbrev pub slices : {P : Type 0} → List P → List (Range ℕ) → List (List P)
slices points ranges = map (part_of points) ranges

-- each shape range names contour ranges, and these name the contours of the shape: none if the shape range is empty or
-- reversed
abbrev pub shapes : {P : Type 0} → List P → List (Range ℕ) → List (Range ℕ) → List (List (List P))
shapes points contour_ranges shape_ranges = map (λ range. slices points (part_of contour_ranges range)) shape_ranges

-- a shape range that isn't empty or reversed names contour ranges that exist, each of which lies within a list of n
-- points
abbrev pub IsReadableShape : ℕ → List (Range ℕ) → Range ℕ → Type 0
IsReadableShape n contour_ranges range =
    range.start < range.end → (range.end ≤ length contour_ranges) × All (InOrder n) (part_of contour_ranges range)

-- the range of the n members after the first k
abbrev pub behind : ℕ → ℕ → Range ℕ
behind k n = record { start = k; end = k + n }

-- the ranges of lists laid end to end from `start` on
abbrev pub end_to_end : {P : Type 0} → ℕ → List (List P) → List (Range ℕ)
end_to_end start [] = []
end_to_end start (part ∷ parts) = record { start = start; end = start + length part } ∷ end_to_end (start + length part) parts
