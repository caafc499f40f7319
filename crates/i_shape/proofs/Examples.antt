-- The definitions of flat lists, shapes and ranges at literal values.
use Rattle.std.proofs.Common.{◌≡◌, ℕ, List, [], ◌∷◌, ◌<◌, Option, Some, None, pos, refl, lit≤, lit<, arith, length}
use Rattle.i_shape_core.specs.Point.{cross}
use Rattle.i_shape.proofs.Common.{Range, Point, shoelace, area_of_edge, is_right, concatenated, InOrder, part_of, slices, shapes, IsReadableShape, end_to_end, CanReadFirst, first_contour, range_len, readable_slices, in_one_shape, ShapeClean, ListClean, shape_shoelace, shapes_shoelace, inside_count}

abbrev from_to : ℕ → ℕ → Range ℕ
from_to start end = record { start = start; end = end }

-- natural numbers for points
abbrev three : List ℕ
three = 7 ∷ 8 ∷ 9 ∷ []

-- ---- ranges: an empty or reversed one names nothing
parts : (part_of three (from_to 1 3) ≡ 8 ∷ 9 ∷ []) × (part_of three (from_to 1 1) ≡ []) × (part_of three (from_to 2 1) ≡ []) × (range_len (from_to 2 1) ≡ 0)
parts = (refl, refl, refl, refl)

in_order : InOrder 3 (from_to 0 3) × InOrder 3 (from_to 3 3) × (InOrder 3 (from_to 2 1) → ⊥) × (InOrder 3 (from_to 2 4) → ⊥)
in_order = ((lit≤ tt, lit≤ tt), (lit≤ tt, lit≤ tt), λ h. omega (arith, h.0), λ h. omega (arith, h.1))

overlapping : slices three (from_to 0 2 ∷ from_to 1 3 ∷ from_to 2 2 ∷ []) ≡ (7 ∷ 8 ∷ []) ∷ (8 ∷ 9 ∷ []) ∷ [] ∷ []
overlapping = refl

first_of_none : CanReadFirst [] 3 × (first_contour three [] ≡ three) × (first_contour three (from_to 1 2 ∷ from_to 0 3 ∷ []) ≡ 8 ∷ [])
first_of_none = (tt, refl, refl)

-- ranges that can't be read are left out of what is lent
lent : readable_slices three (from_to 3 2 ∷ from_to 1 2 ∷ from_to 0 9 ∷ from_to 0 2 ∷ []) ≡ (8 ∷ []) ∷ (7 ∷ 8 ∷ []) ∷ []
lent = refl

-- ---- lists end to end, an empty one among them
laid : (concatenated ((7 ∷ 8 ∷ []) ∷ [] ∷ (9 ∷ []) ∷ []) ≡ three) × (end_to_end {P = ℕ} 0 ((7 ∷ 8 ∷ []) ∷ [] ∷ (9 ∷ []) ∷ []) ≡ from_to 0 2 ∷ from_to 2 2 ∷ from_to 2 3 ∷ [])
laid = (refl, refl)

-- ---- shapes: an empty or reversed shape range names the shape without contours, wherever it points
grouped : shapes three (from_to 0 2 ∷ from_to 2 3 ∷ []) (from_to 0 2 ∷ from_to 5 5 ∷ from_to 2 0 ∷ from_to 1 2 ∷ [])
    ≡ ((7 ∷ 8 ∷ []) ∷ (9 ∷ []) ∷ []) ∷ [] ∷ [] ∷ ((9 ∷ []) ∷ []) ∷ []
grouped = refl

empty_range_is_readable : IsReadableShape 3 [] (from_to 5 5) × (IsReadableShape 3 [] (from_to 0 1) → ⊥)
empty_range_is_readable = (λ less. omega (arith, less), λ readable. omega (arith, (readable (lit< tt)).0))

one_shape : (in_one_shape {P = ℕ} [] ≡ []) × (in_one_shape {P = ℕ} ((7 ∷ []) ∷ [] ∷ []) ≡ ((7 ∷ []) ∷ [] ∷ []) ∷ [])
one_shape = (refl, refl)

-- ---- cleaning by which a contour of fewer than three points collapses, and any other is its own answer
Told : List Point → Option (List Point) → Type 0
Told c None = length c < 3
Told c (Some e) = (e ≡ c) × (2 < length c)

p : Point
p = record { x = pos 0; y = pos 0 }

corner : List Point
corner = p ∷ p ∷ p ∷ []

told : Told [] None × Told corner (Some corner)
unfolding Told corner
told = (lit< tt, (refl, lit< tt))

empty_shape_stays : ShapeClean Told [] (Some [])
empty_shape_stays = refl

outer_collapses : ShapeClean Told ([] ∷ corner ∷ []) None
outer_collapses = told.0

hole_collapses : ShapeClean Told (corner ∷ [] ∷ corner ∷ []) (Some (corner ∷ corner ∷ []))
hole_collapses = (told.1, (None ∷ Some corner ∷ [], (told.0, (told.1, tt)), refl))

list_keeps_the_empty_shape : ListClean Told ([] ∷ ([] ∷ []) ∷ (corner ∷ []) ∷ []) ([] ∷ (corner ∷ []) ∷ [])
list_keeps_the_empty_shape = (Some [] ∷ None ∷ Some (corner ∷ []) ∷ [], (refl, (told.0, ((told.1, ([], tt, refl)), tt))), refl)

-- ---- the double area of a shape and of a list is the sum, and none is 0
abbrev at : ℕ → ℕ → Point
at x y = record { x = pos x; y = pos y }

half : List Point
half = at 0 0 ∷ at 1 0 ∷ at 0 1 ∷ []

sums : (shape_shoelace [] ≡ pos 0) × (shapes_shoelace ([] ∷ []) ≡ pos 0) × (shape_shoelace (half ∷ half ∷ []) ≡ pos 2) × (shapes_shoelace ((half ∷ half ∷ []) ∷ [] ∷ (half ∷ []) ∷ []) ≡ pos 3)
unfolding shoelace area_of_edge half
sums = (refl, refl, refl, refl)

-- ---- the number of contours that a point is inside
corners : List Point
corners = at 0 0 ∷ at 4 0 ∷ at 0 4 ∷ []

counted : (inside_count [] (at 1 1) ≡ 0) × (inside_count (corners ∷ half ∷ corners ∷ []) (at 1 1) ≡ 2) × (inside_count (corners ∷ []) (at 9 1) ≡ 0)
unfolding inside_count is_right cross half corners
counted = (refl, refl, refl)
