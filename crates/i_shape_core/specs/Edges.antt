-- The edges of a contour, and what they determine: twice its area, and which points lie inside.
use Rattle.std.specs.Prelude.{◌≡◌, ◌%◌, ℤ, pos, ◌+ℤ◌, ◌-ℤ◌, ◌*ℤ◌, List, [], ◌∷◌, Bool, int_lt, cond, false, count_by}
use Rattle.i_shape_core.specs.Point.{Point, cross}

-- a segment from one point to another
pub record Edge : Type 0 where
  pub start : Point
  pub end : Point

-- the edges of the path from a over the points to z
abbrev pub edges_between : Point → List Point → Point → List Edge
edges_between a [] z = record { start = a; end = z } ∷ []
edges_between a (b ∷ bs) z = record { start = a; end = b } ∷ edges_between b bs z

-- the edges of a contour, from each point to the next and from the last to the first
abbrev pub edges : List Point → List Edge
edges [] = []
edges (a ∷ bs) = edges_between a bs a

-- the sum of an integer for each item
abbrev pub sum_of : {X : Type 0} → (X → ℤ) → List X → ℤ
sum_of f [] = pos 0
sum_of f (x ∷ xs) = f x +ℤ sum_of f xs

-- what an edge adds to twice the area
unfoldable pub area_of_edge : Edge → ℤ
area_of_edge e = e.start.x *ℤ e.end.y -ℤ e.start.y *ℤ e.end.x

-- twice the area, counterclockwise positive
unfoldable pub shoelace : List Point → ℤ
shoelace c = sum_of area_of_edge (edges c)

-- whether a is above p
abbrev pub is_above : Point → Point → Bool
is_above p a = int_lt p.y a.y

-- whether exactly one end of the edge is above p, and the edge passes the height of p strictly to the right of p
unfoldable pub is_right : Point → Edge → Bool
is_right p e = cond (is_above p e.start)
    (cond (is_above p e.end) false (int_lt (cross e.end p e.start) (pos 0)))
    (cond (is_above p e.end) (int_lt (cross e.start p e.end) (pos 0)) false)

-- an odd number of edges lie to the right of p
unfoldable pub Inside : List Point → Point → Type 0
Inside c p = count_by (is_right p) (edges c) % 2 ≡ 1
