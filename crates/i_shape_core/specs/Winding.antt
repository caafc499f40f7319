-- The winding number of a contour about a point.
use Rattle.std.specs.Prelude.{◌≡◌, ◌%◌, ℕ, ℤ, pos, neg_ℤ, ◌+ℤ◌, ◌-ℤ◌, ◌≤ℤ◌, List, cond, unsigned_abs}
use Rattle.i_shape_core.specs.Point.{Point}
use Rattle.i_shape_core.specs.Edges.{Edge, edges, sum_of, is_above, is_right}

-- 1 for a point above p, otherwise 0
abbrev pub level : Point → Point → ℤ
level p a = cond (is_above p a) (pos 1) (pos 0)

-- what an edge adds: 1 if it passes the height of p upward and strictly to the right of p, -1 if downward, otherwise 0
unfoldable pub winding_of_edge : Point → Edge → ℤ
winding_of_edge p e = cond (is_right p e) (level p e.end -ℤ level p e.start) (pos 0)

-- the winding number of the contour about p, counterclockwise positive
unfoldable pub winding : List Point → Point → ℤ
winding c p = sum_of (winding_of_edge p) (edges c)

-- the absolute value of z is at most n / 2
pub record IsWithinHalf (n : ℕ) (z : ℤ) : Type 0 where
  pub most : (z +ℤ z) ≤ℤ pos n
  pub least : neg_ℤ (pos n) ≤ℤ (z +ℤ z)

-- the sum of the winding numbers of a shape's contours about p, which fill rules test
abbrev pub shape_winding : List (List Point) → Point → ℤ
shape_winding contours p = sum_of (λ c. winding c p) contours

-- z is odd: the even-odd rule fills a point with such a winding number
abbrev pub IsOdd : ℤ → Type 0
IsOdd z = unsigned_abs z % 2 ≡ 1
