-- The points on the edges of a contour.
use Rattle.std.specs.Prelude.{◌≡◌, ◌<◌, ◌≤ℤ◌, ℕ, pos, List, length}
use Rattle.i_shape_core.specs.Point.{Point, cross, dot}
use Rattle.i_shape_core.specs.Contour.{point_at, place_after}

-- p lies on the segment from a to b, ends included
pub record IsBetween (a p b : Point) : Type 0 where
  pub straight : cross a p b ≡ pos 0
  pub ahead : pos 0 ≤ℤ dot a p b

-- p lies on an edge of c
pub record IsOnEdge (c : List Point) (p : Point) : Type 0 where
  pub place : ℕ
  pub within : place < length c
  pub between : IsBetween (point_at c place) p (point_at c (place_after (length c) place))
