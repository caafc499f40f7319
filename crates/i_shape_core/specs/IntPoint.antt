-- Points of the program, as points over unbounded integers.
use Rattle.std.specs.Prelude.{ℤ, List, map, Option, option_map}
use Rattle.std.specs.Global.{Vec}
use Rattle.i_shape_core.specs.Point.{Point}
pub use Rattle.i_shape_core.specs.SafeCoordinates.{IsSafe, IsSafeContour, IsSafeCoordinate}
use Rattle.i_shape_core.specs.declared.point.IntPoint.{IntPoint}

-- the point that a program's point represents; `value` returns the integer that a coordinate represents
abbrev pub point_of : {I : Type 0} → (I → ℤ) → IntPoint I → Point
point_of value p = record { x = value p.x; y = value p.y }

-- the contour that a list of the program's points represents
abbrev pub contour_of : {I : Type 0} → (I → ℤ) → List (IntPoint I) → List Point
contour_of value points = map (point_of value) points

-- what an optional list represents; `read` returns what a list represents
abbrev pub answered : {X Y : Type 0} → (List X → Y) → Option (Vec X) → Option Y
answered read answer = option_map (λ kept. read kept.items) answer
