-- What the calls return that test a contour.
use Rattle.std.specs.Prelude.{◌≡◌, ◌↔◌, ℤ, pos, negsuc, zero, suc, List, map}
use Rattle.std.specs.Int.{Width}
use Rattle.i_shape.specs.Point.{Point}
use Rattle.i_shape.specs.IntPoint.{IsSafe}
use Rattle.i_shape.specs.Edges.{Inside}
use Rattle.i_shape_c.specs.Cleaned.{AreSafe}
use Rattle.i_shape_c.specs.Codes.{unsafe_code}

-- 1 if the test holds, otherwise 0
abbrev pub IsTold : Type 0 → ℤ → Type 0
IsTold Holds (pos zero) = Holds → ⊥
IsTold Holds (pos (suc zero)) = Holds
IsTold Holds (pos (suc (suc n))) = ⊥
IsTold Holds (negsuc n) = ⊥

-- 1 if the test holds, 0 if it doesn't, or the code of points that aren't safe
abbrev pub TestAnswer : Type 0 → ℤ → Type 0
TestAnswer Holds (pos n) = IsTold Holds (pos n)
TestAnswer Holds (negsuc zero) = Unit {0}
TestAnswer Holds (negsuc (suc n)) = ⊥

-- what a test of a contour returns, and exactly when it returns the code
pub record TestsContour {P : Type 0} (Holds : List Point → Type 0) (width : Width) (point : P → Point) (points : List P) (result : ℤ) : Type 0 where
  pub answer : TestAnswer (Holds (map point points)) result
  pub unsafe_points : result ≡ unsafe_code ↔ (AreSafe width point points → ⊥)

-- what the test of whether a point is inside a contour returns, and exactly when it returns the code
pub record TestsPoint {P : Type 0} (width : Width) (point : P → Point) (points : List P) (about : Point) (result : ℤ) : Type 0 where
  pub answer : TestAnswer (Inside (map point points) about) result
  pub unsafe_points : result ≡ unsafe_code ↔ ((AreSafe width point points × IsSafe width about) → ⊥)
