-- What the calls return that clean one contour.
use Rattle.std.specs.Prelude.{◌≡◌, ◌<◌, ◌≤◌, ◌⊎◌, ℕ, ℤ, pos, negsuc, List, length, map}
use Rattle.i_shape.specs.Point.{Point}
use Rattle.std.specs.Int.{Width}
use Rattle.std.specs.List.{All}
use Rattle.i_shape.specs.IntPoint.{IsSafe}
use Rattle.i_shape.specs.Written.{IsWritten}
use Rattle.i_shape.specs.Cleaning.{Cleaning}
use Rattle.i_shape_c.specs.Codes.{Refuses}

-- the contour is clean or has fewer than `fewest` points
abbrev pub TakesNoMemory : ℕ → (List Point → Type 0) → List Point → Type 0
TakesNoMemory fewest Clean contour = (length contour < fewest) ⊎ Clean contour

-- each point is safe; `point` returns the point that a point of C represents
abbrev pub AreSafe : {P : Type 0} → Width → (P → Point) → List P → Type 0
AreSafe width point points = All (λ p. IsSafe width (point p)) points

-- the number of points that are written, or a code with nothing written
abbrev pub CleanAnswer : {P : Type 0} → Cleaning → Width → (P → Point) → List P → List P → List P → ℤ → Type 0
CleanAnswer cleaning width point given old new (pos n) = IsWritten cleaning width (map point) given old new n
CleanAnswer cleaning width point given old new (negsuc n) = (n < 4) × (new ≡ old)

-- what a call that cleans one contour returns and leaves, and exactly when it returns each code: it has no offsets, and
-- never returns the code of a failed allocation for a contour that needs no memory
pub record CleansContour {P : Type 0} (cleaning : Cleaning) (width : Width) (point : P → Point) (given old new : List P) (result : ℤ) : Type 0 where
  pub answer : CleanAnswer cleaning width point given old new result
  pub refuses : Refuses (Unit {0}) (length given ≤ length old) (AreSafe width point given) (TakesNoMemory cleaning.fewest cleaning.clean (map point given)) result
