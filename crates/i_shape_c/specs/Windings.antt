-- What the calls about winding numbers return.
use Rattle.std.specs.Prelude.{◌≡◌, ℕ, ℤ, ◌-◌, ◌<◌, ◌≤◌, ◌++◌, ◌↔◌, pos, negsuc, zero, suc, List, map, length, drop}
use Rattle.std.specs.List.{range_with_len}
use Rattle.std.specs.Int.{Width}
use Rattle.i_shape.specs.Point.{Point}
use Rattle.i_shape.specs.IntPoint.{IsSafe}
use Rattle.i_shape.specs.Edges.{sum_of}
use Rattle.i_shape.specs.Winding.{winding}
use Rattle.i_shape_c.specs.Batch.{ContourArrays, nth_contour, PartsPoints, AreSafeContours}
use Rattle.i_shape_c.specs.Cleaned.{AreSafe}
use Rattle.i_shape_c.specs.Codes.{Refuses}

-- the code in place of a winding number if a point isn't safe: the least number of 64 bits, which is no winding number
abbrev pub no_winding : ℤ
no_winding = negsuc 9223372036854775807

-- the total winding number about p of the contours that the offsets delimit
abbrev pub contours_winding : {P : Type 0} → (P → Point) → List P → List ℕ → Point → ℤ
contours_winding point points offsets p = sum_of (λ k. winding (map point (nth_contour points offsets k)) p) (range_with_len 0 (length offsets - 1))

-- 0 and a number for each point, or a code with nothing written
abbrev pub WindingsAnswer : {P : Type 0} → (P → Point) → ContourArrays P → List P → List ℤ → List ℤ → ℤ → Type 0
WindingsAnswer point given about old new (pos zero) = new ≡ map (λ q. contours_winding point given.points given.offsets (point q)) about ++ drop (length about) old
WindingsAnswer point given about old new (pos (suc n)) = ⊥
WindingsAnswer point given about old new (negsuc n) = (n < 4) × (new ≡ old)

-- what a call returns for the winding number of a contour about a point, and exactly when it returns the code
pub record WindsAbout {P : Type 0} (width : Width) (point : P → Point) (points : List P) (about : Point) (result : ℤ) : Type 0 where
  pub answer : (AreSafe width point points × IsSafe width about) → result ≡ winding (map point points) about
  pub unsafe_points : result ≡ no_winding ↔ ((AreSafe width point points × IsSafe width about) → ⊥)

-- what a call writes for the winding numbers of contours about points, and exactly when it returns each code; it never
-- returns that for memory
pub record WindsAboutEach {P : Type 0} (width : Width) (point : P → Point) (given : ContourArrays P) (about : List P) (old new : List ℤ) (result : ℤ) : Type 0 where
  pub answer : WindingsAnswer point given about old new result
  pub refuses : Refuses (PartsPoints (length given.points) given.offsets) (length about ≤ length old) (AreSafeContours width point given.points given.offsets × AreSafe width point about) (Unit {0}) result
