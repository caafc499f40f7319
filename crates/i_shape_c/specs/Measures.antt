-- What the calls return that test or measure each of many contours.
use Rattle.std.specs.Prelude.{◌≡◌, ℕ, ℤ, ◌-◌, ◌<◌, ◌≤◌, pos, negsuc, zero, suc, List, map, length, take, drop}
use Rattle.std.specs.Int.{Width}
use Rattle.std.specs.List.{AllZip}
use Rattle.i_shape.specs.Point.{Point}
use Rattle.i_shape_c.specs.Batch.{ContourArrays, PartsPoints, AreSafeContours}
use Rattle.i_shape_c.specs.Codes.{Refuses}
use Rattle.i_shape_c.specs.Polygons.{parts}
use Rattle.i_shape_c.specs.Tests.{IsTold}

-- the new items begin with the result for each contour, in order, and are otherwise unchanged
pub record AreMeasured {P X : Type 0} (Gives : List Point → X → Type 0) (point : P → Point) (given : ContourArrays P) (old new : List X) : Type 0 where
  pub each : AllZip (λ contour. Gives (map point contour)) (parts given.points given.offsets) (take (length given.offsets - 1) new)
  pub rest : drop (length given.offsets - 1) new ≡ drop (length given.offsets - 1) old

-- 0 and an item for each contour, or a code with nothing written
abbrev pub MeasuresAnswer : {P X : Type 0} → (List Point → X → Type 0) → (P → Point) → ContourArrays P → List X → List X → ℤ → Type 0
MeasuresAnswer Gives point given old new (pos zero) = AreMeasured Gives point given old new
MeasuresAnswer Gives point given old new (pos (suc n)) = ⊥
MeasuresAnswer Gives point given old new (negsuc n) = (n < 4) × (new ≡ old)

-- the byte is 1 if the test holds of the contour, otherwise 0
abbrev pub IsByteOf : (List Point → Type 0) → List Point → ℕ → Type 0
IsByteOf Holds contour byte = IsTold (Holds contour) (pos byte)

-- what a call writes for each contour if `Asked` holds, and exactly when it returns each code; it never returns that
-- for memory
pub record AnswersEach {P X : Type 0} (Gives : List Point → X → Type 0) (Asked : Type 0) (point : P → Point) (given : ContourArrays P) (old new : List X) (result : ℤ) : Type 0 where
  pub answer : MeasuresAnswer Gives point given old new result
  pub refuses : Refuses (PartsPoints (length given.points) given.offsets) (length given.offsets - 1 ≤ length old) Asked (Unit {0}) result

-- what a call that requires safe points writes for the test of each contour, and exactly when it returns each code
abbrev pub TestsEach : {P : Type 0} → (List Point → Type 0) → Width → (P → Point) → ContourArrays P → List ℕ → List ℕ → ℤ → Type 0
TestsEach Holds width point given = AnswersEach (IsByteOf Holds) (AreSafeContours width point given.points given.offsets) point given

-- what a call that takes any points writes for each contour, and exactly when it returns each code
abbrev pub MeasuresEach : {P X : Type 0} → (List Point → X → Type 0) → (P → Point) → ContourArrays P → List X → List X → ℤ → Type 0
MeasuresEach Gives point given = AnswersEach Gives (Unit {0}) point given
