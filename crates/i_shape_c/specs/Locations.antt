-- What the calls return that locate each of many points by a fill rule.
use Rattle.std.specs.Prelude.{◌≡◌, ◌≢◌, ℕ, ℤ, ◌+◌, ◌<◌, ◌≤◌, pos, negsuc, zero, suc, List, map, length, take, drop, Option, Some, None, IfSome}
use Rattle.std.specs.Int.{Width}
use Rattle.std.specs.List.{AllZip}
use Rattle.i_shape.specs.Point.{Point}
use Rattle.i_shape.specs.Boundary.{IsOnEdge}
use Rattle.i_shape.specs.Filling.{IsFilled}
use Rattle.i_shape.specs.IntPoint.{IsSafe}
use Rattle.i_shape.specs.Winding.{winding}
use Rattle.i_shape_core.specs.declared.measure.fill_rule.FillRule.{FillRule}
use Rattle.i_shape_core.specs.declared.measure.fill_rule.FillRule.TheVariants.{EvenOdd, NonZero, Positive, Negative}
use Rattle.i_shape_c.specs.Batch.{nth_contour, PartsPoints, AreSafeContours}
use Rattle.i_shape_c.specs.Cleaned.{AreSafe}
use Rattle.i_shape_c.specs.Codes.{Refuses}
use Rattle.i_shape_c.specs.Tests.{IsTold}
use Rattle.i_shape_c.specs.Windings.{contours_winding}

-- the fill rule of a code
abbrev pub rule_of : ℤ → Option FillRule
rule_of (pos zero) = Some EvenOdd
rule_of (pos (suc zero)) = Some NonZero
rule_of (pos (suc (suc zero))) = Some Positive
rule_of (pos (suc (suc (suc zero)))) = Some Negative
rule_of (pos (suc (suc (suc (suc n))))) = None
rule_of (negsuc n) = None

-- p lies on an edge of one of the contours that the offsets delimit
pub record IsOnContours {P : Type 0} (point : P → Point) (points : List P) (offsets : List ℕ) (p : Point) : Type 0 where
  pub place : ℕ
  pub within : place + 1 < length offsets
  pub on : IsOnEdge (map point (nth_contour points offsets place)) p

-- 1 if the rule fills p, given the contours' total winding number about it, otherwise 0
abbrev pub IsFilledByte : {P : Type 0} → (P → Point) → FillRule → List P → List ℕ → Point → ℕ → Type 0
IsFilledByte point rule points offsets p byte = IsTold (IsFilled rule (contours_winding point points offsets p)) (pos byte)

-- 1 if the rule fills a point with winding number `turns`, 0 if it doesn't, or a code
abbrev pub FillsAnswer : Option FillRule → ℤ → ℤ → Type 0
FillsAnswer rule turns (pos n) = IfSome rule (λ r. IsTold (IsFilled r turns) (pos n))
FillsAnswer rule turns (negsuc n) = n < 4

-- what a call returns that tests whether a rule fills a point, and exactly when it returns each code; it never returns
-- those for memory and room
pub record FillsPoint {P : Type 0} (width : Width) (point : P → Point) (points : List P) (about : Point) (rule result : ℤ) : Type 0 where
  pub answer : FillsAnswer (rule_of rule) (winding (map point points) about) result
  pub refuses : Refuses (rule_of rule ≢ None) (Unit {0}) (AreSafe width point points × IsSafe width about) (Unit {0}) result

-- 0 on the boundary, otherwise 1 inside and -1 outside
abbrev pub IsLocation : Type 0 → Type 0 → ℤ → Type 0
IsLocation On Filled (pos zero) = On
IsLocation On Filled (pos (suc zero)) = (On → ⊥) × Filled
IsLocation On Filled (pos (suc (suc n))) = ⊥
IsLocation On Filled (negsuc zero) = (On → ⊥) × (Filled → ⊥)
IsLocation On Filled (negsuc (suc n)) = ⊥

-- the location of p, inside being what the rule fills
abbrev pub IsLocated : {P : Type 0} → (P → Point) → FillRule → List P → List ℕ → Point → ℤ → Type 0
IsLocated point rule points offsets p code = IsLocation (IsOnContours point points offsets p) (IsFilled rule (contours_winding point points offsets p)) code

-- the new items begin with the result for each point, in order, and are otherwise unchanged
pub record AreTold {P X : Type 0} (Gives : Point → X → Type 0) (point : P → Point) (about : List P) (old new : List X) : Type 0 where
  pub each : AllZip (λ q. Gives (point q)) about (take (length about) new)
  pub rest : drop (length about) new ≡ drop (length about) old

-- a call's query about many points: points, the offsets that divide them into contours, the points in question, and the
-- code of a fill rule
pub record Query (P : Type 0) : Type 0 where
  pub points : List P
  pub offsets : List ℕ
  pub about : List P
  pub rule : ℤ

-- the query of these parts
abbrev pub query : {P : Type 0} → List P → List ℕ → List P → ℤ → Query P
query points offsets about rule = record { points = points; offsets = offsets; about = about; rule = rule }

-- 0 and an item for each point, or a code with nothing written
abbrev pub TellsAnswer : {P X : Type 0} → (FillRule → List P → List ℕ → Point → X → Type 0) → (P → Point) → Query P → List X → List X → ℤ → Type 0
TellsAnswer Gives point asked old new (pos zero) = IfSome (rule_of asked.rule) (λ r. AreTold (Gives r asked.points asked.offsets) point asked.about old new)
TellsAnswer Gives point asked old new (pos (suc n)) = ⊥
TellsAnswer Gives point asked old new (negsuc n) = (n < 4) × (new ≡ old)

-- what a call writes for each of many points, and exactly when it returns each code; it never returns that for memory
pub record TellsEach {P X : Type 0} (Gives : FillRule → List P → List ℕ → Point → X → Type 0) (width : Width) (point : P → Point) (asked : Query P) (old new : List X) (result : ℤ) : Type 0 where
  pub answer : TellsAnswer Gives point asked old new result
  pub refuses : Refuses ((rule_of asked.rule ≢ None) × PartsPoints (length asked.points) asked.offsets) (length asked.about ≤ length old)
      (AreSafeContours width point asked.points asked.offsets × AreSafe width point asked.about) (Unit {0}) result

-- `mark` is the result on an edge, and `Tells` relates the contours' total winding number to the result elsewhere
pub record IsMarkOf {P X : Type 0} (point : P → Point) (Tells : FillRule → ℤ → X → Type 0) (Gives : FillRule → List P → List ℕ → Point → X → Type 0) (mark : X) : Type 0 where
  pub on : (rule : FillRule) (points : List P) (offsets : List ℕ) (p : Point) → IsOnContours point points offsets p → Gives rule points offsets p mark
  pub off : (rule : FillRule) (points : List P) (offsets : List ℕ) (p : Point) (x : X) → (IsOnContours point points offsets p → ⊥) → Tells rule (contours_winding point points offsets p) x → Gives rule points offsets p x
  pub apart : (rule : FillRule) (turns : ℤ) → Tells rule turns mark → ⊥

-- a mark is the result on an edge; without one the result is what `Tells` relates to the winding number everywhere
abbrev pub Settles : {P X : Type 0} → (P → Point) → (FillRule → ℤ → X → Type 0) → (FillRule → List P → List ℕ → Point → X → Type 0) → Option X → Type 0
Settles {P} {X} point Tells Gives None = (rule : FillRule) (points : List P) (offsets : List ℕ) (p : Point) (x : X) → Tells rule (contours_winding point points offsets p) x → Gives rule points offsets p x
Settles point Tells Gives (Some mark) = IsMarkOf point Tells Gives mark
