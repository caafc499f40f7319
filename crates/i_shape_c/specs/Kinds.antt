-- What the calls that return how the edges of many pairs meet write.
use Rattle.std.specs.Prelude.{◌≡◌, ◌↔◌, ℕ, ℤ, ◌+◌, ◌*◌, ◌/◌, ◌%◌, ◌<◌, ◌≤◌, pos, negsuc, zero, suc, List, map, length, take, drop}
use Rattle.std.specs.Int.{Width}
use Rattle.std.specs.List.{AllZip, range_with_len}
use Rattle.i_shape.specs.Contour.{point_at}
use Rattle.i_shape.specs.Point.{Point}
use Rattle.i_shape_contacts.specs.Kinds.{DoCross, DoTouch, DoOverlap}
use Rattle.i_shape_contacts.specs.Meeting.{Meet}
use Rattle.i_shape_c.specs.Cleaned.{AreSafe}
use Rattle.i_shape_c.specs.Codes.{Refuses}

-- the byte of how the segments from a to b and from c to e meet: 0 if they share no point, 1 if they cross, 2 if they
-- touch, 3 if they overlap
pub record IsKind (a b c e : Point) (kind : ℕ) : Type 0 where
  pub apart : kind ≡ 0 ↔ (Meet a b c e → ⊥)
  pub crossing : kind ≡ 1 ↔ DoCross a b c e
  pub touch : kind ≡ 2 ↔ DoTouch a b c e
  pub overlap : kind ≡ 3 ↔ DoOverlap a b c e

-- the same of the segments between the points at `start` and at `start` + 1, and between the next two
abbrev pub IsKindFrom : List Point → ℕ → ℕ → Type 0
IsKindFrom points start = IsKind (point_at points start) (point_at points (start + 1)) (point_at points (start + 2)) (point_at points (start + 3))

-- the same of pair k, where each pair has four points
abbrev pub IsKindOfPair : List Point → ℕ → ℕ → Type 0
IsKindOfPair points k = IsKindFrom points (k * 4)

-- the new items begin with the kind of each pair, in order, and are otherwise unchanged
pub record AreKinds {P : Type 0} (point : P → Point) (edges : List P) (old new : List ℕ) : Type 0 where
  pub each : AllZip (IsKindOfPair (map point edges)) (range_with_len 0 (length edges / 4)) (take (length edges / 4) new)
  pub rest : drop (length edges / 4) new ≡ drop (length edges / 4) old

-- 0 and the kind of each pair, or a code with nothing written
abbrev pub KindsAnswer : {P : Type 0} → (P → Point) → List P → List ℕ → List ℕ → ℤ → Type 0
KindsAnswer point edges old new (pos zero) = AreKinds point edges old new
KindsAnswer point edges old new (pos (suc n)) = ⊥
KindsAnswer point edges old new (negsuc n) = (n < 4) × (new ≡ old)

-- what a call returns and writes for the kind of each pair, and exactly when it returns which code: that of bad offsets
-- where the points aren't four for each pair, and none for memory
pub record FindsKinds {P : Type 0} (width : Width) (point : P → Point) (edges : List P) (old new : List ℕ) (result : ℤ) : Type 0 where
  pub answer : KindsAnswer point edges old new result
  pub refuses : Refuses (length edges % 4 ≡ 0) (length edges / 4 ≤ length old) (AreSafe width point edges) (Unit {0}) result
