-- At which point or offset a call fails.
use Rattle.std.specs.Prelude.{ℕ, ◌+◌, ◌<◌, ◌≤◌, List, length, take}
use Rattle.std.specs.Int.{Width}
use Rattle.i_shape.specs.Point.{Point}
use Rattle.i_shape_c.specs.Batch.{offset, AreRising}
use Rattle.i_shape_c.specs.Cleaned.{AreSafe}

-- the first `place` items are good, and with the item at that index they aren't; it is `count` if all are good
pub record IsFirstPlace (AreGood : ℕ → Type 0) (count place : ℕ) : Type 0 where
  pub within : place ≤ count
  pub before : AreGood place
  pub here : place < count → AreGood (place + 1) → ⊥

-- the index of the first point that isn't safe
abbrev pub IsFirstUnsafe : {P : Type 0} → Width → (P → Point) → List P → ℕ → Type 0
IsFirstUnsafe width point points = IsFirstPlace (λ n. AreSafe width point (take n points)) (length points)

-- none of the first n offsets is below the one before it, or above `points`
pub record AreGoodOffsets (points : ℕ) (offsets : List ℕ) (n : ℕ) : Type 0 where
  pub order : AreRising offsets n
  pub most : (k : ℕ) → k < n → offset offsets k ≤ points

-- the index of the first offset that is below the one before it, or above `points`
abbrev pub IsFirstBadOffset : ℕ → List ℕ → ℕ → Type 0
IsFirstBadOffset points offsets = IsFirstPlace (AreGoodOffsets points offsets) (length offsets)
