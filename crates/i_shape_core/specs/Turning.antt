-- Where a path over points turns.
use Rattle.std.specs.Prelude.{ℕ, ◌+◌, ◌<◌, ◌≤◌, List}
use Rattle.i_shape_core.specs.Point.{Point, IsZeroTurn}
use Rattle.i_shape_core.specs.Contour.{point_at}

-- the path turns by a zero turn at the point after place k
abbrev pub IsZeroTurnFrom : List Point → ℕ → Type 0
IsZeroTurnFrom c k = IsZeroTurn (point_at c k) (point_at c (k + 1)) (point_at c (k + 2))

-- no turn from a place from `first` to before `end` is a zero turn
abbrev pub IsTurning : List Point → ℕ → ℕ → Type 0
IsTurning c first end = (k : ℕ) → first ≤ k → k < end → ¬ (IsZeroTurnFrom c k)
