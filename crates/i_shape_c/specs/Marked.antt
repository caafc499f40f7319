-- What is written where points are on edges of contours.
use Rattle.std.specs.Prelude.{◌≡◌, ◌⊎◌, ℕ, ◌<◌, List, length, slice_index_or}
use Rattle.i_shape.specs.Point.{Point}
use Rattle.i_shape.specs.Contour.{point_at}

-- `mark` is written at each index of which `At` holds, and nothing else changes
pub record IsMarked {X : Type 0} (At : ℕ → Type 0) (mark : X) (old new : List X) : Type 0 where
  pub room : length new ≡ length old
  pub marked : (k : ℕ) (d : X) → At k → slice_index_or new k d ≡ mark
  pub kept : (k : ℕ) (d : X) → (At k × (slice_index_or new k d ≡ mark)) ⊎ (slice_index_or new k d ≡ slice_index_or old k d)

-- there is a point k, and `On` holds of it
pub record IsThere (On : Point → Type 0) (ps : List Point) (k : ℕ) : Type 0 where
  pub within : k < length ps
  pub on : On (point_at ps k)
