-- Entries of points that are sorted by height.
use Rattle.std.specs.Prelude.{◌≡◌, ℕ, ℤ, List}
use Rattle.std.specs.List.{Contains}
use Rattle.i_shape.specs.Point.{Point}
use Rattle.i_shape.specs.IntPoint.{point_of}
use Rattle.i_shape_core.specs.declared.measure.heights.Asked.{Asked}

-- an entry with place k has a point of which `On` holds
pub record IsAskedFor {I : Type 0} (value : I → ℤ) (On : Point → Type 0) (asked : List (Asked I)) (k : ℕ) : Type 0 where
  pub entry : Asked I
  pub among : Contains asked entry
  pub place : entry.place ≡ k
  pub on : On (point_of value entry.point)
