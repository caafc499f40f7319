-- A caller's points, read as a contour.
use Rattle.std.specs.Prelude.{ℤ, List}
use Rattle.i_shape_core.specs.Point.{Point}
use Rattle.i_shape_core.specs.IntPoint.{contour_of}
use Rattle.i_shape_core.specs.declared.point.IntPoint.{IntPoint}

-- the contour that a list of a caller's points represents; `points` returns the library's points, `value` the number
-- that a coordinate represents
abbrev pub read : {I P : Type 0} → (I → ℤ) → (List P → List (IntPoint I)) → List P → List Point
read value points list = contour_of value (points list)
