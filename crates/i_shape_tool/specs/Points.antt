-- Contours of 32 bits, which the lines of a text read.
use Rattle.std.specs.Prelude.{ℤ, List}
use Rattle.std.specs.Int.{w32}
use Rattle.std.specs.List.{All}
use Rattle.i_shape.specs.IntPoint as shape
use Rattle.i_shape.specs.Point.{Point}
use Rattle.i_shape.specs.Buffers as buffers
use Rattle.i_shape.specs.IntPoints.{IntPoint}
use Rattle.i_shape.specs.declared.flat.buffer.contours.FlatContoursBuffer.{FlatContoursBuffer}

-- the point that a program's point represents
abbrev pub point_of : IntPoint ℤ → Point
point_of p = shape.point_of (λ z. z) p

-- the contour that a list of the program's points represents
abbrev pub contour_of : List (IntPoint ℤ) → List Point
contour_of points = shape.contour_of (λ z. z) points

-- the contours that a buffer names
abbrev pub contours_in : FlatContoursBuffer ℤ → List (List Point)
contours_in buffer = buffers.contours_in (λ z. z) buffer

-- both coordinates of each point lie strictly between -2^30 and 2^30
abbrev pub IsSafe : List Point → Type 0
IsSafe c = All (shape.IsSafe w32) c
