-- The range in which differences of coordinates don't wrap.
use Rattle.std.specs.Prelude.{ℤ, ◌<ℤ◌, ◌-◌, ◌^◌, pos, neg_ℤ, List, All}
use Rattle.std.specs.Int.{Width}
use Rattle.i_shape_core.specs.Point.{Point}
use Rattle.i_shape_core.specs.Widths.{bits}

-- a coordinate lies strictly between -2^(B-2) and 2^(B-2), where B is the number of bits
abbrev pub IsSafeCoordinate : Width → ℤ → Type 0
IsSafeCoordinate width z = (neg_ℤ (pos (2 ^ (bits width - 2))) <ℤ z) × (z <ℤ pos (2 ^ (bits width - 2)))

-- both coordinates of the point are safe
abbrev pub IsSafe : Width → Point → Type 0
IsSafe width p = IsSafeCoordinate width p.x × IsSafeCoordinate width p.y

-- each point of the contour is safe
abbrev pub IsSafeContour : Width → List Point → Type 0
IsSafeContour width c = All (IsSafe width) c
