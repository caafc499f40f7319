-- Double areas, as C receives them.
use Rattle.std.specs.Prelude.{◌≡◌, ◌+◌, ◌*◌, ◌^◌, ℤ, List}
use Rattle.std.specs.Int.{Width, w128, cast_unsigned, int_wrap}
use Rattle.i_shape.specs.Point.{Point}
use Rattle.i_shape.specs.Edges.{shoelace}
use Rattle.i_shape_c.specs.declared.area.Halves.{Halves}

-- the two halves of the bits of z in two's complement, which represents a number below 0 by itself plus 2^128
abbrev pub AreHalves : ℤ → Halves → Type 0
AreHalves z halves = halves.low + halves.high * 2 ^ 64 ≡ cast_unsigned w128 z

-- the halves are those of twice the area of the contour, wrapped if it doesn't fit
abbrev pub AreDoubleAreaHalves : List Point → Halves → Type 0
AreDoubleAreaHalves contour halves = AreHalves (int_wrap w128 (shoelace contour)) halves

-- the number is twice the area of the contour, wrapped if it doesn't fit
abbrev pub IsDoubleArea : Width → List Point → ℤ → Type 0
IsDoubleArea width contour area = area ≡ int_wrap width (shoelace contour)
