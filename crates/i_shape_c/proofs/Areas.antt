-- Twice the area of points of C, of which there may be none.
use Rattle.std.proofs.Common.{◌≡◌, ◌↔◌, ◌<◌, ℤ, pos, List, [], ◌∷◌, map, length, refl, arith, Option, Some, None, unwrap_or, IfSome, IsSome}
use Rattle.std.specs.Int.{Width, int_wrap}
use Rattle.i_shape.specs.Point.{Point}
use Rattle.i_shape.specs.Edges.{shoelace}
use Rattle.i_shape_core.proofs.Sums.AreaWalk.{wrapped-zero}

-- the area, or 0 if there is no point, is the wrapped double area
pub area_or_zero : {P : Type 0} (width : Width) (point : P → Point) (points : List P) (area : Option ℤ) → IsSome area ↔ (0 < length points)
    → IfSome area (λ z. z ≡ int_wrap width (shoelace (map point points))) → unwrap_or area (pos 0) ≡ int_wrap width (shoelace (map point points))
unfolding shoelace
area_or_zero width point points (Some z) some is = is
area_or_zero width point [] None some is = wrapped-zero width (pos 0) refl
area_or_zero width point (p ∷ points) None some is = let told = some.1 (omega arith) in cc
