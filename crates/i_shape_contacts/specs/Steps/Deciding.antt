-- What the program tests of two segments.
use Rattle.std.specs.Prelude.{◌≡◌, ◌≤ℤ◌, ◌<ℤ◌, ℤ, pos, ◌⊎◌}
use Rattle.i_shape_core.specs.Point.{Point, cross, dot}

-- a and b are both less than c and e
pub record AreLess (a b c e : ℤ) : Type 0 where
  pub first : a <ℤ c
  pub second : b <ℤ c
  pub third : a <ℤ e
  pub fourth : b <ℤ e

-- the ranges between a and b and between c and e share a number
pub record Overlap (a b c e : ℤ) : Type 0 where
  pub not_less : AreLess a b c e → ⊥
  pub not_more : AreLess c e a b → ⊥

-- c and e don't lie strictly on one side of the line over a and b
pub record Straddle (a b c e : Point) : Type 0 where
  pub not_left : (cross a b c ≤ℤ pos 0) ⊎ (cross a b e ≤ℤ pos 0)
  pub not_right : (pos 0 ≤ℤ cross a b c) ⊎ (pos 0 ≤ℤ cross a b e)

-- the path over a, b and c turns straight back at b
pub record IsReversal (a b c : Point) : Type 0 where
  pub straight : cross a b c ≡ pos 0
  pub back : dot a b c <ℤ pos 0
