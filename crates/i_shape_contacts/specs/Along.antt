-- What the program tests of two segments that share a point.
use Rattle.std.specs.Prelude.{◌≡◌, ◌≤ℤ◌, ℤ, pos, ◌⊎◌}
use Rattle.i_shape_core.specs.Point.{Point, cross_of, vector}

-- a and b are at most c and e
pub record AreAtMost (a b c e : ℤ) : Type 0 where
  pub first : a ≤ℤ c
  pub second : b ≤ℤ c
  pub third : a ≤ℤ e
  pub fourth : b ≤ℤ e

-- the ranges between a and b and between c and e share more than one number: neither is a single number, nor ends where
-- the other starts or before
pub record ShareRange (a b c e : ℤ) : Type 0 where
  pub not_single : AreAtMost a b a b → ⊥
  pub other_not_single : AreAtMost c e c e → ⊥
  pub not_less : AreAtMost a b c e → ⊥
  pub not_more : AreAtMost c e a b → ⊥

-- in a coordinate the segments from a to b and from c to e share more than one number
abbrev pub ShareEither : Point → Point → Point → Point → Type 0
ShareEither a b c e = ShareRange a.x b.x c.x e.x ⊎ ShareRange a.y b.y c.y e.y

-- the ways from a to b and from c to e are parallel, and the segments share more than one number in a coordinate
pub record AreAlong (a b c e : Point) : Type 0 where
  pub parallel : cross_of (vector a b) (vector c e) ≡ pos 0
  pub range : ShareEither a b c e
