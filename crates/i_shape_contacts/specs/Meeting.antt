-- Where segments share a point.
use Rattle.std.specs.Prelude.{◌≡◌, ◌≤ℤ◌, ◌<ℤ◌, ℤ, pos, ◌+ℤ◌, ◌-ℤ◌, ◌*ℤ◌}
use Rattle.i_shape_core.specs.Point.{Point}

-- p divided by d is the point `share` d-ths of the way from a to b, for a share from 0 to d
pub record IsOnSegment (d : ℤ) (p a b : Point) : Type 0 where
  pub share : ℤ
  pub least : pos 0 ≤ℤ share
  pub most : share ≤ℤ d
  pub x : p.x ≡ d *ℤ a.x +ℤ share *ℤ (b.x -ℤ a.x)
  pub y : p.y ≡ d *ℤ a.y +ℤ share *ℤ (b.y -ℤ a.y)

-- p divided by d is q
pub record IsPoint (d : ℤ) (p q : Point) : Type 0 where
  pub x : p.x ≡ d *ℤ q.x
  pub y : p.y ≡ d *ℤ q.y

-- the segments from a to b and from c to e share a point: `scaled` divided by `divisor`
pub record Meet (a b c e : Point) : Type 0 where
  pub divisor : ℤ
  pub positive : pos 0 <ℤ divisor
  pub scaled : Point
  pub on_first : IsOnSegment divisor scaled a b
  pub on_second : IsOnSegment divisor scaled c e

-- the segments from a to b and from b to c share a point other than b
pub record MeetAgain (a b c : Point) : Type 0 where
  pub divisor : ℤ
  pub positive : pos 0 <ℤ divisor
  pub scaled : Point
  pub on_first : IsOnSegment divisor scaled a b
  pub on_second : IsOnSegment divisor scaled b c
  pub other : IsPoint divisor scaled b → ⊥
