-- Affine maps of the plane with integer coefficients.
use Rattle.std.specs.Prelude.{ℤ, pos, ◌+ℤ◌, ◌-ℤ◌, ◌*ℤ◌, List, map}
use Rattle.i_shape_core.specs.Point.{Point}

-- maps the point (a, b) to (xx * a + xy * b + x, yx * a + yy * b + y)
pub record Move : Type 0 where
  pub xx : ℤ
  pub xy : ℤ
  pub yx : ℤ
  pub yy : ℤ
  pub x : ℤ
  pub y : ℤ

-- the factor by which an area grows: 0 if the plane is mapped into a line, negative if it is mirrored
abbrev pub determinant : Move → ℤ
determinant m = m.xx *ℤ m.yy -ℤ m.xy *ℤ m.yx

-- the point to which a move maps p
abbrev pub moved_point : Move → Point → Point
moved_point m p = record { x = m.xx *ℤ p.x +ℤ m.xy *ℤ p.y +ℤ m.x; y = m.yx *ℤ p.x +ℤ m.yy *ℤ p.y +ℤ m.y }

-- the contour to which a move maps c, point by point
abbrev pub moved : Move → List Point → List Point
moved m c = map (moved_point m) c

-- maps each point to n times its distance from the origin
abbrev pub scaling : ℤ → Move
scaling n = record { xx = n; xy = pos 0; yx = pos 0; yy = n; x = pos 0; y = pos 0 }
