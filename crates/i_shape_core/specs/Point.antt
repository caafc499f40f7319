-- A point of the plane with integer coordinates, and the products of a path at a point.
use Rattle.std.specs.Prelude.{◌≡◌, ℤ, pos, ◌+ℤ◌, ◌-ℤ◌, ◌*ℤ◌, ◌≤ℤ◌}

-- a point, or the vector from one point to another
pub record Point : Type 0 where
  pub x : ℤ
  pub y : ℤ

-- the point at which both coordinates are 0
abbrev pub origin : Point
origin = record { x = pos 0; y = pos 0 }

-- the vector from a to b
abbrev pub vector : Point → Point → Point
vector a b = record { x = b.x -ℤ a.x; y = b.y -ℤ a.y }

-- the cross product of two vectors
abbrev pub cross_of : Point → Point → ℤ
cross_of v w = v.x *ℤ w.y -ℤ v.y *ℤ w.x

-- the dot product of two vectors
abbrev pub dot_of : Point → Point → ℤ
dot_of v w = v.x *ℤ w.x +ℤ v.y *ℤ w.y

-- the cross product at b of the path from a over b to c: that of the vector to b and the vector from b
unfoldable pub cross : Point → Point → Point → ℤ
cross a b c = cross_of (vector a b) (vector b c)

-- the dot product at b of the path from a over b to c: that of the vector to b and the vector from b
unfoldable pub dot : Point → Point → Point → ℤ
dot a b c = dot_of (vector a b) (vector b c)

-- at b the path doesn't turn: it goes straight on or back
abbrev pub IsZeroTurn : Point → Point → Point → Type 0
IsZeroTurn a b c = cross a b c ≡ pos 0

-- at b the path goes back: b equals a or c, or the path reverses
abbrev pub IsBack : Point → Point → Point → Type 0
IsBack a b c = (cross a b c ≡ pos 0) × (dot a b c ≤ℤ pos 0)
