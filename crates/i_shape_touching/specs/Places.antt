-- Where points with rational coordinates lie. Such a point is `p` divided by `d`, for a `d` above 0.
use Rattle.std.specs.Prelude.{◌≡◌, ◌+ℤ◌, ◌*ℤ◌, ◌<◌, ◌<ℤ◌, ℕ, ℤ, pos, List, length}
use Rattle.i_shape_core.specs.Point.{Point}
use Rattle.i_shape_core.specs.Contour.{point_at, place_after}
use Rattle.i_shape_core.specs.Moves.{moved, scaling}
use Rattle.i_shape_core.specs.Winding.{winding}
use Rattle.i_shape_contacts.specs.Meeting.{IsOnSegment}

-- p divided by d lies on the segment from a to b: it is a share of the way, of some multiple of d
pub record LiesOn (d : ℤ) (p a b : Point) : Type 0 where
  pub factor : ℤ
  pub positive : pos 0 <ℤ factor
  pub on : IsOnSegment (factor *ℤ d) (record { x = factor *ℤ p.x; y = factor *ℤ p.y }) a b

-- p divided by d lies on an edge of the ring
pub record IsOnRing (d : ℤ) (p : Point) (ring : List Point) : Type 0 where
  pub place : ℕ
  pub within : place < length ring
  pub on : LiesOn d p (point_at ring place) (point_at ring (place_after (length ring) place))

-- the winding number of the ring about p divided by d
abbrev pub winding_at : List Point → ℤ → Point → ℤ
winding_at ring d p = winding (moved (scaling d) ring) p

-- p divided by d is off the ring's edges, and the ring doesn't wind about it
pub record LiesOutside (ring : List Point) (d : ℤ) (p : Point) : Type 0 where
  pub off : IsOnRing d p ring → ⊥
  pub outside : winding_at ring d p ≡ pos 0

-- p divided by d is off the ring's edges, and the ring winds about it
pub record LiesInside (ring : List Point) (d : ℤ) (p : Point) : Type 0 where
  pub off : IsOnRing d p ring → ⊥
  pub inside : winding_at ring d p ≡ pos 0 → ⊥

-- some point on the ring's edges lies so
pub record SomePoint (Lies : ℤ → Point → Type 0) (ring : List Point) : Type 0 where
  pub divisor : ℤ
  pub positive : pos 0 <ℤ divisor
  pub scaled : Point
  pub on : IsOnRing divisor scaled ring
  pub lies : Lies divisor scaled

-- p and q added: twice the point in the middle between them
abbrev pub sum_of_points : Point → Point → Point
sum_of_points p q = record { x = p.x +ℤ q.x; y = p.y +ℤ q.y }
