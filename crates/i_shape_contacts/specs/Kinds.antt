-- The kinds of contact: two edges cross, touch or overlap.
use Rattle.std.specs.Prelude.{◌≡◌, ◌<ℤ◌, ℕ, ℤ, pos, List, ◌⊎◌}
use Rattle.i_shape_core.specs.Point.{Point, cross}
use Rattle.i_shape_core.specs.Contour.{point_at}
use Rattle.i_shape_contacts.specs.Meeting.{IsOnSegment, Meet}

-- of the points c and e, one lies left of the line from a to b and the other right of it, neither on it
abbrev pub LieOnBothSides : Point → Point → Point → Point → Type 0
LieOnBothSides a b c e = ((pos 0 <ℤ cross a b c) × (cross a b e <ℤ pos 0)) ⊎ ((cross a b c <ℤ pos 0) × (pos 0 <ℤ cross a b e))

-- the segments from a to b and from c to e cross: the ends of each lie on both sides of the line of the other
pub record DoCross (a b c e : Point) : Type 0 where
  pub second : LieOnBothSides a b c e
  pub first : LieOnBothSides c e a b

-- the segments overlap: they share two points that differ, `one` and `other` divided by `divisor`
pub record DoOverlap (a b c e : Point) : Type 0 where
  pub divisor : ℤ
  pub positive : pos 0 <ℤ divisor
  pub one : Point
  pub one_on_first : IsOnSegment divisor one a b
  pub one_on_second : IsOnSegment divisor one c e
  pub other : Point
  pub other_on_first : IsOnSegment divisor other a b
  pub other_on_second : IsOnSegment divisor other c e
  pub differ : one ≡ other → ⊥

-- the segments touch: they share a point and no other, and don't cross
pub record DoTouch (a b c e : Point) : Type 0 where
  pub meet : Meet a b c e
  pub sole : DoOverlap a b c e → ⊥
  pub not_across : DoCross a b c e → ⊥

-- where edge k leads from point k to the point that follows it: the edges i and j lie to one another as Lie says
pub record EdgesLie (Lie : Point → Point → Point → Point → Type 0) (Follows : ℕ → ℕ → Type 0) (c : List Point) (i j : ℕ) : Type 0 where
  pub first_end : ℕ
  pub first_follows : Follows i first_end
  pub second_end : ℕ
  pub second_follows : Follows j second_end
  pub lie : Lie (point_at c i) (point_at c first_end) (point_at c j) (point_at c second_end)
