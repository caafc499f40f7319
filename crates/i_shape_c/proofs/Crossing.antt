-- Segments that cross or overlap share a point.
use Rattle.std.proofs.Common.{◌≡◌, ℤ, pos, ◌+ℤ◌, ◌≤ℤ◌, ◌<ℤ◌, inl, inr, arith}
use Rattle.std.proofs.lemmas.Int.{ints}
use Rattle.i_shape.specs.Point.{Point, cross}
use Rattle.i_shape_contacts.specs.Kinds.{LieOnBothSides, DoCross, DoOverlap}
use Rattle.i_shape_contacts.specs.Meeting.{Meet}
use Rattle.i_shape_contacts.specs.Steps.Deciding.{Straddle}
use Rattle.i_shape_contacts.proofs.Crossing.{slant, second_side, crossing_left, crossing_right}

-- points on both sides of a line aren't strictly on one
astride : (a b c e : Point) → LieOnBothSides a b c e → Straddle a b c e
astride a b c e (inl h) = record { not_left = inr (less h.1); not_right = inl (less h.0) }
  where
    less : {x y : ℤ} → x <ℤ y → x ≤ℤ y
    less h = omega (arith, ints)
astride a b c e (inr h) = record { not_left = inl (less h.0); not_right = inr (less h.1) }
  where
    less : {x y : ℤ} → x <ℤ y → x ≤ℤ y
    less h = omega (arith, ints)

-- segments that cross share a point
pub cross_meets : (a b c e : Point) → DoCross a b c e → Meet a b c e
cross_meets a b c e h = by h.second
  where
    above : (x y d : ℤ) → y ≡ x +ℤ d → x <ℤ pos 0 → pos 0 <ℤ y → pos 0 <ℤ d
    above x y d is low high = omega (arith, ints)

    below : (x y d : ℤ) → y ≡ x +ℤ d → pos 0 <ℤ x → y <ℤ pos 0 → d <ℤ pos 0
    below x y d is high low = omega (arith, ints)

    by : LieOnBothSides a b c e → Meet a b c e
    by (inl sides) = crossing_right a b c e (below (cross a b c) (cross a b e) (slant a b c e) (second_side a b c e) sides.0 sides.1) (astride a b c e h.second) (astride c e a b h.first)
    by (inr sides) = crossing_left a b c e (above (cross a b c) (cross a b e) (slant a b c e) (second_side a b c e) sides.0 sides.1) (astride a b c e h.second) (astride c e a b h.first)

-- segments that overlap share a point
pub overlap_meets : (a b c e : Point) → DoOverlap a b c e → Meet a b c e
overlap_meets a b c e h = record { divisor = h.divisor; positive = h.positive; scaled = h.one; on_first = h.one_on_first; on_second = h.one_on_second }
