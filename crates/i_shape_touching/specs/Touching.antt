-- When a polygon is valid if its rings may touch, and the first fault of one that isn't. Its rings are those into which
-- the offsets divide the points: ring 0 is the outer contour, the others are its holes.
use Rattle.std.specs.Prelude.{◌≡◌, ◌+◌, ◌<◌, ◌≤◌, ◌<ℤ◌, ◌⊎◌, ℕ, pos, List, length}
use Rattle.i_shape_core.specs.Point.{Point}
use Rattle.i_shape_core.specs.Contour.{point_at}
use Rattle.i_shape_core.specs.Rings.{offset, nth_ring}
use Rattle.i_shape_contacts.specs.Contacts.{IsAfter, IsRingContact, NoContact, IsFirstContact}
use Rattle.i_shape_contacts.specs.Kinds.{DoTouch, EdgesLie}
use Rattle.i_shape_contacts.specs.Listing.{AreBefore}
use Rattle.i_shape_contacts.specs.Validity.{IsHole, IsDegenerateRing, NoDegenerateRing, IsLeast}
use Rattle.i_shape_touching.specs.Places.{LiesOn, IsOnRing, LiesOutside, LiesInside, SomePoint}
use Rattle.i_shape_touching.specs.declared.validity.TouchingValidity.{TouchingValidity}
use Rattle.i_shape_touching.specs.declared.validity.TouchingValidity.TheVariants.{Valid, TooFewPoints, Contact, HoleOutside, HoleWithin, Disconnected}

-- edge k, which leads from point k to the one that follows it, is one of ring r
pub record IsEdgeOf (offsets : List ℕ) (r k : ℕ) : Type 0 where
  pub is_ring : r + 1 < length offsets
  pub from : offset offsets r ≤ k
  pub below : k < offset offsets (r + 1)

-- the edges i and j belong to two rings and touch: they share one point, and don't cross
pub record AreTouching (offsets : List ℕ) (c : List Point) (i j : ℕ) : Type 0 where
  pub touch : EdgesLie DoTouch (IsAfter offsets) c i j
  pub differ : (r : ℕ) → IsEdgeOf offsets r i → IsEdgeOf offsets r j → ⊥

-- the edges i and j are in contact, and not only by a touch of two rings
pub record IsFaultyContact (offsets : List ℕ) (c : List Point) (i j : ℕ) : Type 0 where
  pub contact : IsRingContact offsets c i j
  pub more : AreTouching offsets c i j → ⊥

-- ring k is a hole, and some point of its edges lies outside the outer contour
pub record LeavesOuter (offsets : List ℕ) (c : List Point) (k : ℕ) : Type 0 where
  pub is_hole : IsHole offsets k
  pub outside : SomePoint (LiesOutside (nth_ring c offsets 0)) (nth_ring c offsets k)

-- ring k is a hole, and some point of its edges lies inside ring j, another hole
pub record EntersHole (offsets : List ℕ) (c : List Point) (k j : ℕ) : Type 0 where
  pub is_hole : IsHole offsets k
  pub other_is_hole : IsHole offsets j
  pub differ : k ≡ j → ⊥
  pub inside : SomePoint (LiesInside (nth_ring c offsets j)) (nth_ring c offsets k)

-- p lies on two rings, r and s
pub record SharePoint (offsets : List ℕ) (c : List Point) (p : Point) (r s : ℕ) : Type 0 where
  pub is_ring : r + 1 < length offsets
  pub is_other : s + 1 < length offsets
  pub differ : r ≡ s → ⊥
  pub on_ring : IsOnRing (pos 1) p (nth_ring c offsets r)
  pub on_other : IsOnRing (pos 1) p (nth_ring c offsets s)

-- r and s are one ring, or a chain of rings leads from r to s, each of which shares a point with the next, for which
-- Joins is true
pub data AreJoined (offsets : List ℕ) (c : List Point) (Joins : Point → Type 0) : ℕ → ℕ → Type 0 where
  same : {r : ℕ} → AreJoined offsets c Joins r r
  chain : {r s t : ℕ} (p : Point) → Joins p → SharePoint offsets c p r s → AreJoined offsets c Joins s t → AreJoined offsets c Joins r t

-- the rings r and s share p, and other points join them too: together they part the inside
pub record AreJoinedTwice (offsets : List ℕ) (c : List Point) (p : Point) (r s : ℕ) : Type 0 where
  pub share : SharePoint offsets c p r s
  pub joined : AreJoined offsets c (λ q. q ≡ p → ⊥) r s

-- no hole has a point outside the outer contour
abbrev pub NoneLeavesOuter : List ℕ → List Point → Type 0
NoneLeavesOuter offsets c = (k : ℕ) → LeavesOuter offsets c k → ⊥

-- no hole has a point inside another
abbrev pub NoneEntersHole : List ℕ → List Point → Type 0
NoneEntersHole offsets c = (k j : ℕ) → EntersHole offsets c k j → ⊥

-- no two rings that share a point are joined by other points too
abbrev pub NoneJoinedTwice : List ℕ → List Point → Type 0
NoneJoinedTwice offsets c = (p : Point) (r s : ℕ) → AreJoinedTwice offsets c p r s → ⊥

-- the polygon is valid if its rings may touch: no ring is degenerate; edges are in contact only where two rings touch;
-- each point of a hole lies inside the outer contour or on it, and outside each other hole or on it; and no touches part
-- the inside
pub record IsTouchingPolygon (offsets : List ℕ) (c : List Point) : Type 0 where
  pub no_degenerate : NoDegenerateRing offsets c
  pub no_contact : NoContact (IsFaultyContact offsets c)
  pub none_leaves : NoneLeavesOuter offsets c
  pub none_enters : NoneEntersHole offsets c
  pub none_joined : NoneJoinedTwice offsets c

-- p is less than q: by x, and where this is equal by y
abbrev pub IsLess : Point → Point → Type 0
IsLess p q = (p.x <ℤ q.x) ⊎ ((p.x ≡ q.x) × (p.y <ℤ q.y))

-- p lies on edge k
pub record IsOnEdge (offsets : List ℕ) (c : List Point) (p : Point) (k : ℕ) : Type 0 where
  pub end : ℕ
  pub follows : IsAfter offsets k end
  pub on : LiesOn (pos 1) p (point_at c k) (point_at c end)

-- the edges i and j are in contact at p, and lesser points join their rings
pub record ClosesCircle (offsets : List ℕ) (c : List Point) (p : Point) (i j : ℕ) : Type 0 where
  pub contact : IsRingContact offsets c i j
  pub on_first : IsOnEdge offsets c p i
  pub on_second : IsOnEdge offsets c p j
  pub ring : ℕ
  pub first_of : IsEdgeOf offsets ring i
  pub other : ℕ
  pub second_of : IsEdgeOf offsets other j
  pub joined : AreJoined offsets c (λ q. IsLess q p) ring other

-- the edges i and j are the first that close a circle of rings: at the least point, and there first in order
pub record IsFirstCircle (offsets : List ℕ) (c : List Point) (i j : ℕ) : Type 0 where
  pub point : Point
  pub closes : ClosesCircle offsets c point i j
  pub least : (q : Point) (k l : ℕ) → ClosesCircle offsets c q k l → IsLess q point → ⊥
  pub first : (k l : ℕ) → ClosesCircle offsets c point k l → AreBefore i j k l → ⊥

-- hole k is the first that has a point inside another, and j the first such other
pub record IsFirstToEnter (offsets : List ℕ) (c : List Point) (k j : ℕ) : Type 0 where
  pub first_other : IsLeast (EntersHole offsets c k) j
  pub none_before : (i l : ℕ) → i < k → EntersHole offsets c i l → ⊥

-- edges i and j are the first whose contact is faulty, and no ring is degenerate
pub record IsContactFault (offsets : List ℕ) (c : List Point) (i j : ℕ) : Type 0 where
  pub no_degenerate : NoDegenerateRing offsets c
  pub first : IsFirstContact (IsFaultyContact offsets c) i j

-- hole k is the first with a point outside the outer contour, and there is no fault of a kind before
pub record IsOutsideFault (offsets : List ℕ) (c : List Point) (k : ℕ) : Type 0 where
  pub no_degenerate : NoDegenerateRing offsets c
  pub no_contact : NoContact (IsFaultyContact offsets c)
  pub first : IsLeast (LeavesOuter offsets c) k

-- hole k is the first with a point inside another, j the first such other, and there is no fault of a kind before
pub record IsWithinFault (offsets : List ℕ) (c : List Point) (k j : ℕ) : Type 0 where
  pub no_degenerate : NoDegenerateRing offsets c
  pub no_contact : NoContact (IsFaultyContact offsets c)
  pub none_leaves : NoneLeavesOuter offsets c
  pub first : IsFirstToEnter offsets c k j

-- edges i and j are the first that close a circle, and there is no fault of another kind
pub record IsCircleFault (offsets : List ℕ) (c : List Point) (i j : ℕ) : Type 0 where
  pub no_degenerate : NoDegenerateRing offsets c
  pub no_contact : NoContact (IsFaultyContact offsets c)
  pub none_leaves : NoneLeavesOuter offsets c
  pub none_enters : NoneEntersHole offsets c
  pub first : IsFirstCircle offsets c i j

-- the first fault, by kind and then by place: a degenerate ring, a contact, a hole outside, a hole within another,
-- touches that part the inside; or none
abbrev pub IsFirstTouchingFault : List ℕ → List Point → TouchingValidity → Type 0
IsFirstTouchingFault offsets c Valid = IsTouchingPolygon offsets c
IsFirstTouchingFault offsets c (TooFewPoints k) = IsLeast (IsDegenerateRing offsets c) k
IsFirstTouchingFault offsets c (Contact it) = IsContactFault offsets c it.first it.second
IsFirstTouchingFault offsets c (HoleOutside k) = IsOutsideFault offsets c k
IsFirstTouchingFault offsets c (HoleWithin k j) = IsWithinFault offsets c k j
IsFirstTouchingFault offsets c (Disconnected it) = IsCircleFault offsets c it.first it.second
