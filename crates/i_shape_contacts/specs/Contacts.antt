-- Where edges share a point that they shouldn't.
use Rattle.std.specs.Prelude.{◌≡◌, ◌+◌, ◌<◌, ◌≤◌, ◌<ℤ◌, ℕ, ℤ, pos, List, length}
use Rattle.i_shape_core.specs.Point.{Point}
use Rattle.i_shape_core.specs.Contour.{point_at, place_after}
use Rattle.i_shape_core.specs.Rings.{offset}
use Rattle.i_shape_contacts.specs.Meeting.{IsOnSegment, IsPoint}

-- the segments from point i to point i' and from point j to point j' share a point, `scaled` divided by `divisor`,
-- other than one at which one of them follows the other
pub record SharePoint (c : List Point) (i i' j j' : ℕ) : Type 0 where
  pub divisor : ℤ
  pub positive : pos 0 <ℤ divisor
  pub scaled : Point
  pub on_first : IsOnSegment divisor scaled (point_at c i) (point_at c i')
  pub on_second : IsOnSegment divisor scaled (point_at c j) (point_at c j')
  pub not_next : i' ≡ j → IsPoint divisor scaled (point_at c j) → ⊥
  pub not_before : j' ≡ i → IsPoint divisor scaled (point_at c i) → ⊥

-- where edge k leads from point k to the point that follows it: the edges i and j, i before j, are in contact
pub record IsContactBy (Follows : ℕ → ℕ → Type 0) (c : List Point) (i j : ℕ) : Type 0 where
  pub order : i < j
  pub within : j < length c
  pub first_end : ℕ
  pub first_follows : Follows i first_end
  pub second_end : ℕ
  pub second_follows : Follows j second_end
  pub shared : SharePoint c i first_end j second_end

-- m is the place after k on a cycle of n places
abbrev pub IsNext : ℕ → ℕ → ℕ → Type 0
IsNext n k m = m ≡ place_after n k

-- the edges i and j of a contour are in contact
abbrev pub IsContact : List Point → ℕ → ℕ → Type 0
IsContact c = IsContactBy (IsNext (length c)) c

-- m is the place after k in the ring of k, where ring r has the places from offset r to below offset r + 1
pub record IsAfter (offsets : List ℕ) (k m : ℕ) : Type 0 where
  pub ring : ℕ
  pub is_ring : ring + 1 < length offsets
  pub from : offset offsets ring ≤ k
  pub below : k < offset offsets (ring + 1)
  pub on : k + 1 < offset offsets (ring + 1) → m ≡ k + 1
  pub round : k + 1 ≡ offset offsets (ring + 1) → m ≡ offset offsets ring

-- the edges i and j of the rings into which the offsets divide the points are in contact
abbrev pub IsRingContact : List ℕ → List Point → ℕ → ℕ → Type 0
IsRingContact offsets c = IsContactBy (IsAfter offsets) c

-- no two edges are in contact
pub record NoContact (Contact : ℕ → ℕ → Type 0) : Type 0 where
  pub none : (i j : ℕ) → Contact i j → ⊥

-- edge j is the first that is in contact with edge i before it
pub record IsFirstAfter (Contact : ℕ → ℕ → Type 0) (i j : ℕ) : Type 0 where
  pub contact : Contact i j
  pub least : (k : ℕ) → Contact i k → j ≤ k

-- the edges i and j are in contact; no edge before i is in contact with one after it, and none between i and j with i
pub record IsFirstContact (Contact : ℕ → ℕ → Type 0) (i j : ℕ) : Type 0 where
  pub first : IsFirstAfter Contact i j
  pub none_before : (k l : ℕ) → k < i → Contact k l → ⊥

-- all points are equal
abbrev pub AreAllEqual : List Point → Type 0
AreAllEqual c = (k : ℕ) → k < length c → point_at c k ≡ point_at c 0

-- the contour is the boundary of a simple polygon: at least three points, not all equal, and no contact
pub record IsSimplePolygon (c : List Point) : Type 0 where
  pub enough : 3 ≤ length c
  pub differ : AreAllEqual c → ⊥
  pub none : NoContact (IsContact c)
