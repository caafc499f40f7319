-- The states of the walks and of the search. Only private functions cite them, except for what a probe shows.
use Rattle.std.specs.Prelude.{ℕ, List, ◌-◌, ◌*◌, ◌≤◌, length, Option, Some, None, ◌≡◌, ◌+◌, ◌<◌, min, ◌++◌, map, drop, slice_index, suc, ◌⊎◌, take, cond, nat_lt, ◌<ℤ◌, ◌≤ℤ◌, pos, get_or}
use Rattle.i_shape_core.specs.declared.point.IntPoint.{IntPoint}
use Rattle.i_shape_core.specs.Point.{Point, cross, dot, origin}
use Rattle.i_shape_core.specs.Contour.{Test, Reach, End, IsCollapsed, point_at, IsRemovable, Sublist}
use Rattle.std.specs.List.{All, range_with_len}
use Rattle.i_shape_core.specs.declared.turn.bend.Bend.{Bend}
use Rattle.i_shape_core.specs.declared.turn.bend.Bend.TheVariants.{Straight, Left, Right, Reversal}
use Rattle.std.specs.Ordering.{MatchOrdering}
use Rattle.std.specs.declared.cmp.Ordering.{Ordering}
use Rattle.i_shape_core.specs.Canonical.{IsBefore}

-- a contour, and the number of its vertices that were visited
pub record Seen (I : Type 0) : Type 0 where
  pub contour : List (IntPoint I)
  pub visits : ℕ

-- an end of at least three points, after so many visits
pub record Finds (P : Test) (c e : List Point) (visits : ℕ) : Type 0 where
  pub ended : End P c e
  pub enough : 3 ≤ length e
  pub least : length c ≤ visits
  pub most : visits ≤ 3 * length c

-- a list of fewer than three points is reached, after so many visits
pub record Falls (P : Test) (c : List Point) (visits : ℕ) : Type 0 where
  pub rest : List Point
  pub reached : Reach P c rest
  pub few : IsCollapsed rest
  pub least : length c - 2 ≤ visits
  pub most : visits ≤ 3 * length c

-- what a walk returns after so many visits: an end, or none if fewer than three points are left
abbrev pub WalkAnswer : Test → List Point → Option (List Point) → ℕ → Type 0
WalkAnswer P c None visits = Falls P c visits
WalkAnswer P c (Some e) visits = Finds P c e visits

-- k is the first place of c that is removable
pub record IsFirst (P : Test) (c : List Point) (k : ℕ) : Type 0 where
  pub here : IsRemovable P c k
  pub earlier : (j : ℕ) → j < k → IsRemovable P c j → ⊥

-- what a search for the first removable place returns, after so many visits
abbrev pub FirstAnswer : Test → List Point → Option ℕ → ℕ → Type 0
FirstAnswer P c None visits = ((k : ℕ) → IsRemovable P c k → ⊥) × (visits ≡ length c)
FirstAnswer P c (Some k) visits = IsFirst P c k × (visits ≡ k + 1)

-- the point whose place is the k-th on the stack
abbrev pub stacked_point : List Point → List ℕ → ℕ → Point
stacked_point c stack k = point_at c (slice_index stack k)

-- the points whose places are on the stack, and then those from `place` on
abbrev pub points_left : List Point → List ℕ → ℕ → List Point
points_left c stack place = map (point_at c) stack ++ drop place c

-- rising places below n
abbrev pub RisingPlaces : ℕ → List ℕ → Type 0
RisingPlaces n places = Sublist (range_with_len 0 n) places

-- the points left are reached, and no point of the stack may be removed between its neighbours on the stack
pub record IsStacked (P : Point → Point → Point → Type 0) (c : List Point) (stack : List ℕ) (place : ℕ) : Type 0 where
  pub reached : Reach P c (points_left c stack place)
  pub unremovable : (k : ℕ) → k + 2 < length stack → ¬ (P (stacked_point c stack k) (stacked_point c stack (k + 1)) (stacked_point c stack (k + 2)))
  pub within : All (λ k. k < length c) stack
  pub rising : RisingPlaces place stack

-- the stack of a walk that has read the places before `place`, with bounds on the vertices visited so far
pub record IsWalked (P : Point → Point → Point → Type 0) (c : List Point) (stack : List ℕ) (place visits : ℕ) : Type 0 where
  pub stacked : IsStacked P c stack place
  pub fewer : length stack ≤ place
  pub most : visits + length stack ≤ 2 * place
  pub least : place ≤ visits + min (length stack) 2

-- a walk that has removed at most one place, after so many visits: its stack has the places from `first` to before
-- `end`, and `place` comes next
pub record IsStart (P : Point → Point → Point → Type 0) (c : List Point) (first end place visits : ℕ) : Type 0 where
  pub rising : first ≤ end
  pub end_within : end ≤ length c
  pub place_within : place ≤ length c
  pub walked : IsWalked P c (range_with_len first (end - first)) place visits

-- the point at `place` may not remove the last of the stack
abbrev pub IsSettled : (Point → Point → Point → Type 0) → List Point → List ℕ → ℕ → Type 0
IsSettled P c stack place = (j k : ℕ) → length stack ≡ k + 1 → k ≡ j + 1 → ¬ (P (stacked_point c stack j) (stacked_point c stack k) (point_at c place))

-- a ring in the order of the contour: `lead` items are ahead of the contour's first
abbrev pub from_contour_first : {X : Type 0} → List X → ℕ → List X
from_contour_first ring lead = drop lead ring ++ take lead ring

-- the ring, from the walk's place on, is what is left of c; only its first `untested` points may pass the test
pub record IsRingWalk (P : Test) (c ring : List Point) (untested lead : ℕ) : Type 0 where
  pub enough : 3 ≤ length ring
  pub untested_within : untested ≤ length ring
  pub lead_above : 0 < lead
  pub lead_within : lead ≤ length ring
  pub reached : Reach P c (from_contour_first ring lead)
  pub tested : (k : ℕ) → untested ≤ k → IsRemovable P ring k → ⊥

-- a ring of places, from the walk's place on: the first `untested` of them are still to be tested, `lead` of them are
-- ahead of the contour's first, and there is memory for `room`
pub record PlacedRing : Type 0 where
  pub places : List ℕ
  pub untested : ℕ
  pub lead : ℕ
  pub room : ℕ

-- the ring of all places below n, with room for `room`, the walk at place k, and the places before it tested
abbrev pub ring_of_all : ℕ → ℕ → ℕ → PlacedRing
ring_of_all n k room = record { places = drop k (range_with_len 0 n) ++ take k (range_with_len 0 n); untested = n - k; lead = n - k; room = room }

-- the ring of a walk, by the places of its points, and the number of visits
pub record IsRingState (P : Test) (c : List Point) (ring : PlacedRing) (visits : ℕ) : Type 0 where
  pub walk : IsRingWalk P c (map (point_at c) ring.places) ring.untested ring.lead
  pub below : All (λ k. k < length c) ring.places
  pub rising : RisingPlaces (length c) (from_contour_first ring.places ring.lead)
  pub at_most : visits + 2 * length ring.places + ring.untested ≤ 3 * length c
  pub tested_each : length c ≤ visits + ring.untested
  pub left_each : length c ≤ visits + length ring.places

-- the test passes at the walk's place, between the last of the ring and the second
abbrev pub PassesAtPlace : Test → List Point → List ℕ → Type 0
PassesAtPlace P c places = P (point_at c (slice_index places (length places - 1))) (point_at c (slice_index places 0)) (point_at c (slice_index places 1))

-- the lead after the walk's place is kept in a ring of n
abbrev pub LeadKept : ℕ → ℕ → ℕ → Type 0
LeadKept n before after = ((before ≡ 1) × (after ≡ n)) ⊎ ((1 < before) × (before ≡ suc after))

-- the lead after the walk's place is removed from a ring of n
abbrev pub LeadRemoved : ℕ → ℕ → ℕ → Type 0
LeadRemoved n before after = ((before ≡ n) × (after ≡ 1)) ⊎ ((before < n) × (after ≡ before))

-- a ring that lies in one list with a gap: its first part from `ahead` to `end`, its second before `behind`
unfoldable pub around_gap : List ℕ → ℕ → ℕ → ℕ → List ℕ
around_gap places behind ahead end = drop ahead (take end places) ++ take behind places

-- the lead of a ring of n, if the contour's first is at `first` once the second part is put before the first part
unfoldable pub lead_over_gap : ℕ → ℕ → ℕ → ℕ
lead_over_gap n first behind = cond (nat_lt behind first) (first - behind) (first + n - behind)

-- how the path over a, b and c bends
abbrev pub IsBend : Point → Point → Point → Bend → Type 0
IsBend a b c Straight = (cross a b c ≡ pos 0) × (pos 0 ≤ℤ dot a b c)
IsBend a b c Left = pos 0 <ℤ cross a b c
IsBend a b c Right = cross a b c <ℤ pos 0
IsBend a b c Reversal = (cross a b c ≡ pos 0) × (dot a b c <ℤ pos 0)

-- the bend of two joined bends, or none if they don't join
abbrev pub bend_of_both : Bend → Bend → Option Bend
bend_of_both Straight next = Some next
bend_of_both Left Straight = Some Left
bend_of_both Left Left = Some Left
bend_of_both Left Right = None
bend_of_both Left Reversal = None
bend_of_both Right Straight = Some Right
bend_of_both Right Left = None
bend_of_both Right Right = Some Right
bend_of_both Right Reversal = None
bend_of_both Reversal Straight = Some Reversal
bend_of_both Reversal Left = None
bend_of_both Reversal Right = None
bend_of_both Reversal Reversal = Some Reversal

-- a contour, and the number of pairs of its points that were compared
pub record Compared (I : Type 0) : Type 0 where
  pub contour : List (IntPoint I)
  pub comparisons : ℕ

-- the order of the points of c at indices i and j
abbrev pub IsOrder : List Point → ℕ → ℕ → Ordering → Type 0
IsOrder c i j order = MatchOrdering order (IsBefore (point_at c i) (point_at c j)) (point_at c i ≡ point_at c j) (IsBefore (point_at c j) (point_at c i))

-- the point at index k of c read twice
abbrev pub point_round : List Point → ℕ → Point
point_round c k = get_or (c ++ c) k origin

-- the rotations that start at places i and j have the same first k points
abbrev pub Agree : List Point → ℕ → ℕ → ℕ → Type 0
Agree c i j k = (t : ℕ) → t < k → point_round c (i + t) ≡ point_round c (j + t)

-- the rotations that start at places i and j first differ in their k-th points, and there the rotation from i has the
-- lesser
pub record Precedes (c : List Point) (i j k : ℕ) : Type 0 where
  pub matched : ℕ
  pub last : k ≡ matched + 1
  pub within : matched < length c
  pub agree : Agree c i j matched
  pub before : IsBefore (point_round c (i + matched)) (point_round c (j + matched))

-- the points of c from place j to before place k come after p
abbrev pub AreAfter : List Point → Point → ℕ → ℕ → Type 0
AreAfter c p j k = (s : ℕ) → j ≤ s → s < k → IsBefore p (point_at c s)
