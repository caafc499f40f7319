-- Contours without repeated points, without spikes, and convex ones.
use Rattle.std.specs.Prelude.{int_lt, ◌≡◌, ℕ, ◌<◌, ◌≤◌, ℤ, pos, ◌<ℤ◌, ◌⊎◌, List, [], ◌∷◌, length, Bool, cond, ◌&&◌}
use Rattle.std.specs.Ordering.{int_eq}
use Rattle.i_shape_core.specs.Point.{Point, origin, cross, dot}
use Rattle.i_shape_core.specs.Contour.{point_at, place_before, place_after}

-- whether two points are equal
unfoldable pub is_same : Point → Point → Bool
is_same a b = int_eq a.x b.x && int_eq a.y b.y

-- the points that differ from the one before them, q being before the first
abbrev pub changes_after : Point → List Point → List Point
changes_after q [] = []
changes_after q (p ∷ ps) = cond (is_same q p) (changes_after p ps) (p ∷ changes_after p ps)

-- the last point of a list, or q if there is none
abbrev pub last_of : Point → List Point → Point
last_of q [] = q
last_of q (p ∷ ps) = last_of p ps

-- a contour without the points that equal the one before them on the cycle
unfoldable pub dedup : List Point → List Point
dedup c = changes_after (last_of origin c) c

-- the cross product of the contour at place k, positive for a left turn
unfoldable pub cross_at : List Point → ℕ → ℤ
cross_at c k = cross (point_at c (place_before (length c) k)) (point_at c k) (point_at c (place_after (length c) k))

-- the contour has a reversal at place k
pub record IsReversal (c : List Point) (k : ℕ) : Type 0 where
  pub within : k < length c
  pub straight : cross_at c k ≡ pos 0
  pub back : dot (point_at c (place_before (length c) k)) (point_at c k) (point_at c (place_after (length c) k)) <ℤ pos 0

-- without repeated points the contour has at least three points, and no reversal
pub record NoSpikes (c : List Point) : Type 0 where
  pub enough : 3 ≤ length (dedup c)
  pub none : (k : ℕ) → IsReversal (dedup c) k → ⊥

-- the contour doesn't turn left at one place and right at another
pub record BendsOneWay (c : List Point) : Type 0 where
  pub one_way : (j k : ℕ) → j < length c → k < length c → pos 0 <ℤ cross_at c j → cross_at c k <ℤ pos 0 → ⊥

-- the contour turns one way, and has no reversal
pub record Bulges (c : List Point) : Type 0 where
  pub none : (k : ℕ) → IsReversal c k → ⊥
  pub bends : BendsOneWay c

-- without repeated points the contour has at most two points, or turns one way and has no reversal
abbrev pub Convex : List Point → Type 0
Convex c = (length (dedup c) ≤ 2) ⊎ Bulges (dedup c)

-- whether the path over a, b and c reverses at b
unfoldable pub is_reversal : Point → Point → Point → Bool
is_reversal a b c = int_eq (cross a b c) (pos 0) && int_lt (dot a b c) (pos 0)
