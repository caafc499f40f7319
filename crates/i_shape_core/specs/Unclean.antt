-- The contours that a cleaner needs room for. Keys represent the contours, such as their indices, or the contours
-- themselves: `Among` holds of the keys of those in question, `Clean` of the keys of clean ones, and `count` is the
-- number of points.
use Rattle.std.specs.Prelude.{◌≡◌, ℕ, ◌<◌, ◌≤◌, ◌⊎◌, Option, MatchOption}

-- the longest of the contours that aren't clean has n points
pub record IsLongestUnclean {K : Type 0} (Among Clean : K → Type 0) (count : K → ℕ) (n : ℕ) : Type 0 where
  pub longest : K
  pub among : Among longest
  pub unclean : Clean longest → ⊥
  pub len : count longest ≡ n
  pub most : (k : K) → Among k → (Clean k → ⊥) → count k ≤ n

-- the number of points of that contour, or none if all are clean
abbrev pub LongestUnclean : {K : Type 0} → (K → Type 0) → (K → Type 0) → (K → ℕ) → Option ℕ → Type 0
LongestUnclean {K} Among Clean count r = MatchOption r ((k : K) → Among k → Clean k) (IsLongestUnclean Among Clean count)

-- a contour needs no memory: it has fewer than three points, or is clean
abbrev pub IsShortOrClean : {K : Type 0} → (K → Type 0) → (K → ℕ) → K → Type 0
IsShortOrClean Clean count k = (count k < 3) ⊎ Clean k
