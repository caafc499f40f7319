-- What shapes and lists use of each cleaner's answers.
use Rattle.std.proofs.Common.{◌<◌, List, length, Some, None, arith, All}
use Rattle.std.specs.Int.{Width}
use Rattle.i_shape_core.proofs.Common.{Point, IsSafe, SimpleAnswer, DespikeAnswer, CanonicalAnswer, UnorientedAnswer}
use Rattle.i_shape_core.proofs.Removal.Ends.{reach_shrinks}
use Rattle.i_shape_core.proofs.CleanerAnswers.Kept.{spikeless_long, simple_left, despike_left}
use Rattle.i_shape_core.proofs.Forms.Unoriented.{canonical_left, unoriented_left}

-- a simple answer of a safe contour is safe
pub simple_safe : (width : Width) (c e : List Point) → SimpleAnswer c (Some e) → All (IsSafe width) c → All (IsSafe width) e
simple_safe width = simple_left (IsSafe width)

-- a despike answer of a safe contour is safe
pub despike_safe : (width : Width) (c e : List Point) → DespikeAnswer c (Some e) → All (IsSafe width) c → All (IsSafe width) e
despike_safe width = despike_left (IsSafe width)

-- the canonical form of a safe contour is safe
pub canonical_safe : (width : Width) (c l : List Point) → CanonicalAnswer c (Some l) → All (IsSafe width) c → All (IsSafe width) l
canonical_safe width = canonical_left (IsSafe width)

-- the unoriented form of a safe contour is safe
pub unoriented_safe : (width : Width) (c l : List Point) → UnorientedAnswer c (Some l) → All (IsSafe width) c → All (IsSafe width) l
unoriented_safe width = unoriented_left (IsSafe width)

-- a contour of fewer than three points collapses
pub simple_short : (c : List Point) → length c < 3 → SimpleAnswer c None
simple_short c few e ended = omega (arith, few, reach_shrinks ended.reached)

-- a contour of fewer than three points collapses when spikes are removed
pub despike_short : (c : List Point) → length c < 3 → DespikeAnswer c None
despike_short c few = record { clean = λ s. absurd (omega (arith, few, spikeless_long c s)); cleaned = λ n. simple_short c few }
