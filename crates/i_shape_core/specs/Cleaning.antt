-- What a cleaner does with a contour, as one value, and the five cleaners.
use Rattle.std.specs.Prelude.{ℕ, List, Option}
use Rattle.i_shape_core.specs.Point.{Point}
use Rattle.i_shape_core.specs.Contour.{IsSimple, Sublist, RotatedSublist, SublistEitherWay}
use Rattle.i_shape_core.specs.Convex.{NoSpikes}
use Rattle.i_shape_core.specs.Cleaners.{SimpleAnswer, SpikelessAnswer, DespikeAnswer, KeptAnswer, IsDespikedAlready}
use Rattle.i_shape_core.specs.Canonical.{CanonicalAnswer, UnorientedAnswer, KeptEitherWay}

-- what a cleaner does
pub record Cleaning : Type 1 where
  -- the contours of which it removes no point; a canonical form still rotates them, and an unoriented one may reverse them
  pub clean : List Point → Type 0
  -- the results that are allowed for a contour: none if it collapses
  pub answers : List Point → Option (List Point) → Type 0
  -- what the result keeps of the contour
  pub keeps : List Point → Option (List Point) → Type 0
  -- which of a caller's points the result has, and in which order
  pub picks : (P : Type 0) → List P → List P → Type 0
  -- it needs no memory for contours of fewer points
  pub fewest : ℕ

-- zero turns are removed
abbrev pub simplifying : Cleaning
simplifying = record { clean = IsSimple; answers = SimpleAnswer; keeps = KeptAnswer; picks = λ P. Sublist; fewest = 3 }

-- spikes and repeated points are removed
abbrev pub despiking : Cleaning
despiking = record { clean = IsDespikedAlready; answers = SpikelessAnswer; keeps = KeptAnswer; picks = λ P. Sublist; fewest = 4 }

-- spikes and repeated points are removed, but a contour without spikes stays as it is
abbrev pub removing_spikes : Cleaning
removing_spikes = record { clean = NoSpikes; answers = DespikeAnswer; keeps = KeptAnswer; picks = λ P. Sublist; fewest = 4 }

-- the canonical form is made
abbrev pub canonicalizing : Cleaning
canonicalizing = record { clean = IsSimple; answers = CanonicalAnswer; keeps = KeptAnswer; picks = λ P. RotatedSublist; fewest = 3 }

-- the canonical form without regard to direction is made
abbrev pub canonicalizing_unoriented : Cleaning
canonicalizing_unoriented = record { clean = IsSimple; answers = UnorientedAnswer; keeps = KeptEitherWay; picks = λ P. SublistEitherWay; fewest = 3 }
