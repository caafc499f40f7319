-- Laws of winding numbers and of fill rules.
use Rattle.std.specs.Prelude.{◌≡◌, ◌<◌, ◌↔◌, ℤ, pos, neg_ℤ, List, reverse, length}
use Rattle.i_shape_core.specs.Point.{Point, IsZeroTurn}
use Rattle.i_shape_core.specs.Contour.{Reach, Rotation}
use Rattle.i_shape_core.specs.Cleaners.{KeptAnswer}
use Rattle.i_shape_core.specs.Survivors.{Survivors}
use Rattle.i_shape_core.specs.Winding.{winding, shape_winding}
use Rattle.i_shape_core.specs.Filling.{IsFilled}
use Rattle.i_shape_core.specs.Moves.{moved, scaling}
use Rattle.i_shape_core.specs.declared.measure.fill_rule.FillRule.{FillRule}

-- removals keep the winding number about each point; for fewer than three points it is 0
pub record WindingKept (c d : List Point) : Type 0 where
  pub kept : Reach IsZeroTurn c d → (p : Point) → winding c p ≡ winding d p
  pub none : length c < 3 → (p : Point) → winding c p ≡ pos 0

-- rotation keeps the winding number about each point, reversal negates it
pub record WindingRotated (c d : List Point) : Type 0 where
  pub rotated : Rotation c d → (p : Point) → winding c p ≡ winding d p
  pub backwards : (p : Point) → winding (reverse c) p ≡ neg_ℤ (winding c p)

-- removals keep the winding number of the contour scaled by n about p: for n above 0 this is the one about the point
-- with the coordinates p.x / n and p.y / n
abbrev pub WindingBetween : List Point → List Point → Type 0
WindingBetween c d = Reach IsZeroTurn c d → (n : ℤ) (p : Point) → winding (moved (scaling n) c) p ≡ winding (moved (scaling n) d) p

-- if `left` has for each contour one that keeps its measures, or none where the contour is flat, each rule fills the same
-- points of both
abbrev pub FillingKept : List (List Point) → List (List Point) → Type 0
FillingKept contours left = Survivors KeptAnswer contours left → (rule : FillRule) (p : Point) → IsFilled rule (shape_winding contours p) ↔ IsFilled rule (shape_winding left p)
