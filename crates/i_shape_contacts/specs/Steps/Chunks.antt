-- Contacts of edges in an order, whichever of two comes first.
use Rattle.std.specs.Prelude.{◌<◌, ◌≤◌, ℕ, List, length, ◌⊎◌}
use Rattle.i_shape_core.specs.Point.{Point}
use Rattle.i_shape_contacts.specs.Contacts.{IsContactBy}

-- two edges are in contact, whichever comes first
abbrev pub Touch : (ℕ → ℕ → Type 0) → List Point → ℕ → ℕ → Type 0
Touch Follows c a b = IsContactBy Follows c a b ⊎ IsContactBy Follows c b a

-- no edge at a rank from `from` to below `to` touches one at a rank after it, from `least` to below `most`
abbrev pub NoneTouch : (ℕ → ℕ → Type 0) → List Point → (ℕ → ℕ) → ℕ → ℕ → ℕ → ℕ → Type 0
NoneTouch Follows c at from to least most = (k r : ℕ) → from ≤ k → k < to → least ≤ r → r < most → k < r → Touch Follows c (at k) (at r) → ⊥

-- the same of the ranks that points have
abbrev pub NoneWithin : (ℕ → ℕ → Type 0) → List Point → (ℕ → ℕ) → ℕ → ℕ → ℕ → ℕ → Type 0
NoneWithin Follows c at from to least most = (k r : ℕ) → from ≤ k → k < to → least ≤ r → r < most → r < length c → k < r → Touch Follows c (at k) (at r) → ⊥

-- no edge at a rank below k touches one at a rank after it, below n
pub record NoneBehind (Follows : ℕ → ℕ → Type 0) (c : List Point) (at : ℕ → ℕ) (n k : ℕ) : Type 0 where
  pub none : (j r : ℕ) → j < k → j < r → r < n → Touch Follows c (at j) (at r) → ⊥
