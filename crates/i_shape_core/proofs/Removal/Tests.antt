-- What the theory of removals requires of a test of three points.
use Rattle.std.specs.Prelude.{◌≡◌, ◌⊎◌}
use Rattle.i_shape_core.proofs.Common.{Point, Test}

-- if adjacent p and q both pass, each passes without the other, or they are equal
abbrev pub Slides : Test → Type 0
Slides P = (a p q b : Point) → P a p q → P p q b → (p ≡ q) ⊎ (P a q b × P a p b)

-- whether three points pass is decidable
abbrev pub Decided : Test → Type 0
Decided P = (a b c : Point) → Dec (P a b c)

-- three points that pass do so backwards
abbrev pub BothWays : Test → Type 0
BothWays P = (a b c : Point) → P a b c → P c b a

-- What relates a stronger test B (back) to a weaker one Z (zero turn).
pub record Straightens (B Z : Test) : Type 0 where
  pub weaker : (a p q : Point) → B a p q → Z a p q
  -- removing a point p that is straight between a and q makes no back vertex
  pub keeps_ahead : (x a p q : Point) → Z a p q → (B a p q → ⊥) → (B x a p → ⊥) → B x a q → ⊥
  pub keeps_behind : (a p q b : Point) → Z a p q → (B a p q → ⊥) → (B p q b → ⊥) → B a q b → ⊥
  -- a flat triangle goes back at one of its points
  pub flat_triangle : (a p q : Point) → Z a p q → (B a p q → ⊥) → (B p q a → ⊥) → (B q a p → ⊥) → ⊥
