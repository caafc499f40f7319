-- How two edges lie to one another, by the points at their ends.
use Rattle.std.proofs.Common.{◌≡◌, ◌↔◌, ℕ, List, subst}
use Rattle.i_shape_core.specs.Point.{Point}
use Rattle.i_shape_core.specs.Contour.{point_at}
use Rattle.i_shape_contacts.specs.Kinds.{EdgesLie}

-- where one point alone follows each: how the edges lie to one another is how the segments between the points do
pub edges_lie : (Lie : Point → Point → Point → Point → Type 0) (Follows : ℕ → ℕ → Type 0) (c : List Point) (i i' j j' : ℕ) (P : Type 0) → Follows i i' → Follows j j' → ((m : ℕ) → Follows i m → m ≡ i') → ((m : ℕ) → Follows j m → m ≡ j')
    → P ↔ Lie (point_at c i) (point_at c i') (point_at c j) (point_at c j') → P ↔ EdgesLie Lie Follows c i j
edges_lie Lie Follows c i i' j j' P first second one_first one_second same = (
  λ p. record { first_end = i'; first_follows = first; second_end = j'; second_follows = second; lie = same.0 p },
  λ h. same.1 (subst (λ (m : ℕ). Lie (point_at c i) (point_at c m) (point_at c j) (point_at c j')) (one_first h.first_end h.first_follows) (subst (λ (m : ℕ). Lie (point_at c i) (point_at c h.first_end) (point_at c j) (point_at c m)) (one_second h.second_end h.second_follows) h.lie)),
)
