-- Removing zero turns from a contour without back vertices leaves at least three points and no back vertex.
use Rattle.std.proofs.Common.{◌≡◌, ℕ, ◌<◌, ◌≤◌, List, length, pos, ◌<ℤ◌, ◌⊎◌, inl, inr}
use Rattle.i_shape_core.proofs.Common.{Point, cross, dot, IsZeroTurn, IsBack, point_at, IsRemovable, Step, Reach, stay, step}
use Rattle.i_shape_core.proofs.Removal.Tests.{Straightens}
use Rattle.i_shape_core.proofs.Plane.Back.{back_before_straight, back_after_straight, flat_triangle, low_or_above}
use Rattle.i_shape_core.proofs.Removal.Places.{Follows, before_from, after_from}
use Rattle.i_shape_core.proofs.Removal.BackFirst.{keeps_none}

-- a zero turn that doesn't go back goes straight on
onward : (a p q : Point) → IsZeroTurn a p q → (IsBack a p q → ⊥) → pos 0 <ℤ dot a p q
onward a p q z n = elim (low_or_above (dot a p q)) [ inl d ↦ absurd (n (z, d)) | inr d ↦ d ]

-- back vertices and zero turns satisfy `Straightens`
pub back_straightens : Straightens IsBack IsZeroTurn
back_straightens = record {
  weaker = λ a p q b. b.0;
  keeps_ahead = λ x a p q z n m b. m (back_before_straight x a p q z (onward a p q z n) b);
  keeps_behind = λ a p q b z n m k. m (back_after_straight a p q b z (onward a p q z n) k);
  flat_triangle = λ a p q z n m k. triangle n m k (flat_triangle a p q z);
}
  where
    triangle : {A B C : Type 0} → (A → ⊥) → (B → ⊥) → (C → ⊥) → A ⊎ (B ⊎ C) → ⊥
    triangle f g h (inl x) = f x
    triangle f g h (inr (inl x)) = g x
    triangle f g h (inr (inr x)) = h x

-- a contour of at least three points without back vertices
pub record HasNoBack (c : List Point) : Type 0 where
  pub enough : 3 ≤ length c
  pub none : (k : ℕ) → IsRemovable IsBack c k → ⊥

-- removing zero turns makes no back vertex
pub no_back_kept : (c d : List Point) → HasNoBack c → Reach IsZeroTurn c d → HasNoBack d
no_back_kept c d h r = let m = keeps_none back_straightens h.enough h.none r in record { enough = m.0; none = m.1 }

-- removing one zero turn makes no back vertex
pub no_back_after_step : (c d : List Point) → HasNoBack c → Step IsZeroTurn c d → HasNoBack d
no_back_after_step c d h s = no_back_kept c d h (step s stay)

-- no point goes back between the two points beside it
pub none_in_a_row : (c : List Point) → HasNoBack c → (q m s : ℕ) → q < length c → m < length c → Follows (length c) q m → Follows (length c) m s
    → IsBack (point_at c q) (point_at c m) (point_at c s) → ⊥
none_in_a_row c h q m s i l Q S back = h.none m (record { enough = h.enough; within = l; passes = rw (before_from (length c) q m i l Q, after_from (length c) m s l S) back })

-- without back vertices a zero turn goes straight on
pub zero_turn_straight : (c : List Point) (k b a : ℕ) → HasNoBack c → IsRemovable IsZeroTurn c k → b < length c → Follows (length c) b k → Follows (length c) k a
    → (cross (point_at c b) (point_at c k) (point_at c a) ≡ pos 0) × (pos 0 <ℤ dot (point_at c b) (point_at c k) (point_at c a))
zero_turn_straight c k b a h r i B A = (zero, onward (point_at c b) (point_at c k) (point_at c a) zero (none_in_a_row c h b k a i r.within B A))
  where
    zero : cross (point_at c b) (point_at c k) (point_at c a) ≡ pos 0
    zero = rw (← before_from (length c) b k i r.within B, ← after_from (length c) k a r.within A) r.passes
