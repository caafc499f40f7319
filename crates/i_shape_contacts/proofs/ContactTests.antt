-- Contacts of two edges, by where the edges are.
use Rattle.std.proofs.Common.{◌≡◌, ◌↔◌, ℕ, ℤ, pos, ◌+ℤ◌, ◌-ℤ◌, ◌*ℤ◌, ◌+◌, ◌<◌, List, [], ◌∷◌, length, refl, sym, ap, subst, ◌∙◌, arith, inl, inr}
use Rattle.std.proofs.lemmas.Bool.{cases_eq}
use Rattle.std.proofs.lemmas.Int.{ints}
use Rattle.i_shape_core.specs.Point.{Point}
use Rattle.i_shape_core.specs.Contour.{point_at}
use Rattle.i_shape_core.proofs.Arithmetic.Polynomials.{variable, plus, times, minus, by_polynomials}
use Rattle.i_shape_core.proofs.Plane.CrossProducts.{same_point}
use Rattle.i_shape_contacts.specs.Meeting.{IsOnSegment, Meet, MeetAgain}
use Rattle.i_shape_contacts.specs.Contacts.{SharePoint, IsContactBy}

module _ (c : List Point) where
  -- the edges share a point
  pub share_meets : (i i' j j' : ℕ) → SharePoint c i i' j j' → Meet (point_at c i) (point_at c i') (point_at c j) (point_at c j')
  share_meets i i' j j' h = record { divisor = h.divisor; positive = h.positive; scaled = h.scaled; on_first = h.on_first; on_second = h.on_second }

  -- an edge and the next
  pub share_next : (i i' j j' : ℕ) → i' ≡ j → (j' ≡ i → ⊥) → MeetAgain (point_at c i) (point_at c j) (point_at c j') ↔ SharePoint c i i' j j'
  share_next i i' j j' next not_round = (
    λ m. record {
      divisor = m.divisor;
      positive = m.positive;
      scaled = m.scaled;
      on_first = subst (λ (k : ℕ). IsOnSegment m.divisor m.scaled (point_at c i) (point_at c k)) (sym next) m.on_first;
      on_second = m.on_second;
      not_next = λ e. m.other;
      not_before = λ e. absurd (not_round e);
    },
    λ h. record {
      divisor = h.divisor;
      positive = h.positive;
      scaled = h.scaled;
      on_first = subst (λ (k : ℕ). IsOnSegment h.divisor h.scaled (point_at c i) (point_at c k)) next h.on_first;
      on_second = h.on_second;
      other = h.not_next next;
    },
  )

  -- an edge and the one before it
  pub share_round : (i i' j j' : ℕ) → (i' ≡ j → ⊥) → j' ≡ i → MeetAgain (point_at c j) (point_at c i) (point_at c i') ↔ SharePoint c i i' j j'
  share_round i i' j j' not_next round = (
    λ m. record {
      divisor = m.divisor;
      positive = m.positive;
      scaled = m.scaled;
      on_first = m.on_second;
      on_second = subst (λ (k : ℕ). IsOnSegment m.divisor m.scaled (point_at c j) (point_at c k)) (sym round) m.on_first;
      not_next = λ e. absurd (not_next e);
      not_before = λ e. m.other;
    },
    λ h. record {
      divisor = h.divisor;
      positive = h.positive;
      scaled = h.scaled;
      on_first = subst (λ (k : ℕ). IsOnSegment h.divisor h.scaled (point_at c j) (point_at c k)) round h.on_second;
      on_second = h.on_first;
      other = h.not_before round;
    },
  )

  -- other edges
  pub share_apart : (i i' j j' : ℕ) → (i' ≡ j → ⊥) → (j' ≡ i → ⊥) → Meet (point_at c i) (point_at c i') (point_at c j) (point_at c j') ↔ SharePoint c i i' j j'
  share_apart i i' j j' not_next not_round = (
    λ m. record {
      divisor = m.divisor;
      positive = m.positive;
      scaled = m.scaled;
      on_first = m.on_first;
      on_second = m.on_second;
      not_next = λ e. absurd (not_next e);
      not_before = λ e. absurd (not_round e);
    },
    λ h. share_meets i i' j j' h,
  )

  -- the two edges of a ring of two points: they share more than the points unless these are one
  pub share_both : (i i' j j' : ℕ) → i' ≡ j → j' ≡ i → (point_at c i ≡ point_at c j → ⊥) ↔ SharePoint c i i' j j'
  share_both i i' j j' next round = (
    λ apart. record {
      divisor = pos 2;
      positive = omega (arith, ints);
      scaled = record { x = a.x +ℤ b.x; y = a.y +ℤ b.y };
      on_first = subst (λ (k : ℕ). IsOnSegment (pos 2) (record { x = a.x +ℤ b.x; y = a.y +ℤ b.y }) a (point_at c k)) (sym next) (half a b);
      on_second = subst (λ (k : ℕ). IsOnSegment (pos 2) (record { x = a.x +ℤ b.x; y = a.y +ℤ b.y }) b (point_at c k)) (sym round) (other_half a b);
      not_next = λ e at. apart (same_point a b (once a.x b.x at.x) (once a.y b.y at.y));
      not_before = λ e at. apart (sym (same_point b a (twice a.x b.x at.x) (twice a.y b.y at.y)));
    },
    λ h same. h.not_before round (record { x = h.on_first.x ∙ still h.divisor h.on_first.share a.x (point_at c i').x (ap (λ (p : Point). p.x) (same_end same)); y = h.on_first.y ∙ still h.divisor h.on_first.share a.y (point_at c i').y (ap (λ (p : Point). p.y) (same_end same)) }),
  )
    where
      a : Point
      a = point_at c i

      b : Point
      b = point_at c j

      same_end : a ≡ b → point_at c i' ≡ a
      same_end same = ap (point_at c) next ∙ sym same

      still : (d s x y : ℤ) → y ≡ x → d *ℤ x +ℤ s *ℤ (y -ℤ x) ≡ d *ℤ x
      still d s x y e = ap (λ (z : ℤ). d *ℤ x +ℤ s *ℤ (z -ℤ x)) e ∙ by_polynomials (d ∷ s ∷ x ∷ []) (plus (times (variable 0) (variable 2)) (times (variable 1) (plus (variable 2) (minus (variable 2))))) (times (variable 0) (variable 2)) refl

      once : (x y : ℤ) → x +ℤ y ≡ pos 2 *ℤ y → x ≡ y
      once x y e = omega (arith, ints)

      twice : (x y : ℤ) → x +ℤ y ≡ pos 2 *ℤ x → y ≡ x
      twice x y e = omega (arith, ints)

      middle : (x y : ℤ) → x +ℤ y ≡ pos 2 *ℤ x +ℤ pos 1 *ℤ (y -ℤ x)
      middle x y = omega (arith, ints)

      middle_back : (x y : ℤ) → x +ℤ y ≡ pos 2 *ℤ y +ℤ pos 1 *ℤ (x -ℤ y)
      middle_back x y = omega (arith, ints)

      half : (a b : Point) → IsOnSegment (pos 2) (record { x = a.x +ℤ b.x; y = a.y +ℤ b.y }) a b
      half a b = record { share = pos 1; least = omega (arith, ints); most = omega (arith, ints); x = middle a.x b.x; y = middle a.y b.y }

      other_half : (a b : Point) → IsOnSegment (pos 2) (record { x = a.x +ℤ b.x; y = a.y +ℤ b.y }) b a
      other_half a b = record { share = pos 1; least = omega (arith, ints); most = omega (arith, ints); x = middle_back a.x b.x; y = middle_back a.y b.y }

  -- where one point alone follows each: edges are in contact where they share a point so
  pub contact_shared : (Follows : ℕ → ℕ → Type 0) (i i' j j' : ℕ) (P : Type 0) → i < j → j < length c → Follows i i' → Follows j j' → ((m : ℕ) → Follows i m → m ≡ i') → ((m : ℕ) → Follows j m → m ≡ j')
      → P ↔ SharePoint c i i' j j' → P ↔ IsContactBy Follows c i j
  contact_shared Follows i i' j j' P order within first second one_first one_second same = (
    λ p. record { order = order; within = within; first_end = i'; first_follows = first; second_end = j'; second_follows = second; shared = same.0 p },
    λ h. same.1 (subst (λ (m : ℕ). SharePoint c i m j j') (one_first h.first_end h.first_follows) (subst (λ (m : ℕ). SharePoint c i h.first_end j m) (one_second h.second_end h.second_follows) h.shared)),
  )

-- one edge more that is in contact with none after it
pub none_more : (Contact : ℕ → ℕ → Type 0) (k : ℕ) → ((i j : ℕ) → i < k → Contact i j → ⊥) → ((j : ℕ) → Contact k j → ⊥) → (i j : ℕ) → i < k + 1 → Contact i j → ⊥
none_more Contact k before here i j h w = elim (cases_eq i k) [
  | inl e ↦ here j (subst (λ (m : ℕ). Contact m j) e w)
  | inr n ↦ before i j (omega (arith, h, n)) w
]
