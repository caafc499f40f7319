-- Boxes around rings: how one is made of others, and which holes they pass over.
use Rattle.std.proofs.Common.{◌≡◌, ℕ, ◌+◌, ◌<◌, ◌≤◌, List, length, get_or, set, take, ℤ, pos, All, true, refl, sym, subst, arith, inl, inr, get_or-set_other, get_or-set_same, length-set}
use Rattle.std.proofs.lemmas.Bool.{cases_eq, cases_lt}
use Rattle.std.proofs.lemmas.List.Elements.{All-more, All-get_or}
use Rattle.i_shape_core.specs.Point.{Point, origin}
use Rattle.i_shape_core.specs.Contour.{point_at}
use Rattle.i_shape_core.specs.Rings.{nth_ring}
use Rattle.i_shape_core.specs.Winding.{winding}
use Rattle.i_shape_contacts.specs.declared.boxes.Bounds.{Bounds}
use Rattle.i_shape_contacts.specs.declared.boxes.Block.{Block}
use Rattle.i_shape_contacts.specs.Contacts.{IsRingContact, NoContact}
use Rattle.i_shape_contacts.specs.Courses.{DividesPoints}
use Rattle.i_shape_contacts.specs.Validity.{NoDegenerateRing, IsHoleWithin}
use Rattle.i_shape_contacts.specs.Steps.Boxes.{Holds, AreApart}
use Rattle.i_shape_contacts.specs.Steps.Rings.{HoldsRing, IsRingBlock, AreRingBlocks, SkipsApart}
use Rattle.i_shape_contacts.proofs.Outside.{winding_apart}
use Rattle.i_shape_contacts.proofs.Nesting.{within_at, some_point}
use Rattle.i_shape_contacts.proofs.Faults.{untrue}

-- a box that holds the first point
pub held_first : {I : Type 0} (value : I → ℤ) (b : Bounds I) (list : List Point) → 0 < length list → Holds value b (point_at list 0) → All (Holds value b) (take 1 list)
held_first value b list within here = All-more (Holds value b) list 0 origin within (λ j d h. absurd (omega (arith, h))) here

-- a box that holds what another one does holds its points, and one more
pub held_more : {I : Type 0} (value : I → ℤ) (b r : Bounds I) (list : List Point) (k : ℕ) → ((p : Point) → Holds value b p → Holds value r p) → k < length list
    → All (Holds value b) (take k list) → Holds value r (point_at list k) → All (Holds value r) (take (k + 1) list)
held_more value b r list k wider within before here = All-more (Holds value r) list k origin within (λ j d h. wider (get_or (take k list) j d) (before j d h)) here

module _ {I : Type 0} (value : I → ℤ) (offsets : List ℕ) (c : List Point) where
  -- a box that holds what two others do holds the rings of both
  pub rings_joined : (a b r : Bounds I) (k n n' : ℕ) → ((p : Point) → Holds value a p → Holds value r p) → ((p : Point) → Holds value b p → Holds value r p)
      → ((j : ℕ) → k ≤ j → j < n → j + 1 < length offsets → HoldsRing value offsets c a j) → ((j : ℕ) → n ≤ j → j < n' → j + 1 < length offsets → HoldsRing value offsets c b j)
      → (j : ℕ) → k ≤ j → j < n' → j + 1 < length offsets → HoldsRing value offsets c r j
  rings_joined a b r k n n' from_a from_b first second j h l inside = elim (cases_lt j n) [
    | inl s ↦ λ m d less. from_a _ (first j h s inside m d less)
    | inr s ↦ λ m d less. from_b _ (second j s l inside m d less)
  ]

  -- one block more, before the others
  pub one_ring_block : (k k' : ℕ) (blocks : List (Block I)) (b : Block I) → k ≡ k' + 1 → k' < length blocks → AreRingBlocks value offsets c k blocks → IsRingBlock value offsets c k' b → AreRingBlocks value offsets c k' (set blocks k' b)
  one_ring_block k k' blocks b up within later here m d h l = elim (cases_eq m k') [
    | inl e ↦ subst (λ (j : ℕ). IsRingBlock value offsets c j (get_or (set blocks k' b) j d)) (sym e) (subst (IsRingBlock value offsets c k') (sym (get_or-set_same blocks k' b d within)) here)
    | inr n ↦ (let inside : m < length blocks = subst (λ (n : ℕ). m < n) (length-set blocks k' b) l in subst (IsRingBlock value offsets c m) (sym (get_or-set_other blocks k' m b d n)) (later m d (omega (arith, h, n, up)) inside))
  ]

  module _ (divides : DividesPoints (length c) offsets) (whole : NoDegenerateRing offsets c) (clear : NoContact (IsRingContact offsets c)) where
    -- a hole is within no other in a box apart from its own
    not_within : (own b : Bounds I) (k j : ℕ) → HoldsRing value offsets c own k → HoldsRing value offsets c b j → AreApart value own b → IsHoleWithin offsets c k j → ⊥
    not_within own b k j mine its apart w = untrue ((within_at offsets c divides whole clear k j (nth_ring c offsets j) (nth_ring c offsets k) true refl refl (λ t. none, λ e. refl) w.is_hole w.other_is_hole w.differ).1 w)
      where
        none : winding (nth_ring c offsets j) (point_at (nth_ring c offsets k) 0) ≡ pos 0
        none = winding_apart value own b (point_at (nth_ring c offsets k) 0) (nth_ring c offsets j) (All-get_or (Holds value own) (nth_ring c offsets k) 0 origin (some_point offsets c divides whole clear k w.is_hole.is_ring) mine) its apart

    -- a hole is within none of those that are passed over
    pub none_passed : (blocks : List (Block I)) (k from to : ℕ) → AreRingBlocks value offsets c 0 blocks → SkipsApart value blocks k from to → ((j : ℕ) → j < from → IsHoleWithin offsets c k j → ⊥) → (j : ℕ) → j < to → IsHoleWithin offsets c k j → ⊥
    none_passed blocks k from to are (inl same) before j h w = before j (omega (arith, same, h)) w
    none_passed blocks k from to are (inr p) before j h w = elim (cases_lt j from) [
      | inl b ↦ before j b w
      | inr b ↦ elim p.beside [
        | inl e ↦ (let next = e.1 in not_within p.own.own p.block.bounds k j mine.own (its.holds j b (omega (arith, h, next)) w.other_is_hole.is_ring) e.0 w)
        | inr e ↦ (let next = e.1 in let here : from ≡ j = omega (arith, b, h, next) in not_within p.own.own p.block.own k j mine.own (subst (λ m. HoldsRing value offsets c p.block.own m) here its.own) e.0 w)
      ]
    ]
      where
        mine : IsRingBlock value offsets c k p.own
        mine = subst (IsRingBlock value offsets c k) p.own_is (are k p.own (omega arith) p.own_within)

        its : IsRingBlock value offsets c from p.block
        its = subst (IsRingBlock value offsets c from) p.block_is (are from p.block (omega arith) p.within)
