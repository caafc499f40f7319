-- The ends of an edge differ.
use Rattle.std.proofs.Common.{◌≡◌, ◌⊎◌, ℕ, ℤ, pos, ◌*ℤ◌, ◌+◌, ◌-◌, ◌<◌, ◌≤◌, List, length, sym, ap, subst, ◌∙◌, arith, inl, inr}
use Rattle.std.proofs.lemmas.Int.{ints}
use Rattle.std.proofs.lemmas.Bool.{cases_lt, cases_eq}
use Rattle.i_shape_core.specs.Point.{Point}
use Rattle.i_shape_core.specs.Contour.{point_at}
use Rattle.i_shape_core.specs.Rings.{offset, nth_ring}
use Rattle.i_shape_core.proofs.Plane.CrossProducts.{same_point}
use Rattle.i_shape_contacts.specs.Meeting.{IsOnSegment}
use Rattle.i_shape_contacts.specs.Contacts.{SharePoint, IsAfter, NoContact, AreAllEqual}
use Rattle.i_shape_contacts.specs.Courses.{DividesPoints}
use Rattle.i_shape_contacts.specs.Validity.{NoDegenerateRing}
use Rattle.i_shape_contacts.proofs.Nesting.{ends_within, ring_length, ring_read}
use Rattle.i_shape_touching.specs.Touching.{IsEdgeOf, IsFaultyContact}
use Rattle.i_shape_touching.proofs.PieceSegments.{on_start, on_end}
use Rattle.i_shape_touching.proofs.PieceEdges.{next_of, first_of, after_in, edge_end}

-- m follows k on the cycle of the places from o to below t
abbrev Follows : ℕ → ℕ → ℕ → ℕ → Type 0
Follows o t k m = ((k + 1 < t) × (m ≡ k + 1)) ⊎ ((k + 1 ≡ t) × (m ≡ o))

-- on a cycle of at least three places, the places before and after another differ
neighbours_differ : (o t l k m : ℕ) → o + 3 ≤ t → o ≤ l → o ≤ k → Follows o t l k → Follows o t k m → l ≡ m → ⊥
neighbours_differ o t l k m three from from' before after e = grind arith

own_differ : (o t k m : ℕ) → o + 3 ≤ t → Follows o t k m → k ≡ m → ⊥
own_differ o t k m three after e = grind arith

-- on a cycle of three places there is no other
no_other : (o t l k m : ℕ) (j : ℕ) → o + 3 ≤ t → o ≤ l → o ≤ k → o ≤ m → Follows o t l k → Follows o t k m → Follows o t m l → o ≤ j → j < t → (j ≡ l) ⊎ ((j ≡ k) ⊎ (j ≡ m))
no_other o t l k m j three from from' from'' before after round low high = elim (cases_eq j l) [
  | inl e ↦ inl e
  | inr e ↦ elim (cases_eq j k) [
    | inl f ↦ inr (inl f)
    | inr f ↦ inr (inr (grind arith))
  ]
]

-- the edge before another of its ring
record EdgeBefore (offsets : List ℕ) (r k : ℕ) : Type 0 where
  start : ℕ
  is_edge : IsEdgeOf offsets r start
  after : IsAfter offsets start k

share_swapped : (c : List Point) (i i' j j' : ℕ) → SharePoint c i i' j j' → SharePoint c j j' i i'
share_swapped c i i' j j' h = record {
  divisor = h.divisor;
  positive = h.positive;
  scaled = h.scaled;
  on_first = h.on_second;
  on_second = h.on_first;
  not_next = h.not_before;
  not_before = h.not_next;
}

module _ (offsets : List ℕ) (c : List Point) (d : DividesPoints (length c) offsets) where
  edge_before : (r k : ℕ) → IsEdgeOf offsets r k → EdgeBefore offsets r k
  edge_before r k e =
      let from = e.from in
      let below = e.below in
      elim (cases_lt (offset offsets r) k) [
        | inl l ↦ (let before : k - 1 + 1 ≡ k = omega (arith, l) in record {
          start = k - 1;
          is_edge = record { is_ring = e.is_ring; from = omega (arith, l); below = omega (arith, below) };
          after = record { ring = r; is_ring = e.is_ring; from = omega (arith, l); below = omega (arith, below); on = λ h. sym before; round = λ h. absurd (omega (arith, h, before, below)) };
        })
        | inr l ↦ (let last : offset offsets (r + 1) - 1 + 1 ≡ offset offsets (r + 1) = omega (arith, below) in
            let first : k ≡ offset offsets r = omega (arith, l, from) in
            record {
              start = offset offsets (r + 1) - 1;
              is_edge = record { is_ring = e.is_ring; from = omega (arith, from, below); below = omega (arith, below) };
              after = record { ring = r; is_ring = e.is_ring; from = omega (arith, from, below); below = omega (arith, below); on = λ h. absurd (omega (arith, h, last)); round = λ h. first };
            })
      ]

  follows_in : (r k m : ℕ) → IsEdgeOf offsets r k → IsAfter offsets k m → Follows (offset offsets r) (offset offsets (r + 1)) k m
  follows_in r k m e f =
      let below = e.below in
      elim (cases_lt (k + 1) (offset offsets (r + 1))) [
        | inl l ↦ inl (l, next_of offsets c d r k m e f l)
        | inr l ↦ (let last : k + 1 ≡ offset offsets (r + 1) = omega (arith, l, below) in inr (last, first_of offsets c d r k m e f last))
      ]

  -- a ring whose points are all one at its edges' starts
  all_equal : (r : ℕ) (v : Point) → r + 1 < length offsets → ((j : ℕ) → offset offsets r ≤ j → j < offset offsets (r + 1) → point_at c j ≡ v) → AreAllEqual (nth_ring c offsets r)
  all_equal r v is_ring each j within =
      let count = ring_length offsets c d r is_ring in
      ring_read offsets c d r j is_ring within ∙ each (offset offsets r + j) (omega arith) (omega (arith, within, count))
      ∙ sym (ring_read offsets c d r 0 is_ring (omega (arith, within)) ∙ each (offset offsets r + 0) (omega arith) (omega (arith, within, count)))

  module _ (whole : NoDegenerateRing offsets c) (clear : NoContact (IsFaultyContact offsets c)) where
    -- edges of one ring share no point
    own_apart : (r i i' j j' : ℕ) → IsEdgeOf offsets r i → IsEdgeOf offsets r j → IsAfter offsets i i' → IsAfter offsets j j' → i < j → SharePoint c i i' j j' → ⊥
    own_apart r i i' j j' first second first_after second_after order share =
        let all = ends_within offsets c d r second.is_ring in
        let below = second.below in
        clear.none i j (record {
          contact = record {
            order = order;
            within = omega (arith, all, below);
            first_end = i';
            first_follows = first_after;
            second_end = j';
            second_follows = second_after;
            shared = share;
          };
          more = λ t. t.differ r first second;
        })

    pub own_share : (r i i' j j' : ℕ) → IsEdgeOf offsets r i → IsEdgeOf offsets r j → IsAfter offsets i i' → IsAfter offsets j j' → (i ≡ j → ⊥) → SharePoint c i i' j j' → ⊥
    own_share r i i' j j' first second first_after second_after differ share = elim (cases_lt i j) [
      | inl l ↦ own_apart r i i' j j' first second first_after second_after l share
      | inr l ↦ elim (cases_eq i j) [
        | inl e ↦ differ e
        | inr e ↦ own_apart r j j' i i' second first second_after first_after (omega (arith, l, e)) (share_swapped c i i' j j' share)
      ]
    ]

    -- a ring has three points
    three : (r : ℕ) → r + 1 < length offsets → offset offsets r + 3 ≤ offset offsets (r + 1)
    three r is_ring =
        let count = ring_length offsets c d r is_ring in
        elim (cases_lt (length (nth_ring c offsets r)) 3) [
          | inl l ↦ absurd (whole r (record { is_ring = is_ring; degenerate = inl l }))
          | inr l ↦ omega (arith, l, count)
        ]

    pub ends_differ : (r k m : ℕ) → IsEdgeOf offsets r k → IsAfter offsets k m → point_at c k ≡ point_at c m → ⊥
    ends_differ r k m e after same =
        let enough = three r e.is_ring in
        let before = edge_before r k e in
        let l = before.start in
        let e' = after_in offsets c d r k m e after in
        let next = edge_end offsets c d r m e' in
        let n = next.end in
        let first = follows_in r l k before.is_edge before.after in
        let second = follows_in r k m e after in
        let third = follows_in r m n e' next.after in
        own_share r l k m n before.is_edge e' before.after next.after (neighbours_differ _ _ l k m enough before.is_edge.from e.from first second) (record {
          divisor = pos 1;
          positive = omega (arith, ints);
          scaled = point_at c k;
          on_first = on_end (point_at c l) (point_at c k);
          on_second = subst (λ (v : Point). IsOnSegment (pos 1) v (point_at c m) (point_at c n)) (sym same) (on_start (point_at c m) (point_at c n));
          not_next = λ h at. own_differ _ _ k m enough second h;
          not_before = λ h at. whole r (record {
            is_ring = e.is_ring;
            degenerate = inr (all_equal r (point_at c k) e.is_ring (λ j low high.
                one_of j (no_other _ _ l k m j enough before.is_edge.from e.from e'.from first second (subst (Follows _ _ m) h third) low high)
                (same_point (point_at c l) (point_at c k) (once _ _ at.x) (once _ _ at.y))));
          });
        })
      where
        once : (x y : ℤ) → x ≡ pos 1 *ℤ y → y ≡ x
        once x y h = omega (arith, ints)

        one_of : (j : ℕ) → (j ≡ (edge_before r k e).start) ⊎ ((j ≡ k) ⊎ (j ≡ m)) → point_at c (edge_before r k e).start ≡ point_at c k → point_at c j ≡ point_at c k
        one_of j (inl h) f = ap (point_at c) h ∙ f
        one_of j (inr (inl h)) f = ap (point_at c) h
        one_of j (inr (inr h)) f = ap (point_at c) h ∙ sym same
