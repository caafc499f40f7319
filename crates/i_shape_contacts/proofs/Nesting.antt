-- Where no edges of two rings are in contact, the one winds as often about each point of the other.
use Rattle.std.proofs.Common.{◌≡◌, ◌↔◌, ℕ, zero, suc, pos, ◌+◌, ◌-◌, ◌<◌, ◌≤◌, Bool, true, false, not, IsTrue, List, length, drop, refl, sym, ap, ◌∙◌, arith, inl, inr}
use Rattle.std.proofs.lemmas.Bool.{cases_lt}
use Rattle.std.proofs.lemmas.List.{get_or-take, get_or-drop, length-take-le, length-drop}
use Rattle.i_shape_core.specs.Point.{Point, origin}
use Rattle.i_shape_core.specs.Contour.{point_at}
use Rattle.i_shape_core.specs.Winding.{winding}
use Rattle.i_shape_core.specs.Rings.{offset, nth_ring}
use Rattle.i_shape_core.proofs.Lists.Rings.{rises_to}
use Rattle.i_shape_contacts.specs.Meeting.{Meet}
use Rattle.i_shape_contacts.specs.Contacts.{SharePoint, IsAfter, IsRingContact, NoContact}
use Rattle.i_shape_contacts.specs.Courses.{DividesPoints}
use Rattle.i_shape_contacts.specs.Validity.{NoDegenerateRing, IsHole, IsHoleOutside, IsHoleWithin}
use Rattle.i_shape_contacts.proofs.SameWinding.{follower, follower_on, follower_round, same_about_ends}

-- segments that meet share a point of the contour's edges
shared : (c : List Point) (i i' j j' : ℕ) (p q a b : Point) → p ≡ point_at c i → q ≡ point_at c i' → a ≡ point_at c j → b ≡ point_at c j' → (i' ≡ j → ⊥) → (j' ≡ i → ⊥) → Meet p q a b → SharePoint c i i' j j'
shared c i i' j j' p q a b ep eq ea eb not_next not_before m =
    let n : Meet (point_at c i) (point_at c i') (point_at c j) (point_at c j') = rw (← ep, ← eq, ← ea, ← eb) m in
    record {
      divisor = n.divisor;
      positive = n.positive;
      scaled = n.scaled;
      on_first = n.on_first;
      on_second = n.on_second;
      not_next = λ e. absurd (not_next e);
      not_before = λ e. absurd (not_before e);
    }

swapped : (p q a b : Point) → Meet p q a b → Meet a b p q
swapped p q a b m = record { divisor = m.divisor; positive = m.positive; scaled = m.scaled; on_first = m.on_second; on_second = m.on_first }

-- the edge from the point at place k of ring r
record RingEdge (offsets : List ℕ) (c : List Point) (r k : ℕ) : Type 0 where
  end : ℕ
  after : IsAfter offsets (offset offsets r + k) end
  from : offset offsets r ≤ end
  below : end < offset offsets (r + 1)
  read : follower (nth_ring c offsets r) k ≡ point_at c end

module _ (offsets : List ℕ) (c : List Point) (d : DividesPoints (length c) offsets) where
  pub ends_within : (r : ℕ) → r + 1 < length offsets → offset offsets (r + 1) ≤ length c
  ends_within r is_ring =
      let up = rises_to offsets (length offsets) (r + 1) (length offsets - 1) d.divides.order (omega (arith, is_ring)) (omega (arith, is_ring)) in
      let all = d.all in
      omega (arith, up)

  pub ring_length : (r : ℕ) → r + 1 < length offsets → length (nth_ring c offsets r) + offset offsets r ≡ offset offsets (r + 1)
  ring_length r is_ring =
      let within = ends_within r is_ring in
      let order = d.divides.order r is_ring in
      let rest = length-drop (offset offsets r) c in
      let some = length-take-le (offset offsets (r + 1) - offset offsets r) (drop (offset offsets r) c) (omega (arith, within, order, rest)) in
      omega (arith, some, order)

  pub ring_read : (r k : ℕ) → r + 1 < length offsets → k < length (nth_ring c offsets r) → point_at (nth_ring c offsets r) k ≡ point_at c (offset offsets r + k)
  ring_read r k is_ring within =
      let count = ring_length r is_ring in
      get_or-take (offset offsets (r + 1) - offset offsets r) (drop (offset offsets r) c) k origin (omega (arith, within, count)) ∙ get_or-drop (offset offsets r) c k origin

  -- an edge that isn't the last of its ring
  ring_step : (r k : ℕ) → r + 1 < length offsets → k + 1 < length (nth_ring c offsets r) → IsAfter offsets (offset offsets r + k) (offset offsets r + k + 1)
  ring_step r k is_ring within =
      let count = ring_length r is_ring in
      record {
        ring = r;
        is_ring = is_ring;
        from = omega arith;
        below = omega (arith, within, count);
        on = λ h. refl;
        round = λ e. absurd (omega (arith, within, count, e));
      }

  ring_edge : (r k : ℕ) → r + 1 < length offsets → k < length (nth_ring c offsets r) → RingEdge offsets c r k
  ring_edge r k is_ring within =
      let count = ring_length r is_ring in
      elim (cases_lt (k + 1) (length (nth_ring c offsets r))) [
        | inl on ↦ (let next : offset offsets r + (k + 1) ≡ offset offsets r + k + 1 = omega arith in record {
          end = offset offsets r + k + 1;
          after = ring_step r k is_ring on;
          from = omega arith;
          below = omega (arith, on, count);
          read = follower_on (nth_ring c offsets r) k on ∙ ring_read r (k + 1) is_ring on ∙ ap (λ m. point_at c m) next;
        })
        | inr last ↦ (let first : offset offsets r + 0 ≡ offset offsets r = omega arith in
            let whole : k + 1 ≡ length (nth_ring c offsets r) = omega (arith, within, last) in
            record {
              end = offset offsets r;
              after = record {
                ring = r;
                is_ring = is_ring;
                from = omega arith;
                below = omega (arith, within, count);
                on = λ h. absurd (omega (arith, h, whole, count));
                round = λ e. refl;
              };
              from = omega arith;
              below = omega (arith, within, count);
              read = follower_round (nth_ring c offsets r) k whole ∙ ring_read r 0 is_ring (omega (arith, within)) ∙ ap (λ m. point_at c m) first;
            })
      ]

  module _ (clear : NoContact (IsRingContact offsets c)) (r s : ℕ) (is_ring : r + 1 < length offsets) (is_other : s + 1 < length offsets) (differ : r ≡ s → ⊥) where
    -- an edge of ring s but its last, and any of ring r
    edges_apart : (k l : ℕ) → k + 1 < length (nth_ring c offsets s) → l < length (nth_ring c offsets r)
        → Meet (point_at (nth_ring c offsets s) k) (point_at (nth_ring c offsets s) (k + 1)) (point_at (nth_ring c offsets r) l) (follower (nth_ring c offsets r) l) → ⊥
    edges_apart k l within there m =
        let edge = ring_edge r l is_ring there in
        let count = ring_length r is_ring in
        let other_count = ring_length s is_other in
        let end_below = edge.below in
        let end_from = edge.from in
        let next : offset offsets s + (k + 1) ≡ offset offsets s + k + 1 = omega arith in
        let start_is = ring_read s k is_other (omega (arith, within)) in
        let end_is = ring_read s (k + 1) is_other within ∙ ap (λ n. point_at c n) next in
        let at_is = ring_read r l is_ring there in
        elim (cases_lt r s) [
          | inl before ↦ (let up = rises_to offsets (length offsets) (r + 1) s d.divides.order (omega (arith, before)) (omega (arith, is_other)) in
              let all = ends_within s is_other in
              clear.none (offset offsets r + l) (offset offsets s + k) (record {
                order = omega (arith, there, count, up);
                within = omega (arith, within, other_count, all);
                first_end = edge.end;
                first_follows = edge.after;
                second_end = offset offsets s + k + 1;
                second_follows = ring_step s k is_other within;
                shared = shared c _ _ _ _ _ _ _ _ at_is edge.read start_is end_is (λ e. omega (arith, e, end_below, up)) (λ e. omega (arith, e, there, count, up)) (swapped _ _ _ _ m);
              }))
          | inr after ↦ (let up = rises_to offsets (length offsets) (s + 1) r d.divides.order (omega (arith, after, different after)) (omega (arith, is_ring)) in
              let all = ends_within r is_ring in
              clear.none (offset offsets s + k) (offset offsets r + l) (record {
                order = omega (arith, within, other_count, up);
                within = omega (arith, there, count, all);
                first_end = offset offsets s + k + 1;
                first_follows = ring_step s k is_other within;
                second_end = edge.end;
                second_follows = edge.after;
                shared = shared c _ _ _ _ _ _ _ _ start_is end_is at_is edge.read (λ e. omega (arith, e, within, other_count, up)) (λ e. omega (arith, e, end_from, within, other_count, up)) m;
              }))
        ]
      where
        different : s ≤ r → s < r
        different h = elim (cases_lt s r) [ inl l ↦ l | inr l ↦ absurd (differ (omega (arith, h, l))) ]

    -- ring r winds as often about each point of ring s as about its first
    pub same_about : (m : ℕ) → m < length (nth_ring c offsets s) → winding (nth_ring c offsets r) (point_at (nth_ring c offsets s) m) ≡ winding (nth_ring c offsets r) (point_at (nth_ring c offsets s) 0)
    same_about zero h = refl
    same_about (suc m) h =
        let next : m + 1 ≡ suc m = omega arith in
        let here = same_about_ends (point_at (nth_ring c offsets s) m) (point_at (nth_ring c offsets s) (m + 1)) (nth_ring c offsets r) (λ l there meet. edges_apart m l (omega (arith, h)) there meet) in
        ap (λ n. winding (nth_ring c offsets r) (point_at (nth_ring c offsets s) n)) (sym next) ∙ sym here ∙ same_about m (omega (arith, h))

  module _ (whole : NoDegenerateRing offsets c) (clear : NoContact (IsRingContact offsets c)) where
    -- a ring has a first point
    pub some_point : (k : ℕ) → k + 1 < length offsets → 0 < length (nth_ring c offsets k)
    some_point k is_ring = elim (cases_lt 0 (length (nth_ring c offsets k))) [
      | inl h ↦ h
      | inr h ↦ absurd (whole k (record { is_ring = is_ring; degenerate = inl (omega (arith, h)) }))
    ]

    -- a hole is outside where the outer contour doesn't wind about its first point
    pub outside_at : (k : ℕ) (outer hole : List Point) (b : Bool) → outer ≡ nth_ring c offsets 0 → hole ≡ nth_ring c offsets k → (IsTrue b ↔ (winding outer (point_at hole 0) ≡ pos 0)) → IsHole offsets k → IsTrue b ↔ IsHoleOutside offsets c k
    outside_at k outer hole b is_outer is_hole tells hole_k =
        let not_outer = hole_k.not_outer in
        let is_ring = hole_k.is_ring in (
          λ t. record { is_hole = hole_k; outside = record { vertex = 0; is_vertex = some_point k is_ring; outside = rw (← is_outer, ← is_hole) (tells.0 t) } },
          λ w. tells.1 (rw (is_outer, is_hole) (sym (same_about clear 0 k (omega (arith, is_ring)) is_ring (λ e. omega (arith, e, not_outer)) w.outside.vertex w.outside.is_vertex) ∙ w.outside.outside)),
        )

    -- a hole is within another where that winds about its first point
    pub within_at : (k j : ℕ) (other hole : List Point) (b : Bool) → other ≡ nth_ring c offsets j → hole ≡ nth_ring c offsets k → (IsTrue b ↔ (winding other (point_at hole 0) ≡ pos 0)) → IsHole offsets k → IsHole offsets j → (k ≡ j → ⊥) → IsTrue (not b) ↔ IsHoleWithin offsets c k j
    within_at k j other hole b is_other is_hole tells hole_k hole_j differ = (
      λ t. record {
        is_hole = hole_k;
        other_is_hole = hole_j;
        differ = differ;
        within = record { vertex = 0; is_vertex = some_point k hole_k.is_ring; within = λ e. fails b t (tells.1 (rw (is_other, is_hole) e)) };
      },
      λ w. holds b (λ t. w.within.within (same_about clear j k hole_j.is_ring hole_k.is_ring (λ e. differ (sym e)) w.within.vertex w.within.is_vertex ∙ rw (← is_other, ← is_hole) (tells.0 t))),
    )
      where
        fails : (b : Bool) → IsTrue (not b) → IsTrue b → ⊥
        fails true t u = absurd (cc)
        fails false t u = absurd (cc)

        holds : (b : Bool) → (IsTrue b → ⊥) → IsTrue (not b)
        holds true h = absurd (h refl)
        holds false h = refl
