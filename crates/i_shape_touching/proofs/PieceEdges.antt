-- The edges of rings, by the points and by the rings.
use Rattle.std.proofs.Common.{◌≡◌, ℕ, suc, ℤ, ◌+◌, ◌-◌, ◌<◌, List, length, refl, sym, ap, subst, ◌∙◌, arith, inl, inr}
use Rattle.std.proofs.lemmas.Bool.{cases_lt, cases_eq}
use Rattle.i_shape_core.specs.Point.{Point}
use Rattle.i_shape_core.specs.Contour.{point_at, place_after}
use Rattle.i_shape_core.specs.Rings.{offset, nth_ring}
use Rattle.i_shape_core.proofs.Lists.Rings.{rises_to}
use Rattle.i_shape_core.proofs.Removal.Places.{after_earlier, after_last}
use Rattle.i_shape_contacts.specs.Meeting.{Meet}
use Rattle.i_shape_contacts.specs.Contacts.{IsAfter, IsRingContact, NoContact}
use Rattle.i_shape_contacts.specs.Kinds.{DoCross, DoOverlap, DoTouch, EdgesLie}
use Rattle.i_shape_contacts.specs.Courses.{DividesPoints}
use Rattle.i_shape_contacts.proofs.Apart.{meet_swapped}
use Rattle.i_shape_contacts.proofs.ContactTests.{share_apart}
use Rattle.i_shape_contacts.proofs.Courses.{after_unique}
use Rattle.i_shape_contacts.proofs.Nesting.{ends_within, ring_length, ring_read}
use Rattle.i_shape_touching.specs.Places.{LiesOn, IsOnRing}
use Rattle.i_shape_touching.specs.Touching.{IsEdgeOf, AreTouching, IsFaultyContact}
use Rattle.i_shape_touching.proofs.TouchPoints.{edge_unique}

-- segments that touch do so whichever is named first
overlap_swapped : (a b c e : Point) → DoOverlap a b c e → DoOverlap c e a b
overlap_swapped a b c e o = record {
  divisor = o.divisor;
  positive = o.positive;
  one = o.one;
  one_on_first = o.one_on_second;
  one_on_second = o.one_on_first;
  other = o.other;
  other_on_first = o.other_on_second;
  other_on_second = o.other_on_first;
  differ = o.differ;
}

cross_swapped : (a b c e : Point) → DoCross a b c e → DoCross c e a b
cross_swapped a b c e o = record { second = o.first; first = o.second }

touch_swapped : (a b c e : Point) → DoTouch a b c e → DoTouch c e a b
touch_swapped a b c e t = record {
  meet = meet_swapped a b c e t.meet;
  sole = λ o. t.sole (overlap_swapped c e a b o);
  not_across = λ o. t.not_across (cross_swapped c e a b o);
}

-- the end of an edge of ring r
pub record EdgeEnd (offsets : List ℕ) (r k : ℕ) : Type 0 where
  pub end : ℕ
  pub after : IsAfter offsets k end

-- an edge of ring r, by its place in the ring
pub record InRing (offsets : List ℕ) (c : List Point) (r k m : ℕ) : Type 0 where
  pub place : ℕ
  pub within : place < length (nth_ring c offsets r)
  pub at : offset offsets r + place ≡ k
  pub start : point_at (nth_ring c offsets r) place ≡ point_at c k
  pub stop : point_at (nth_ring c offsets r) (place_after (length (nth_ring c offsets r)) place) ≡ point_at c m

-- a point of ring r lies on one of its edges
pub record OnEdge (offsets : List ℕ) (c : List Point) (r : ℕ) (d : ℤ) (p : Point) : Type 0 where
  pub edge : ℕ
  pub is_edge : IsEdgeOf offsets r edge
  pub end : ℕ
  pub after : IsAfter offsets edge end
  pub on : LiesOn d p (point_at c edge) (point_at c end)

module _ (offsets : List ℕ) (c : List Point) (divides : DividesPoints (length c) offsets) where
  -- an edge is one of the ring in which its end follows it
  pub after_edge : (k m : ℕ) → (f : IsAfter offsets k m) → IsEdgeOf offsets f.ring k
  after_edge k m f = record { is_ring = f.is_ring; from = f.from; below = f.below }

  -- an edge but the last of its ring ends at the next place, and the last at the first
  pub next_of : (r k m : ℕ) → IsEdgeOf offsets r k → IsAfter offsets k m → k + 1 < offset offsets (r + 1) → m ≡ k + 1
  next_of r k m e f l = f.on (subst (λ (s : ℕ). k + 1 < offset offsets (s + 1)) (sym (edge_unique offsets k f.ring r divides.divides (after_edge k m f) e)) l)

  pub first_of : (r k m : ℕ) → IsEdgeOf offsets r k → IsAfter offsets k m → k + 1 ≡ offset offsets (r + 1) → m ≡ offset offsets r
  first_of r k m e f l =
      let same = edge_unique offsets k f.ring r divides.divides (after_edge k m f) e in
      f.round (subst (λ (s : ℕ). k + 1 ≡ offset offsets (s + 1)) (sym same) l) ∙ ap (offset offsets) same

  -- the place after one of a ring is in the ring
  pub after_in : (r k m : ℕ) → IsEdgeOf offsets r k → IsAfter offsets k m → IsEdgeOf offsets r m
  after_in r k m e f =
      let from = e.from in
      let below = e.below in
      elim (cases_lt (k + 1) (offset offsets (r + 1))) [
        | inl l ↦ (let next = next_of r k m e f l in record { is_ring = e.is_ring; from = omega (arith, from, next); below = omega (arith, l, next) })
        | inr l ↦ (let last = first_of r k m e f (omega (arith, l, below)) in record { is_ring = e.is_ring; from = omega (arith, last); below = omega (arith, last, from, below) })
      ]

  -- each edge of a ring has an end
  pub edge_end : (r k : ℕ) → IsEdgeOf offsets r k → EdgeEnd offsets r k
  edge_end r k e =
      let from = e.from in
      let below = e.below in
      elim (cases_lt (k + 1) (offset offsets (r + 1))) [
        | inl l ↦ record {
          end = k + 1;
          after = record { ring = r; is_ring = e.is_ring; from = from; below = below; on = λ h. refl; round = λ h. absurd (omega (arith, h, l)) };
        }
        | inr l ↦ record {
          end = offset offsets r;
          after = record { ring = r; is_ring = e.is_ring; from = from; below = below; on = λ h. absurd (omega (arith, h, l)); round = λ h. refl };
        }
      ]

  -- the points of an edge, read from its ring
  pub in_ring : (r k m : ℕ) → IsEdgeOf offsets r k → IsAfter offsets k m → InRing offsets c r k m
  in_ring r k m e f =
      let from = e.from in
      let below = e.below in
      let count = ring_length offsets c divides r e.is_ring in
      let place = k - offset offsets r in
      let within : place < length (nth_ring c offsets r) = omega (arith, from, below, count) in
      let at : offset offsets r + place ≡ k = omega (arith, from) in
      let end : point_at (nth_ring c offsets r) (place_after (length (nth_ring c offsets r)) place) ≡ point_at c m = elim (cases_lt (place + 1) (length (nth_ring c offsets r))) [
        | inl on ↦ (let next = next_of r k m e f (omega (arith, on, count, at)) in
            let there : offset offsets r + suc place ≡ m = omega (arith, at, next) in
            ap (point_at (nth_ring c offsets r)) (after_earlier (length (nth_ring c offsets r)) place on) ∙ ring_read offsets c divides r (suc place) e.is_ring (omega (arith, on)) ∙ ap (point_at c) there)
        | inr last ↦ (let whole : place + 1 ≡ length (nth_ring c offsets r) = omega (arith, within, last) in
            let round = first_of r k m e f (omega (arith, whole, count, at)) in
            let there : offset offsets r + 0 ≡ m = omega (arith, round) in
            ap (point_at (nth_ring c offsets r)) (after_last (length (nth_ring c offsets r)) place whole) ∙ ring_read offsets c divides r 0 e.is_ring (omega (arith, within)) ∙ ap (point_at c) there)
      ] in
      record {
        place = place;
        within = within;
        at = at;
        start = ring_read offsets c divides r place e.is_ring within ∙ ap (point_at c) at;
        stop = end;
      }

  -- a point of an edge is one of its ring
  pub edge_on_ring : (r k m : ℕ) (n : ℤ) (p : Point) → IsEdgeOf offsets r k → IsAfter offsets k m → LiesOn n p (point_at c k) (point_at c m) → IsOnRing n p (nth_ring c offsets r)
  edge_on_ring r k m n p e f on =
      let i = in_ring r k m e f in
      record {
        place = i.place;
        within = i.within;
        on = subst (λ (a : Point). LiesOn n p a (point_at (nth_ring c offsets r) (place_after (length (nth_ring c offsets r)) i.place))) (sym i.start)
            (subst (λ (b : Point). LiesOn n p (point_at c k) b) (sym i.stop) on);
      }

  -- and back
  pub ring_on_edge : (r : ℕ) (n : ℤ) (p : Point) → r + 1 < length offsets → IsOnRing n p (nth_ring c offsets r) → OnEdge offsets c r n p
  ring_on_edge r n p is_ring h =
      let within = h.within in
      let count = ring_length offsets c divides r is_ring in
      let k = offset offsets r + h.place in
      let e : IsEdgeOf offsets r k = record { is_ring = is_ring; from = omega arith; below = omega (arith, within, count) } in
      let end = edge_end r k e in
      let i = in_ring r k end.end e end.after in
      let at = i.at in
      let place : i.place ≡ h.place = omega (arith, at) in
      record {
        edge = k;
        is_edge = e;
        end = end.end;
        after = end.after;
        on = subst (λ (a : Point). LiesOn n p a (point_at c end.end)) i.start
            (subst (λ (b : Point). LiesOn n p (point_at (nth_ring c offsets r) i.place) b) i.stop
            (subst (λ (j : ℕ). LiesOn n p (point_at (nth_ring c offsets r) j) (point_at (nth_ring c offsets r) (place_after (length (nth_ring c offsets r)) j))) (sym place) h.on));
      }

  -- ---- edges of two rings
  module _ (r s k m j n : ℕ) (first : IsEdgeOf offsets r k) (second : IsEdgeOf offsets s j) (first_after : IsAfter offsets k m) (second_after : IsAfter offsets j n) where
    -- edges that meet are in contact
    ring_contact : r < s → Meet (point_at c k) (point_at c m) (point_at c j) (point_at c n) → IsRingContact offsets c k j
    ring_contact l meet =
        let is_other = second.is_ring in
        let up = rises_to offsets (length offsets) (r + 1) s divides.divides.order (omega (arith, l)) (omega (arith, is_other)) in
        let all = ends_within offsets c divides s is_other in
        let below = first.below in
        let from = second.from in
        let last = second.below in
        let first_end = after_in r k m first first_after in
        let second_end = after_in s j n second second_after in
        let first_end_below = first_end.below in
        let second_end_from = second_end.from in
        record {
          order = omega (arith, below, up, from);
          within = omega (arith, last, all);
          first_end = m;
          first_follows = first_after;
          second_end = n;
          second_follows = second_after;
          shared = (share_apart c k m j n (λ e. omega (arith, e, first_end_below, up, from)) (λ e. omega (arith, e, second_end_from, up, below))).0 meet;
        }

    -- where only touches of two rings are in contact, they touch
    ring_touch : NoContact (IsFaultyContact offsets c) → r < s → Meet (point_at c k) (point_at c m) (point_at c j) (point_at c n) → DoTouch (point_at c k) (point_at c m) (point_at c j) (point_at c n)
    ring_touch clear l meet = record {
      meet = meet;
      sole = λ o. touching (λ t. (same_ends t.touch).sole o);
      not_across = λ o. touching (λ t. (same_ends t.touch).not_across o);
    }
      where
        touching : (AreTouching offsets c k j → ⊥) → ⊥
        touching more = clear.none k j (record { contact = ring_contact l meet; more = more })

        same_ends : EdgesLie DoTouch (IsAfter offsets) c k j → DoTouch (point_at c k) (point_at c m) (point_at c j) (point_at c n)
        same_ends t =
            subst (λ (i : ℕ). DoTouch (point_at c k) (point_at c i) (point_at c j) (point_at c n)) (after_unique offsets k t.first_end m divides.divides t.first_follows first_after)
            (subst (λ (i : ℕ). DoTouch (point_at c k) (point_at c t.first_end) (point_at c j) (point_at c i)) (after_unique offsets j t.second_end n divides.divides t.second_follows second_after) t.lie)

  -- whichever ring is the first
  pub rings_touch : (r s k m j n : ℕ) → IsEdgeOf offsets r k → IsEdgeOf offsets s j → IsAfter offsets k m → IsAfter offsets j n → (r ≡ s → ⊥) → NoContact (IsFaultyContact offsets c)
      → Meet (point_at c k) (point_at c m) (point_at c j) (point_at c n) → DoTouch (point_at c k) (point_at c m) (point_at c j) (point_at c n)
  rings_touch r s k m j n first second first_after second_after differ clear meet = elim (cases_lt r s) [
    | inl l ↦ ring_touch r s k m j n first second first_after second_after clear l meet
    | inr l ↦ elim (cases_eq r s) [
      | inl e ↦ absurd (differ e)
      | inr e ↦ touch_swapped _ _ _ _ (ring_touch s r j n k m second first second_after first_after clear (omega (arith, l, e)) (meet_swapped _ _ _ _ meet))
    ]
  ]

  -- where no edges are in contact, those of two rings don't meet
  pub rings_apart : (r s k m j n : ℕ) → IsEdgeOf offsets r k → IsEdgeOf offsets s j → IsAfter offsets k m → IsAfter offsets j n → (r ≡ s → ⊥) → NoContact (IsRingContact offsets c)
      → Meet (point_at c k) (point_at c m) (point_at c j) (point_at c n) → ⊥
  rings_apart r s k m j n first second first_after second_after differ clear meet = elim (cases_lt r s) [
    | inl l ↦ clear.none k j (ring_contact r s k m j n first second first_after second_after l meet)
    | inr l ↦ elim (cases_eq r s) [
      | inl e ↦ absurd (differ e)
      | inr e ↦ clear.none j k (ring_contact s r j n k m second first second_after first_after (omega (arith, l, e)) (meet_swapped _ _ _ _ meet))
    ]
  ]
