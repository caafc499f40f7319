-- The touches at one point after another, and the rings that they join.
use Rattle.std.proofs.Common.{◌≡◌, ◌⊎◌, ◌+◌, ◌-◌, ◌<◌, ◌≤◌, ℕ, ℤ, List, length, get_or, slice_range, refl, sym, ap, subst, ◌∙◌, arith, inl, inr}
use Rattle.std.proofs.lemmas.Bool.{cases_lt, cases_eq}
use Rattle.std.proofs.lemmas.List.{length-map}
use Rattle.i_shape_core.specs.Point.{Point}
use Rattle.i_shape_core.specs.Contour.{point_at}
use Rattle.i_shape_core.specs.IntPoint.{point_of}
use Rattle.i_shape_core.specs.Rings.{offset}
use Rattle.i_shape_contacts.specs.declared.plain.Contact.{Contact}
use Rattle.i_shape_contacts.specs.Contacts.{NoContact}
use Rattle.i_shape_contacts.specs.Courses.{DividesPoints}
use Rattle.i_shape_contacts.specs.Listing.{AreBefore}
use Rattle.i_shape_touching.specs.Touching.{IsEdgeOf, IsFaultyContact, SharePoint, AreJoined, AreJoinedTwice, NoneJoinedTwice, IsLess, ClosesCircle, IsFirstCircle}
use Rattle.i_shape_touching.specs.Touching.AreJoined.{same, chain}
use Rattle.i_shape_touching.specs.Steps.Touches.{AreTouches}
use Rattle.i_shape_touching.specs.Steps.Labels.{AreLabels, AreOwn, touch_points, touch_contacts, contact_at, IsGroup, AreOfRings, HaveSameLabel, IsFirstSame, NoneSame, AreLinked, AreMerged}
use Rattle.i_shape_touching.specs.Steps.Labels.AreLinked.{alike, across, back, through}
use Rattle.i_shape_touching.specs.declared.touches.Touch.{Touch}
use Rattle.i_shape_touching.proofs.JoinChains.{less, equal, more, compare, not_less, joined_wider, joined_back, joined_by, joined_through, none_joined, swapped, IsAmong, none_twice}
use Rattle.i_shape_touching.proofs.CircleEdges.{one_ring, rings_share, contact_at as shared_contact}
use Rattle.i_shape_touching.proofs.CircleTouches.{AreAscending, TouchesAt, touch_read, listed_at, shared_at, part_read, part_count}

-- the first touches, up to a place at which another point begins, close no circle, and the labels say which rings they
-- join
pub record IsSearched (offsets : List ℕ) (c ps : List Point) (labels : List ℕ) (from : ℕ) : Type 0 where
  pub within : from ≤ length ps
  pub apart : (i j : ℕ) → i < from → from ≤ j → j < length ps → IsLess (point_at ps i) (point_at ps j)
  pub labels_are : AreLabels offsets c (IsAmong offsets c ps from) labels
  pub none : (p : Point) (i j : ℕ) → IsAmong offsets c ps from p → ClosesCircle offsets c p i j → ⊥

-- edges that close a circle at p are in contact there
touches_there : (offsets : List ℕ) (c : List Point) (p : Point) (i j : ℕ) → ClosesCircle offsets c p i j → TouchesAt offsets c p i j
touches_there offsets c p i j h = record { contact = h.contact; on_first = h.on_first; on_second = h.on_second }

-- before the first touch
pub none_searched : (offsets : List ℕ) (c ps : List Point) (labels : List ℕ) → 0 < length offsets → AreOwn labels (length offsets - 1) → IsSearched offsets c ps labels 0
none_searched offsets c ps labels some own =
    let count = own.count in
    record {
      within = omega arith;
      apart = λ i j h _ _. absurd (omega (arith, h));
      labels_are = record {
        count = omega (arith, count, some);
        same = λ r s h k. (
          λ e. let one : r ≡ s = sym (own.each r (omega (arith, h))) ∙ e ∙ own.each s (omega (arith, k)) in subst (λ t. AreJoined offsets c (IsAmong offsets c ps 0) r t) one same,
          λ j. ap (λ q. get_or labels q 0) (none_joined offsets c r s (joined_wider offsets c (IsAmong offsets c ps 0) (λ q. ⊥) (λ q u v _ a. let b = a.before in absurd (omega (arith, b))) r s j)),
        );
      };
      none = λ p i j a _. let b = a.before in absurd (omega (arith, b));
    }

module _ (offsets : List ℕ) (c : List Point) (d : DividesPoints (length c) offsets) (clear : NoContact (IsFaultyContact offsets c)) where
  -- where two edges close a circle, lesser points and the point itself join their rings
  circle_twice : (p : Point) (i j : ℕ) → (h : ClosesCircle offsets c p i j) → AreJoinedTwice offsets c p h.ring h.other
  circle_twice p i j h = record {
    share = rings_share offsets c d clear i j h.ring h.other p h.contact h.on_first h.on_second h.first_of h.second_of;
    joined = joined_wider offsets c (λ q. IsLess q p) (λ q. q ≡ p → ⊥) (λ q u v _ l e. not_less q p l e) h.ring h.other h.joined;
  }

  -- so where there is a first circle, points join rings twice
  pub circle_parts : (i j : ℕ) → IsFirstCircle offsets c i j → NoneJoinedTwice offsets c → ⊥
  circle_parts i j h none = none h.point h.closes.ring h.closes.other (circle_twice h.point i j h.closes)

-- ---- the touches at one point after another
module _ {I : Type 0} (value : I → ℤ) (offsets : List ℕ) (c : List Point) (d : DividesPoints (length c) offsets) (clear : NoContact (IsFaultyContact offsets c)) (ts : List (Touch I))
    (are : AreTouches value offsets c ts) (sorted : AreAscending (touch_points value ts)) where
  -- the points of the touches
  abbrev ps : List Point
  ps = touch_points value ts

  -- and their contacts
  abbrev qs : List Contact
  qs = touch_contacts ts

  -- there are as many points as touches
  count_points : length ps ≡ length ts
  count_points = length-map ts (λ u. point_of value u.point)

  -- the contacts are of edges of the rings
  pub edges_within : (from to : ℕ) → to ≤ length ts → AreOfRings offsets (touch_contacts (slice_range ts from to))
  edges_within from to h = record {
    first = λ k within. let at = there k within in
        let order = at.contact.order in
        let below = at.contact.within in
        let all = d.all in
        subst (λ (q : Contact). q.first < offset offsets (length offsets - 1)) (sym (part_read ts from to k (inside k within))) (omega (arith, order, below, all));
    second = λ k within. let at = there k within in
        let below = at.contact.within in
        let all = d.all in
        subst (λ (q : Contact). q.second < offset offsets (length offsets - 1)) (sym (part_read ts from to k (inside k within))) (omega (arith, below, all));
  }
    where
      inside : (k : ℕ) → k < length (touch_contacts (slice_range ts from to)) → k < to - from
      inside k within = let count = length-map (slice_range ts from to) (λ u. u.contact) in let part = part_count ts from to h in omega (arith, within, count, part)

      there : (k : ℕ) → k < length (touch_contacts (slice_range ts from to)) → TouchesAt offsets c (point_at ps (from + k)) (contact_at qs (from + k)).first (contact_at qs (from + k)).second
      there k within = let b = inside k within in touch_read value offsets c d clear ts are (from + k) (omega (arith, b, h))

  -- all points that rings share are those of touches
  shared_among : (p : Point) (r s : ℕ) → SharePoint offsets c p r s → IsAmong offsets c ps (length ps) p
  shared_among p r s share = let at = shared_at value offsets c d clear ts are p r s share in record { place = at.place; before = at.within; is = at.point }

  -- after the last touch
  module _ (labels : List ℕ) (from : ℕ) (known : IsSearched offsets c ps labels from) (last : length ts ≤ from) where
    -- no lesser points join two rings that share a point
    closed : (p : Point) (r s : ℕ) → r < s → SharePoint offsets c p r s → AreJoined offsets c (λ q. IsLess q p) r s → ⊥
    closed p r s l share joined =
        let m = shared_contact offsets c d p r s l share in
        let a = shared_among p r s share in
        let b = a.before in
        known.none p m.first m.second (record { place = a.place; before = omega (arith, b, count_points, last); is = a.is }) (record {
          contact = m.contact;
          on_first = m.on_first;
          on_second = m.on_second;
          ring = r;
          first_of = m.first_of;
          other = s;
          second_of = m.second_of;
          joined = joined;
        })

    -- so no points join rings twice
    pub all_searched : NoneJoinedTwice offsets c
    all_searched = none_twice offsets c ps (length ps) open_at (λ i j h k. sorted.ascend i j (omega (arith, h)) k) shared_among
      where
        open_at : (p : Point) (r s : ℕ) → SharePoint offsets c p r s → AreJoined offsets c (λ q. IsLess q p) r s → ⊥
        open_at p r s share joined = elim (cases_lt r s) [
          | inl l ↦ closed p r s l share joined
          | inr l ↦ closed p s r (elim (cases_eq r s) [ inl e ↦ absurd (share.differ e) | inr n ↦ omega (arith, l, n) ]) (swapped offsets c p r s share) (joined_back offsets c (λ q. IsLess q p) r s joined)
        ]

  -- the touches at the next point, at places from `from` to below `to`
  module _ (labels : List ℕ) (from to : ℕ) (known : IsSearched offsets c ps labels from) (group : IsGroup ps from to) where
    -- the point of the group
    abbrev here : Point
    here = point_at ps from

    -- its contacts
    abbrev part : List Contact
    part = touch_contacts (slice_range ts from to)

    -- a point of an earlier touch is less
    earlier_less : (q : Point) → IsAmong offsets c ps from q → IsLess q here
    earlier_less q a =
        let some = group.some in
        let within = group.within in
        subst (λ z. IsLess z here) (sym a.is) (known.apart a.place from a.before (omega arith) (omega (arith, some, within)))

    -- and a touch at a lesser point is earlier
    less_earlier : (k : ℕ) → k < length ps → IsLess (point_at ps k) here → k < from
    less_earlier k h l = elim (cases_lt k from) [ inl b ↦ b | inr b ↦ absurd (sorted.ascend from k b h l) ]

    -- labels tell which rings lesser points join
    joined_label : (r s : ℕ) → r + 1 < length offsets → s + 1 < length offsets → AreJoined offsets c (λ q. IsLess q here) r s → get_or labels r 0 ≡ get_or labels s 0
    joined_label r s h k j = (known.labels_are.same r s h k).1 (joined_wider offsets c (λ q. IsLess q here) (IsAmong offsets c ps from) (λ q u v share l.
        let a = shared_among q u v share in
        record { place = a.place; before = less_earlier a.place a.before (subst (λ z. IsLess z here) a.is l); is = a.is }) r s j)

    -- lesser points join rings with the same label
    label_joined : (r s : ℕ) → r + 1 < length offsets → s + 1 < length offsets → get_or labels r 0 ≡ get_or labels s 0 → AreJoined offsets c (λ q. IsLess q here) r s
    label_joined r s h k e = joined_wider offsets c (IsAmong offsets c ps from) (λ q. IsLess q here) (λ q u v _ a. earlier_less q a) r s ((known.labels_are.same r s h k).0 e)

    -- the points after the group are greater
    later_more : (j : ℕ) → to ≤ j → j < length ps → IsLess here (point_at ps j)
    later_more j h k = elim (compare here (point_at ps j)) [
      | less l ↦ l
      | equal e ↦ absurd (elim (compare here (point_at ps to)) [
        | less l ↦ sorted.ascend to j h k (subst (λ z. IsLess z (point_at ps to)) e l)
        | equal f ↦ group.next (omega (arith, h, k)) (sym f)
        | more l ↦ (let some = group.some in sorted.ascend from to (omega (arith, some)) (omega (arith, h, k)) l)
      ])
      | more l ↦ (let some = group.some in absurd (sorted.ascend from j (omega (arith, some, h)) k l))
    ]

    -- a touch at the point is in the group
    in_group : (k : ℕ) → k < length ps → point_at ps k ≡ here → (from ≤ k) × (k < to)
    in_group k h e = (after, before)
      where
        after : from ≤ k
        after = elim (cases_lt k from) [
          | inl l ↦ absurd (let some = group.some in let within = group.within in not_less _ _ (known.apart k from l (omega arith) (omega (arith, some, within))) e)
          | inr l ↦ l
        ]

        before : k < to
        before = elim (cases_lt k to) [ inl l ↦ l | inr l ↦ absurd (not_less _ _ (later_more k l h) (sym e)) ]

    -- the contact of a touch in the group
    part_at : (k : ℕ) → from ≤ k → k < to → contact_at part (k - from) ≡ contact_at qs k
    part_at k h l = part_read ts from to (k - from) (omega (arith, h, l)) ∙ ap (contact_at qs) (let e : from + (k - from) ≡ k = omega (arith, h) in e)

    -- a contact that closes a circle at the point
    record IsClosing (i j : ℕ) : Type 0 where
      place : ℕ
      within : place < to - from
      contact : contact_at part place ≡ record { first = i; second = j }
      alike : HaveSameLabel offsets labels i j

    -- edges that close a circle at the point are those of a touch in the group, and their rings have the same label
    closing : (p : Point) (i j : ℕ) → p ≡ here → ClosesCircle offsets c p i j → IsClosing i j
    closing p i j e h =
        let at = listed_at value offsets c d clear ts are p i j (touches_there offsets c p i j h) in
        let inside = in_group at.place at.within (sym at.point ∙ e) in
        let low = inside.0 in
        let high = inside.1 in
        record {
          place = at.place - from;
          within = omega (arith, low, high);
          contact = part_at at.place inside.0 inside.1 ∙ at.contact;
          alike = record {
            ring = h.ring;
            first_of = h.first_of;
            other = h.other;
            second_of = h.second_of;
            same = joined_label h.ring h.other h.first_of.is_ring h.second_of.is_ring (subst (λ z. AreJoined offsets c (λ q. IsLess q z) h.ring h.other) e h.joined);
          };
        }

    -- what the search of the group finds closes the first circle
    pub found_first : (it : Contact) → IsFirstSame offsets labels part (length (slice_range ts from to)) it → IsFirstCircle offsets c it.first it.second
    found_first it h =
        let within = group.within in
        let some = group.some in
        let many = part_count ts from to (omega (arith, within, count_points)) in
        let before = h.before in
        let k = from + h.place in
        let below : h.place < to - from = omega (arith, before, many) in
        let is : it ≡ contact_at qs k = h.is ∙ part_read ts from to h.place below in
        let there = group.same k (omega arith) (omega (arith, below, some)) in
        let at = subst (λ p. TouchesAt offsets c p it.first it.second) there (subst (λ (q : Contact). TouchesAt offsets c (point_at ps k) q.first q.second) (sym is) (touch_read value offsets c d clear ts are k (omega (arith, below, within, count_points)))) in
        record {
          point = here;
          closes = record {
            contact = at.contact;
            on_first = at.on_first;
            on_second = at.on_second;
            ring = h.closes.ring;
            first_of = h.closes.first_of;
            other = h.closes.other;
            second_of = h.closes.second_of;
            joined = label_joined h.closes.ring h.closes.other h.closes.first_of.is_ring h.closes.second_of.is_ring h.closes.same;
          };
          least = λ q i j circle l.
              let other = listed_at value offsets c d clear ts are q i j (touches_there offsets c q i j circle) in
              known.none q i j (record { place = other.place; before = less_earlier other.place other.within (subst (λ z. IsLess z here) other.point l); is = other.point }) circle;
          first = λ i j circle b.
              let other = closing here i j refl circle in
              let inside = other.within in
              h.first other.place (omega (arith, inside, many)) (subst (λ (q : Contact). HaveSameLabel offsets labels q.first q.second) (sym other.contact) other.alike)
              (subst (λ (q : Contact). AreBefore it.first it.second q.first q.second) (sym other.contact) b);
        }

    -- ---- the labels after the group
    module _ (after : List ℕ) (nothing : NoneSame offsets labels part (length (slice_range ts from to))) (merged : AreMerged offsets part (length (slice_range ts from to)) labels after) where
      -- a ring has a label
      ring_within : (r : ℕ) → r + 1 < length offsets → r < length labels
      ring_within r h = let count = known.labels_are.count in omega (arith, h, count)

      -- and a label is that of a ring
      within_ring : (r : ℕ) → r < length labels → r + 1 < length offsets
      within_ring r h = let count = known.labels_are.count in omega (arith, h, count)

      -- what links rings joins them
      linked_joined : (r s : ℕ) → AreLinked offsets labels part r s → AreJoined offsets c (IsAmong offsets c ps to) r s
      linked_joined r s (alike h k e) =
          let some = group.some in
          joined_wider offsets c (IsAmong offsets c ps from) (IsAmong offsets c ps to) (λ q u v _ a. let b = a.before in record { place = a.place; before = omega (arith, b, some); is = a.is }) r s
          ((known.labels_are.same r s (within_ring r h) (within_ring s k)).0 e)
      linked_joined r s (across k h first second) =
          let within = group.within in
          let some = group.some in
          let many = part_count ts from to (omega (arith, within, count_points)) in
          let all = length-map (slice_range ts from to) (λ u. u.contact) in
          let below : k < to - from = omega (arith, h, many, all) in
          let is = part_read ts from to k below in
          let at = touch_read value offsets c d clear ts are (from + k) (omega (arith, below, within, count_points)) in
          joined_by offsets c (IsAmong offsets c ps to) (point_at ps (from + k)) r s (record { place = from + k; before = omega (arith, below); is = refl })
          (rings_share offsets c d clear _ _ r s (point_at ps (from + k)) at.contact at.on_first at.on_second
          (subst (λ (q : Contact). IsEdgeOf offsets r q.first) is first) (subst (λ (q : Contact). IsEdgeOf offsets s q.second) is second))
      linked_joined r s (back h) = joined_back offsets c (IsAmong offsets c ps to) s r (linked_joined s r h)
      linked_joined r s (through {s = t} h k) = joined_through offsets c (IsAmong offsets c ps to) r t s (linked_joined r t h) (linked_joined t s k)

      -- a point of the first touches is one before the group, or that of the group
      split : (q : Point) → IsAmong offsets c ps to q → IsAmong offsets c ps from q ⊎ (q ≡ here)
      split q a = elim (cases_lt a.place from) [
        | inl l ↦ inl (record { place = a.place; before = l; is = a.is })
        | inr l ↦ inr (a.is ∙ group.same a.place l a.before)
      ]

      -- rings that share the point have the same label
      shared_label : (r s : ℕ) → SharePoint offsets c here r s → get_or after r 0 ≡ get_or after s 0
      shared_label r s share =
          let at = shared_at value offsets c d clear ts are here r s share in
          let inside = in_group at.place at.within (sym at.point) in
          let low = inside.0 in
          let high = inside.1 in
          let within = group.within in
          let many = part_count ts from to (omega (arith, within, count_points)) in
          let m = subst (λ (q : Contact). HaveSameLabel offsets after q.first q.second) (part_at at.place inside.0 inside.1) (merged.merges (at.place - from) (omega (arith, low, high, many))) in
          go at.place m at.rings
        where
          go : (k : ℕ) → HaveSameLabel offsets after (contact_at qs k).first (contact_at qs k).second
              → (IsEdgeOf offsets r (contact_at qs k).first × IsEdgeOf offsets s (contact_at qs k).second) ⊎ (IsEdgeOf offsets s (contact_at qs k).first × IsEdgeOf offsets r (contact_at qs k).second)
              → get_or after r 0 ≡ get_or after s 0
          go k m (inl e) = ap (λ q. get_or after q 0) (one_ring offsets d.divides _ r m.ring e.0 m.first_of) ∙ m.same ∙ ap (λ q. get_or after q 0) (one_ring offsets d.divides _ m.other s m.second_of e.1)
          go k m (inr e) = sym (ap (λ q. get_or after q 0) (one_ring offsets d.divides _ s m.ring e.0 m.first_of) ∙ m.same ∙ ap (λ q. get_or after q 0) (one_ring offsets d.divides _ m.other r m.second_of e.1))

      -- rings that share one of the first points have the same label
      link_label : (q : Point) (r s : ℕ) → SharePoint offsets c q r s → IsAmong offsets c ps from q ⊎ (q ≡ here) → get_or after r 0 ≡ get_or after s 0
      link_label q r s share (inl a) = merged.keeps r s (ring_within r share.is_ring) (ring_within s share.is_other) ((known.labels_are.same r s share.is_ring share.is_other).1 (joined_by offsets c (IsAmong offsets c ps from) q r s a share))
      link_label q r s share (inr e) = shared_label r s (subst (λ z. SharePoint offsets c z r s) e share)

      -- so rings that such points join have the same
      joined_alike : (r s : ℕ) → AreJoined offsets c (IsAmong offsets c ps to) r s → get_or after r 0 ≡ get_or after s 0
      joined_alike r s same = refl
      joined_alike r s (chain {s = t} q a share rest) = link_label q r t share (split q a) ∙ joined_alike t s rest

      -- none of the first points closes a circle
      none_here : (p : Point) (i j : ℕ) → ClosesCircle offsets c p i j → IsAmong offsets c ps from p ⊎ (p ≡ here) → ⊥
      none_here p i j circle (inl a) = known.none p i j a circle
      none_here p i j circle (inr e) =
          let within = group.within in
          let many = part_count ts from to (omega (arith, within, count_points)) in
          let m = closing p i j e circle in
          let below = m.within in
          nothing.none m.place (omega (arith, below, many)) (subst (λ (q : Contact). HaveSameLabel offsets labels q.first q.second) (sym m.contact) m.alike)

      -- the points up to the group are less than those after it
      apart_later : (i j : ℕ) → i < to → to ≤ j → j < length ps → IsLess (point_at ps i) (point_at ps j)
      apart_later i j h k l = let some = group.some in elim (cases_lt i from) [
        | inl b ↦ known.apart i j b (omega (arith, some, k)) l
        | inr b ↦ subst (λ z. IsLess z (point_at ps j)) (sym (group.same i b h)) (later_more j k l)
      ]

      -- the search goes on after the group
      pub group_searched : IsSearched offsets c ps after to
      group_searched = record {
        within = group.within;
        apart = apart_later;
        labels_are = record {
          count = (let count = known.labels_are.count in let kept = merged.count in omega (arith, count, kept));
          same = λ r s h k. (
            λ e. linked_joined r s (merged.only r s (ring_within r h) (ring_within s k) e),
            λ j. joined_alike r s j,
          );
        };
        none = λ p i j a circle. none_here p i j circle (split p a);
      }
