-- A polygon that stays valid: contacts of rings by those of each ring and of two, where zero turns are taken out.
use Rattle.std.proofs.Common.{◌≡◌, ◌≢◌, ◌⊎◌, ℕ, ◌+◌, ◌-◌, ◌<◌, ◌≤◌, List, length, remove, refl, sym, ap, subst, subst₂, ◌∙◌, arith, inl, inr}
use Rattle.std.proofs.lemmas.Bool.{cases_lt, cases_eq}
use Rattle.std.proofs.lemmas.List.Edits.{length-remove}
use Rattle.i_shape_core.specs.Point.{Point, IsZeroTurn}
use Rattle.i_shape_core.specs.Contour.{point_at, place_before, place_after, IsRemovable, Reach, stay, step}
use Rattle.i_shape_core.specs.Rings.{offset, nth_ring}
use Rattle.i_shape_core.specs.Winding.{winding}
use Rattle.i_shape_core.proofs.Lists.Rings.{rises_to}
use Rattle.i_shape_core.proofs.Sums.Windings.{winding_kept}
use Rattle.i_shape_core.proofs.Removal.Places.{Follows, after_is, after_within, before_from, place_stood, stood_point, stood_within}
use Rattle.i_shape_contacts.specs.Meeting.{IsOnSegment, IsPoint, Meet}
use Rattle.i_shape_contacts.specs.Contacts.{SharePoint, IsContact, IsAfter, IsRingContact, NoContact, IsSimplePolygon}
use Rattle.i_shape_contacts.specs.Courses.{DividesPoints}
use Rattle.i_shape_contacts.specs.Validity.{NoDegenerateRing, IsHole, IsHoleOutside, IsHoleWithin, IsValidPolygon}
use Rattle.i_shape_contacts.proofs.Signs.{product_positive}
use Rattle.i_shape_contacts.proofs.Apart.{meet_swapped}
use Rattle.i_shape_contacts.proofs.ContactTests.{share_meets}
use Rattle.i_shape_contacts.proofs.Courses.{after_unique}
use Rattle.i_shape_contacts.proofs.Nesting.{ends_within, ring_length, ring_read}
use Rattle.i_shape_contacts.proofs.Parting.{times_point, segment_scaled, Parted, parted}
use Rattle.i_shape_contacts.proofs.Removal.{edge_stood, Edge, simple_polygon_kept}

-- ---- a contour and a segment
-- no edge of the contour meets the segment
Avoids : List Point → Point → Point → Type 0
Avoids c p q = (j : ℕ) → j < length c → Meet (point_at c j) (point_at c (place_after (length c) j)) p q → ⊥

-- the edge that joins two edges on one line meets no segment that neither meets
joined_avoids : (a b e p q : Point) → IsZeroTurn a b e → (Meet a b p q → ⊥) → (Meet b e p q → ⊥) → Meet a e p q → ⊥
joined_avoids a b e p q straight first second m = go (parted m.divisor m.scaled a b e m.positive straight m.on_first)
  where
    go : Parted m.divisor m.scaled a b e → ⊥
    go t = elim t.on [
      | inl on ↦ first (record { divisor = _; positive = product_positive t.factor m.divisor t.positive m.positive; scaled = times_point t.factor m.scaled; on_first = on; on_second = segment_scaled t.factor m.divisor m.scaled p q t.positive m.on_second })
      | inr on ↦ second (record { divisor = _; positive = product_positive t.factor m.divisor t.positive m.positive; scaled = times_point t.factor m.scaled; on_first = on; on_second = segment_scaled t.factor m.divisor m.scaled p q t.positive m.on_second })
    ]

avoids_without : (c : List Point) (k : ℕ) (p q : Point) → IsRemovable IsZeroTurn c k → Avoids c p q → Avoids (remove c k) p q
unfolding Avoids
avoids_without c k p q w away j hj m =
    go e.joins (subst₂ (λ (a b : Point). Meet a b p q) (stood_point c k j e.start w.within e.starts) (stood_point c k (place_after (length (remove c k)) j) e.end w.within e.ends) m)
  where
    e : Edge c k w.within j
    e = edge_stood c k w.within j hj

    go : ((place_after (length c) e.start ≡ k) × (e.end ≡ place_after (length c) k)) ⊎ ((place_after (length c) e.start ≢ k) × (e.end ≡ place_after (length c) e.start)) → Meet (point_at c e.start) (point_at c e.end) p q → ⊥
    go (inr f) n = away e.start e.within (subst (λ (o : ℕ). Meet (point_at c e.start) (point_at c o) p q) f.1 n)
    go (inl f) n = joined_avoids (point_at c e.start) (point_at c k) (point_at c (place_after (length c) k)) p q
        (subst (λ (o : ℕ). IsZeroTurn (point_at c o) (point_at c k) (point_at c (place_after (length c) k))) before w.passes)
        (λ l. away e.start e.within (subst (λ (o : ℕ). Meet (point_at c e.start) (point_at c o) p q) (sym f.0) l))
        (away k w.within)
        (subst (λ (o : ℕ). Meet (point_at c e.start) (point_at c o) p q) f.1 n)
      where
        before : place_before (length c) k ≡ e.start
        before = before_from (length c) e.start k e.within w.within (subst (λ (z : ℕ). Follows (length c) e.start z) f.0 (after_is (length c) e.start e.within))

avoids_kept : (c d : List Point) (p q : Point) → Reach IsZeroTurn c d → Avoids c p q → Avoids d p q
avoids_kept c d p q stay away = away
avoids_kept c d p q (step {d = m} s r) away = avoids_kept m d p q r (subst (λ (l : List Point). Avoids l p q) (sym s.left) (avoids_without c s.place p q s.removable away))

-- ---- two contours
-- no edges of the two meet
AreApart : List Point → List Point → Type 0
AreApart c d = (j k : ℕ) → j < length c → k < length d → Meet (point_at c j) (point_at c (place_after (length c) j)) (point_at d k) (point_at d (place_after (length d) k)) → ⊥

apart_swapped : (c d : List Point) → AreApart c d → AreApart d c
unfolding AreApart
apart_swapped c d away j k hj hk m = away k j hk hj (meet_swapped _ _ _ _ m)

apart_once : (c e d : List Point) → Reach IsZeroTurn c e → AreApart c d → AreApart e d
unfolding AreApart Avoids
apart_once c e d r away j k hj hk m = avoids_kept c e (point_at d k) (point_at d (place_after (length d) k)) r (λ i hi n. away i k hi hk n) j hj m

apart_kept : (c e d f : List Point) → Reach IsZeroTurn c e → Reach IsZeroTurn d f → AreApart c d → AreApart e f
apart_kept c e d f r s away = apart_swapped f e (apart_once d f e s (apart_swapped e d (apart_once c e d r away)))

-- ---- rings and their contacts
-- the numbers below the end of a part are its start and some more
record IsAt (start count m : ℕ) : Type 0 where
  place : ℕ
  below : place < count
  is : m ≡ start + place

module _ (offsets : List ℕ) (c : List Point) (d : DividesPoints (length c) offsets) where
  abbrev ring : ℕ → List Point
  ring r = nth_ring c offsets r

  -- in ring r, the place after the k-th is that after k on a cycle as long as the ring
  ring_next : (r k : ℕ) → r + 1 < length offsets → k < length (ring r) → IsAfter offsets (offset offsets r + k) (offset offsets r + place_after (length (ring r)) k)
  ring_next r k is_ring within = go (place_after (length (ring r)) k) (after_is (length (ring r)) k within)
    where
      count : length (ring r) + offset offsets r ≡ offset offsets (r + 1)
      count = ring_length offsets c d r is_ring

      go : (m : ℕ) → Follows (length (ring r)) k m → IsAfter offsets (offset offsets r + k) (offset offsets r + m)
      go m F = record {
        ring = r;
        is_ring = is_ring;
        from = omega arith;
        below = omega (arith, within, count);
        on = λ h. on (length (ring r)) (offset offsets r) (offset offsets (r + 1)) k m count F h;
        round = λ e. round (length (ring r)) (offset offsets r) (offset offsets (r + 1)) k m count F e;
      }
        where
          on : (n o e k m : ℕ) → n + o ≡ e → Follows n k m → o + k + 1 < e → o + m ≡ o + k + 1
          on n o e k m f F h = grind arith

          round : (n o e k m : ℕ) → n + o ≡ e → Follows n k m → o + k + 1 ≡ e → o + m ≡ o
          round n o e k m f F h = grind arith

  -- the point there
  next_read : (r k : ℕ) → r + 1 < length offsets → k < length (ring r) → point_at (ring r) (place_after (length (ring r)) k) ≡ point_at c (offset offsets r + place_after (length (ring r)) k)
  next_read r k is_ring within = ring_read offsets c d r (place_after (length (ring r)) k) is_ring (after_within (length (ring r)) k within)

  -- where it is
  place_within : (r k : ℕ) → r + 1 < length offsets → k < length (ring r) → offset offsets r + k < length c
  place_within r k is_ring within =
      let count = ring_length offsets c d r is_ring in
      let all = ends_within offsets c d r is_ring in
      omega (arith, count, all, within)

  module _ (clear : NoContact (IsRingContact offsets c)) where
    none_between : (r s j k : ℕ) → r + 1 < length offsets → s + 1 < length offsets → j < length (ring r) → k < length (ring s) → offset offsets r + j < offset offsets s + k
        → SharePoint c (offset offsets r + j) (offset offsets r + place_after (length (ring r)) j) (offset offsets s + k) (offset offsets s + place_after (length (ring s)) k) → ⊥
    none_between r s j k is_ring is_other hj hk order w = clear.none (offset offsets r + j) (offset offsets s + k) (record {
      order = order;
      within = place_within s k is_other hk;
      first_end = offset offsets r + place_after (length (ring r)) j;
      first_follows = ring_next r j is_ring hj;
      second_end = offset offsets s + place_after (length (ring s)) k;
      second_follows = ring_next s k is_other hk;
      shared = w;
    })

    -- each ring is without contact
    ring_clear : (r : ℕ) → r + 1 < length offsets → NoContact (IsContact (ring r))
    ring_clear r is_ring = record { none = λ j k w. go j k w.order w.within (subst₂ (λ (m o : ℕ). SharePoint (ring r) j m k o) w.first_follows w.second_follows w.shared) }
      where
        go : (j k : ℕ) → j < k → k < length (ring r) → SharePoint (ring r) j (place_after (length (ring r)) j) k (place_after (length (ring r)) k) → ⊥
        go j k order hk w =
            let hj : j < length (ring r) = omega (arith, order, hk) in
            none_between r r j k is_ring is_ring hj hk (omega (arith, order)) (record {
              divisor = w.divisor;
              positive = w.positive;
              scaled = w.scaled;
              on_first = subst₂ (λ (p q : Point). IsOnSegment w.divisor w.scaled p q) (ring_read offsets c d r j is_ring hj) (next_read r j is_ring hj) w.on_first;
              on_second = subst₂ (λ (p q : Point). IsOnSegment w.divisor w.scaled p q) (ring_read offsets c d r k is_ring hk) (next_read r k is_ring hk) w.on_second;
              not_next = λ e at. w.not_next (omega (arith, e)) (subst (λ (q : Point). IsPoint w.divisor w.scaled q) (sym (ring_read offsets c d r k is_ring hk)) at);
              not_before = λ e at. w.not_before (omega (arith, e)) (subst (λ (q : Point). IsPoint w.divisor w.scaled q) (sym (ring_read offsets c d r j is_ring hj)) at);
            })

    -- an earlier and a later ring are apart
    earlier_apart : (r s : ℕ) → r + 1 < length offsets → s + 1 < length offsets → r < s → AreApart (ring r) (ring s)
    unfolding AreApart
    earlier_apart r s is_ring is_other order j k hj hk m =
        none_between r s j k is_ring is_other hj hk (omega (arith, up, count, hj)) (record {
          divisor = m.divisor;
          positive = m.positive;
          scaled = m.scaled;
          on_first = subst₂ (λ (p q : Point). IsOnSegment m.divisor m.scaled p q) (ring_read offsets c d r j is_ring hj) (next_read r j is_ring hj) m.on_first;
          on_second = subst₂ (λ (p q : Point). IsOnSegment m.divisor m.scaled p q) (ring_read offsets c d s k is_other hk) (next_read s k is_other hk) m.on_second;
          not_next = λ e at. beyond e;
          not_before = λ e at. before e;
        })
      where
        up : offset offsets (r + 1) ≤ offset offsets s
        up = rises_to offsets (length offsets) (r + 1) s d.divides.order (omega (arith, order)) (omega (arith, is_other))

        count : length (ring r) + offset offsets r ≡ offset offsets (r + 1)
        count = ring_length offsets c d r is_ring

        beyond : offset offsets r + place_after (length (ring r)) j ≡ offset offsets s + k → ⊥
        beyond e = let next = after_within (length (ring r)) j hj in omega (arith, e, next, up, count)

        before : offset offsets s + place_after (length (ring s)) k ≡ offset offsets r + j → ⊥
        before e = omega (arith, e, hj, up, count)

    rings_apart : (r s : ℕ) → r + 1 < length offsets → s + 1 < length offsets → r ≢ s → AreApart (ring r) (ring s)
    rings_apart r s is_ring is_other differ = elim (cases_lt r s) [
      | inl l ↦ earlier_apart r s is_ring is_other l
      | inr l ↦ apart_swapped (ring s) (ring r) (earlier_apart s r is_other is_ring (omega (arith, l, differ)))
    ]

  -- where an edge is in its ring
  edge_at : (j f : ℕ) (w : IsAfter offsets j f) → (k : ℕ) × (k < length (ring w.ring)) × (j ≡ offset offsets w.ring + k) × (f ≡ offset offsets w.ring + place_after (length (ring w.ring)) k)
  edge_at j f w = (k, within, is, after_unique offsets j f (offset offsets w.ring + place_after (length (ring w.ring)) k) d.divides w (subst (λ (m : ℕ). IsAfter offsets m (offset offsets w.ring + place_after (length (ring w.ring)) k)) (sym is) (ring_next w.ring k w.is_ring within)))
    where
      k : ℕ
      k = j - offset offsets w.ring

      is : j ≡ offset offsets w.ring + (j - offset offsets w.ring)
      is = let from = w.from in omega (arith, from)

      within : j - offset offsets w.ring < length (ring w.ring)
      within = let from = w.from in let below = w.below in let count = ring_length offsets c d w.ring w.is_ring in omega (arith, from, below, count)

  module _ (each : (r : ℕ) → r + 1 < length offsets → NoContact (IsContact (ring r))) (apart : (r s : ℕ) → r + 1 < length offsets → s + 1 < length offsets → r ≢ s → AreApart (ring r) (ring s)) where
    same_ring : (r j k : ℕ) → r + 1 < length offsets → j < k → j < length (ring r) → k < length (ring r)
        → SharePoint c (offset offsets r + j) (offset offsets r + place_after (length (ring r)) j) (offset offsets r + k) (offset offsets r + place_after (length (ring r)) k) → ⊥
    same_ring r j k is_ring order hj hk w = (each r is_ring).none j k (record {
      order = order;
      within = hk;
      first_end = place_after (length (ring r)) j;
      first_follows = refl;
      second_end = place_after (length (ring r)) k;
      second_follows = refl;
      shared = record {
        divisor = w.divisor;
        positive = w.positive;
        scaled = w.scaled;
        on_first = subst₂ (λ (p q : Point). IsOnSegment w.divisor w.scaled p q) (sym (ring_read offsets c d r j is_ring hj)) (sym (next_read r j is_ring hj)) w.on_first;
        on_second = subst₂ (λ (p q : Point). IsOnSegment w.divisor w.scaled p q) (sym (ring_read offsets c d r k is_ring hk)) (sym (next_read r k is_ring hk)) w.on_second;
        not_next = λ e at. w.not_next (ap (λ (m : ℕ). offset offsets r + m) e) (subst (λ (q : Point). IsPoint w.divisor w.scaled q) (ring_read offsets c d r k is_ring hk) at);
        not_before = λ e at. w.not_before (ap (λ (m : ℕ). offset offsets r + m) e) (subst (λ (q : Point). IsPoint w.divisor w.scaled q) (ring_read offsets c d r j is_ring hj) at);
      };
    })

    other_ring : (r s j k : ℕ) → r + 1 < length offsets → s + 1 < length offsets → r ≢ s → j < length (ring r) → k < length (ring s)
        → Meet (point_at c (offset offsets r + j)) (point_at c (offset offsets r + place_after (length (ring r)) j)) (point_at c (offset offsets s + k)) (point_at c (offset offsets s + place_after (length (ring s)) k)) → ⊥
    unfolding AreApart
    other_ring r s j k is_ring is_other differ hj hk m =
        apart r s is_ring is_other differ j k hj hk (record {
          divisor = m.divisor;
          positive = m.positive;
          scaled = m.scaled;
          on_first = subst₂ (λ (p q : Point). IsOnSegment m.divisor m.scaled p q) (sym (ring_read offsets c d r j is_ring hj)) (sym (next_read r j is_ring hj)) m.on_first;
          on_second = subst₂ (λ (p q : Point). IsOnSegment m.divisor m.scaled p q) (sym (ring_read offsets c d s k is_other hk)) (sym (next_read s k is_other hk)) m.on_second;
        })

    any_rings : (r s j k : ℕ) → r + 1 < length offsets → s + 1 < length offsets → offset offsets r + j < offset offsets s + k → j < length (ring r) → k < length (ring s)
        → SharePoint c (offset offsets r + j) (offset offsets r + place_after (length (ring r)) j) (offset offsets s + k) (offset offsets s + place_after (length (ring s)) k) → ⊥
    any_rings r s j k is_ring is_other order hj hk w = elim (cases_eq r s) [
      | inl e ↦ same s j k (subst (λ (q : ℕ). offset offsets q + j < offset offsets s + k) e order) (subst (λ (q : ℕ). j < length (ring q)) e hj) (subst (λ (q : ℕ). SharePoint c (offset offsets q + j) (offset offsets q + place_after (length (ring q)) j) (offset offsets s + k) (offset offsets s + place_after (length (ring s)) k)) e w) is_other hk
      | inr n ↦ other_ring r s j k is_ring is_other n hj hk (share_meets c _ _ _ _ w)
    ]
      where
        same : (s j k : ℕ) → offset offsets s + j < offset offsets s + k → j < length (ring s) → SharePoint c (offset offsets s + j) (offset offsets s + place_after (length (ring s)) j) (offset offsets s + k) (offset offsets s + place_after (length (ring s)) k) → s + 1 < length offsets → k < length (ring s) → ⊥
        same s j k order hj w is_ring hk = same_ring s j k is_ring (omega (arith, order)) hj hk w

    -- rings without contact, each apart from the others, are together without contact
    all_clear : NoContact (IsRingContact offsets c)
    all_clear = record {
      none = λ i j w.
          let a = edge_at i w.first_end w.first_follows in
          let b = edge_at j w.second_end w.second_follows in
          any_rings w.first_follows.ring w.second_follows.ring a.0 b.0 w.first_follows.is_ring w.second_follows.is_ring
          (subst₂ (λ (m o : ℕ). m < o) a.2 b.2 w.order) a.1 b.1
          (placed i w.first_end j w.second_end
          (offset offsets w.first_follows.ring + a.0) (offset offsets w.first_follows.ring + place_after (length (ring w.first_follows.ring)) a.0)
          (offset offsets w.second_follows.ring + b.0) (offset offsets w.second_follows.ring + place_after (length (ring w.second_follows.ring)) b.0)
          a.2 a.3 b.2 b.3 w.shared);
    }
      where
        placed : (i i' j j' m m' o o' : ℕ) → i ≡ m → i' ≡ m' → j ≡ o → j' ≡ o' → SharePoint c i i' j j' → SharePoint c m m' o o'
        placed i i' j j' m m' o o' e f g h w = subst₂ (λ (x y : ℕ). SharePoint c m x o y) f h (subst₂ (λ (x y : ℕ). SharePoint c x i' y j') e g w)

-- ---- vertices
-- a vertex that is left is one that was there
vertex_was : (c d : List Point) → Reach IsZeroTurn c d → (j : ℕ) → j < length d → (m : ℕ) × (m < length c) × (point_at d j ≡ point_at c m)
vertex_was c d stay j hj = (j, hj, refl)
vertex_was c d (step {d = e} s r) j hj = go (vertex_was e d r j hj)
  where
    shorter : length e + 1 ≡ length c
    shorter = ap (λ (l : List Point). length l + 1) s.left ∙ length-remove c s.place s.removable.within

    go : ((m : ℕ) × (m < length e) × (point_at d j ≡ point_at e m)) → (m : ℕ) × (m < length c) × (point_at d j ≡ point_at c m)
    go (m, hm, f) =
        let was = place_stood s.place m in
        (was.0, stood_within (length c) (length e) s.place m was.0 shorter hm was.1, f ∙ ap (λ (l : List Point). point_at l m) s.left ∙ stood_point c s.place m was.0 s.removable.within was.1)

-- ---- polygons
module _ (offsets left : List ℕ) (c e : List Point) (d : DividesPoints (length c) offsets) (l : DividesPoints (length e) left) (count : length left ≡ length offsets)
    (reached : (r : ℕ) → r + 1 < length offsets → Reach IsZeroTurn (nth_ring c offsets r) (nth_ring e left r)) (valid : IsValidPolygon offsets c) where
  back : (r : ℕ) → r + 1 < length left → r + 1 < length offsets
  back r h = omega (arith, h, count)

  was_simple : (r : ℕ) → r + 1 < length offsets → IsSimplePolygon (nth_ring c offsets r)
  was_simple r is_ring = record {
    enough = elim (cases_lt (length (nth_ring c offsets r)) 3) [ inl few ↦ absurd (valid.no_degenerate r (record { is_ring = is_ring; degenerate = inl few })) | inr h ↦ h ];
    differ = λ all. valid.no_degenerate r (record { is_ring = is_ring; degenerate = inr all });
    none = ring_clear offsets c d valid.no_contact r is_ring;
  }

  is_simple : (r : ℕ) → r + 1 < length left → IsSimplePolygon (nth_ring e left r)
  is_simple r h = simple_polygon_kept (nth_ring c offsets r) (nth_ring e left r) (reached r (back r h)) (was_simple r (back r h))

  none_degenerate : NoDegenerateRing left e
  none_degenerate r w = elim w.degenerate [
    | inl few ↦ (let enough = (is_simple r w.is_ring).enough in omega (arith, few, enough))
    | inr all ↦ (is_simple r w.is_ring).differ all
  ]

  was_hole : (r : ℕ) → IsHole left r → IsHole offsets r
  was_hole r w = record { not_outer = w.not_outer; is_ring = back r w.is_ring }

  winds : (r s j m : ℕ) → r + 1 < length offsets → point_at (nth_ring e left s) j ≡ point_at (nth_ring c offsets s) m
      → winding (nth_ring c offsets r) (point_at (nth_ring c offsets s) m) ≡ winding (nth_ring e left r) (point_at (nth_ring e left s) j)
  winds r s j m is_ring f = winding_kept (nth_ring c offsets r) (nth_ring e left r) (reached r is_ring) (point_at (nth_ring c offsets s) m) ∙ ap (λ (p : Point). winding (nth_ring e left r) p) (sym f)

  was_outside : (r : ℕ) → IsHoleOutside left e r → IsHoleOutside offsets c r
  was_outside r w = go (vertex_was (nth_ring c offsets r) (nth_ring e left r) (reached r (back r w.is_hole.is_ring)) w.outside.vertex w.outside.is_vertex)
    where
      go : ((m : ℕ) × (m < length (nth_ring c offsets r)) × (point_at (nth_ring e left r) w.outside.vertex ≡ point_at (nth_ring c offsets r) m)) → IsHoleOutside offsets c r
      go (m, hm, f) = record {
        is_hole = was_hole r w.is_hole;
        outside = record { vertex = m; is_vertex = hm; outside = winds 0 r w.outside.vertex m (let h = back r w.is_hole.is_ring in omega (arith, h)) f ∙ w.outside.outside };
      }

  was_within : (r s : ℕ) → IsHoleWithin left e r s → IsHoleWithin offsets c r s
  was_within r s w = go (vertex_was (nth_ring c offsets r) (nth_ring e left r) (reached r (back r w.is_hole.is_ring)) w.within.vertex w.within.is_vertex)
    where
      go : ((m : ℕ) × (m < length (nth_ring c offsets r)) × (point_at (nth_ring e left r) w.within.vertex ≡ point_at (nth_ring c offsets r) m)) → IsHoleWithin offsets c r s
      go (m, hm, f) = record {
        is_hole = was_hole r w.is_hole;
        other_is_hole = was_hole s w.other_is_hole;
        differ = w.differ;
        within = record { vertex = m; is_vertex = hm; within = λ z. w.within.within (sym (winds s r w.within.vertex m (back s w.other_is_hole.is_ring) f) ∙ z) };
      }

  -- a valid polygon stays valid where zero turns of its rings are removed
  pub valid_kept : IsValidPolygon left e
  valid_kept = record {
    no_degenerate = none_degenerate;
    no_contact = all_clear left e l (λ r h. (is_simple r h).none)
        (λ r s is_ring is_other differ. apart_kept (nth_ring c offsets r) (nth_ring e left r) (nth_ring c offsets s) (nth_ring e left s) (reached r (back r is_ring)) (reached s (back s is_other))
        (rings_apart offsets c d valid.no_contact r s (back r is_ring) (back s is_other) differ));
    no_outside = λ r w. valid.no_outside r (was_outside r w);
    no_within = λ r s w. valid.no_within r s (was_within r s w);
  }
