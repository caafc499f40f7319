-- Edges of two rings that share a point.
use Rattle.std.proofs.Common.{◌≡◌, ℕ, suc, ℤ, pos, ◌+◌, ◌-◌, ◌<◌, ◌≤◌, ◌+ℤ◌, ◌-ℤ◌, ◌*ℤ◌, ◌<ℤ◌, ◌≤ℤ◌, List, [], ◌∷◌, length, refl, sym, ap, ap₂, subst, ◌∙◌, arith, inl, inr}
use Rattle.std.proofs.lemmas.Int.{ints}
use Rattle.std.proofs.lemmas.Bool.{cases_lt}
use Rattle.i_shape_core.specs.Point.{Point}
use Rattle.i_shape_core.specs.Contour.{point_at, place_after}
use Rattle.i_shape_core.specs.Rings.{offset, nth_ring}
use Rattle.i_shape_core.proofs.Arithmetic.Polynomials.{variable, plus, times, minus, by_polynomials}
use Rattle.i_shape_core.proofs.Lists.Rings.{rises_to}
use Rattle.i_shape_core.proofs.Removal.Places.{after_earlier, after_last}
use Rattle.i_shape_contacts.specs.Meeting.{IsOnSegment}
use Rattle.i_shape_contacts.specs.Contacts.{IsAfter, SharePoint as ShareSome, IsRingContact, NoContact}
use Rattle.i_shape_contacts.specs.Courses.{Divides, DividesPoints}
use Rattle.i_shape_contacts.specs.Kinds.{DoOverlap}
use Rattle.i_shape_contacts.proofs.Courses.{after_unique}
use Rattle.i_shape_contacts.proofs.Nesting.{ends_within, ring_length, ring_read}
use Rattle.i_shape_contacts.proofs.Signs.{product_least, product_positive, compared}
use Rattle.i_shape_touching.specs.Places.{LiesOn}
use Rattle.i_shape_touching.specs.Touching.{IsEdgeOf, IsOnEdge, SharePoint, AreTouching, IsFaultyContact}
use Rattle.i_shape_touching.proofs.JoinChains.{less, equal, more, compare, not_less, IsThrough, first_on, second_on}

-- ---- points of segments
-- p lies on the segment from a to b: it is a share of the way, of n
IsShare : ℤ → Point → Point → Point → Type 0
IsShare n p a b = IsOnSegment n (record { x = n *ℤ p.x; y = n *ℤ p.y }) a b

module _ (p a b : Point) where
  -- numbers multiplied by one above 0 stay in order
  order_kept : (m n s : ℤ) → pos 0 <ℤ m → s ≤ℤ n → (m *ℤ s) ≤ℤ (m *ℤ n)
  order_kept m n s h k = up (m *ℤ s) (m *ℤ n) (m *ℤ (n -ℤ s)) factored (product_least m (n -ℤ s) (omega (arith, ints)) (omega (arith, ints)))
    where
      factored : m *ℤ (n -ℤ s) ≡ m *ℤ n -ℤ m *ℤ s
      factored = by_polynomials (m ∷ n ∷ s ∷ [])
          (times (variable 0) (plus (variable 1) (minus (variable 2))))
          (plus (times (variable 0) (variable 1)) (minus (times (variable 0) (variable 2)))) refl

      up : (s t z : ℤ) → z ≡ t -ℤ s → pos 0 ≤ℤ z → s ≤ℤ t
      up s t z e h = omega (arith, ints)

  -- a share of m times n
  more_shares : (m n : ℤ) → pos 0 <ℤ m → IsShare n p a b → IsShare (m *ℤ n) p a b
  unfolding IsShare
  more_shares m n h s = record {
    share = m *ℤ s.share;
    least = product_least m s.share (omega (arith, ints)) s.least;
    most = order_kept m n s.share h s.most;
    x = grouped m n p.x ∙ ap (λ (z : ℤ). m *ℤ z) s.x ∙ factored m n s.share a.x b.x;
    y = grouped m n p.y ∙ ap (λ (z : ℤ). m *ℤ z) s.y ∙ factored m n s.share a.y b.y;
  }
    where
      grouped : (m n z : ℤ) → (m *ℤ n) *ℤ z ≡ m *ℤ (n *ℤ z)
      grouped m n z = by_polynomials (m ∷ n ∷ z ∷ []) (times (times (variable 0) (variable 1)) (variable 2)) (times (variable 0) (times (variable 1) (variable 2))) refl

      factored : (m n s x y : ℤ) → m *ℤ (n *ℤ x +ℤ s *ℤ (y -ℤ x)) ≡ (m *ℤ n) *ℤ x +ℤ (m *ℤ s) *ℤ (y -ℤ x)
      factored m n s x y = by_polynomials (m ∷ n ∷ s ∷ x ∷ y ∷ [])
          (times (variable 0) (plus (times (variable 1) (variable 3)) (times (variable 2) (plus (variable 4) (minus (variable 3))))))
          (plus (times (times (variable 0) (variable 1)) (variable 3)) (times (times (variable 0) (variable 2)) (plus (variable 4) (minus (variable 3))))) refl

  -- the same, with the product the other way round
  more_shares_back : (m n : ℤ) → pos 0 <ℤ n → IsShare m p a b → IsShare (m *ℤ n) p a b
  more_shares_back m n h s = subst (λ (k : ℤ). IsShare k p a b) (by_polynomials (m ∷ n ∷ []) (times (variable 1) (variable 0)) (times (variable 0) (variable 1)) refl) (more_shares n m h s)

  -- a point on a segment is a share of the way, of some number
  share_of : (l : LiesOn (pos 1) p a b) → IsShare l.factor p a b
  unfolding IsShare
  share_of l = subst (λ (k : ℤ). IsOnSegment k (record { x = l.factor *ℤ p.x; y = l.factor *ℤ p.y }) a b) (once l.factor) l.on
    where
      once : (z : ℤ) → z *ℤ pos 1 ≡ z
      once z = omega (arith, ints)

-- p lies on two segments: it is a share of the way on each, of one number
record IsCommon (p a b c e : Point) : Type 0 where
  number : ℤ
  positive : pos 0 <ℤ number
  on_first : IsShare number p a b
  on_second : IsShare number p c e

-- a point on two segments is a share of the way on each, of one number
common : (p a b c e : Point) → LiesOn (pos 1) p a b → LiesOn (pos 1) p c e → IsCommon p a b c e
common p a b c e h k = record {
  number = h.factor *ℤ k.factor;
  positive = product_positive h.factor k.factor h.positive k.positive;
  on_first = more_shares_back p a b h.factor k.factor k.positive (share_of p a b h);
  on_second = more_shares p c e h.factor k.factor h.positive (share_of p c e k);
}

-- numbers that are equal if multiplied by one above 0
cancelled : (n x y : ℤ) → pos 0 <ℤ n → n *ℤ x ≡ n *ℤ y → x ≡ y
cancelled n x y h e = elim (compared x y) [
  | inr l ↦ absurd (apart n y x h l (sym e))
  | inl l ↦ elim (compared y x) [
    | inr k ↦ absurd (apart n x y h k e)
    | inl k ↦ omega (arith, ints)
  ]
]
  where
    apart : (n x y : ℤ) → pos 0 <ℤ n → x <ℤ y → n *ℤ x ≡ n *ℤ y → ⊥
    apart n x y h l e = up (n *ℤ x) (n *ℤ y) (n *ℤ (y -ℤ x)) factored (product_positive n (y -ℤ x) h (omega (arith, ints))) e
      where
        factored : n *ℤ (y -ℤ x) ≡ n *ℤ y -ℤ n *ℤ x
        factored = by_polynomials (n ∷ x ∷ y ∷ [])
            (times (variable 0) (plus (variable 2) (minus (variable 1))))
            (plus (times (variable 0) (variable 2)) (minus (times (variable 0) (variable 1)))) refl

        up : (s t z : ℤ) → z ≡ t -ℤ s → pos 0 <ℤ z → s ≡ t → ⊥
        up s t z e h f = omega (arith, ints)

-- points are equal if their multiples are
same_multiple : (n : ℤ) (p q : Point) → pos 0 <ℤ n → ◌≡◌ {A = Point} (record { x = n *ℤ p.x; y = n *ℤ p.y }) (record { x = n *ℤ q.x; y = n *ℤ q.y }) → p ≡ q
same_multiple n p q h e = ap₂ (λ (x y : ℤ). record { x = x; y = y }) (cancelled n p.x q.x h (ap (λ (v : Point). v.x) e)) (cancelled n p.y q.y h (ap (λ (v : Point). v.y) e))

-- two points of two segments that differ
overlap : (p q a b c e : Point) → IsCommon p a b c e → IsCommon q a b c e → (p ≡ q → ⊥) → DoOverlap a b c e
unfolding IsShare
overlap p q a b c e h k differ = record {
  divisor = h.number *ℤ k.number;
  positive = product_positive h.number k.number h.positive k.positive;
  one = record { x = (h.number *ℤ k.number) *ℤ p.x; y = (h.number *ℤ k.number) *ℤ p.y };
  one_on_first = more_shares_back p a b h.number k.number k.positive h.on_first;
  one_on_second = more_shares_back p c e h.number k.number k.positive h.on_second;
  other = record { x = (h.number *ℤ k.number) *ℤ q.x; y = (h.number *ℤ k.number) *ℤ q.y };
  other_on_first = more_shares q a b h.number k.number h.positive k.on_first;
  other_on_second = more_shares q c e h.number k.number h.positive k.on_second;
  differ = λ same. differ (same_multiple (h.number *ℤ k.number) p q (product_positive h.number k.number h.positive k.positive) same);
}

-- ---- edges
-- the edge from the point at place k of ring r
record RingEdge (offsets : List ℕ) (c : List Point) (r k : ℕ) : Type 0 where
  end : ℕ
  after : IsAfter offsets (offset offsets r + k) end
  read : point_at (nth_ring c offsets r) (place_after (length (nth_ring c offsets r)) k) ≡ point_at c end

module _ (offsets : List ℕ) (d : Divides offsets) where
  -- an edge of a ring is none of a later ring
  before_in : (k r s : ℕ) → IsEdgeOf offsets r k → IsEdgeOf offsets s k → r < s → ⊥
  before_in k r s f g l =
      let rising : offset offsets (r + 1) ≤ offset offsets s = rises_to offsets (length offsets) (r + 1) s d.order (omega (arith, l)) (let h = g.is_ring in omega (arith, h)) in
      let below = f.below in
      let from = g.from in
      omega (arith, rising, below, from)

  -- an edge is one of a single ring
  pub one_ring : (k r s : ℕ) → IsEdgeOf offsets r k → IsEdgeOf offsets s k → r ≡ s
  one_ring k r s f g = elim (cases_lt r s) [
    | inl l ↦ absurd (before_in k r s f g l)
    | inr l ↦ elim (cases_lt s r) [
      | inl b ↦ absurd (before_in k s r g f b)
      | inr b ↦ omega (arith, l, b)
    ]
  ]

module _ (offsets : List ℕ) (c : List Point) (d : DividesPoints (length c) offsets) where
  -- an edge that is followed by another is one of a ring
  pub after_edge : (k m : ℕ) → (f : IsAfter offsets k m) → IsEdgeOf offsets f.ring k
  after_edge k m f = record { is_ring = f.is_ring; from = f.from; below = f.below }

  -- the place after one of a ring is in the ring
  after_in : (r k m : ℕ) → IsEdgeOf offsets r k → IsAfter offsets k m → (offset offsets r ≤ m) × (m < offset offsets (r + 1))
  after_in r k m e f =
      let same = one_ring offsets d.divides k f.ring r (after_edge k m f) e in
      let from = f.from in
      let below = f.below in
      let inside : (offset offsets f.ring ≤ m) × (m < offset offsets (f.ring + 1)) = elim (cases_lt (k + 1) (offset offsets (f.ring + 1))) [
        | inl l ↦ (let next = f.on l in (omega (arith, from, next), omega (arith, l, next)))
        | inr l ↦ (let last = f.round (omega (arith, l, below)) in (omega (arith, last), omega (arith, last, from, below)))
      ] in
      subst (λ (s : ℕ). (offset offsets s ≤ m) × (m < offset offsets (s + 1))) same inside

  -- each place of a ring is that of an edge
  ring_edge : (r k : ℕ) → r + 1 < length offsets → k < length (nth_ring c offsets r) → RingEdge offsets c r k
  ring_edge r k is_ring within =
      let count = ring_length offsets c d r is_ring in
      elim (cases_lt (k + 1) (length (nth_ring c offsets r))) [
        | inl on ↦ (let next : offset offsets r + suc k ≡ offset offsets r + k + 1 = omega arith in record {
          end = offset offsets r + k + 1;
          after = record {
            ring = r;
            is_ring = is_ring;
            from = omega arith;
            below = omega (arith, within, count);
            on = λ h. refl;
            round = λ e. absurd (omega (arith, on, count, e));
          };
          read = ap (point_at (nth_ring c offsets r)) (after_earlier (length (nth_ring c offsets r)) k on) ∙ ring_read offsets c d r (suc k) is_ring (omega (arith, on)) ∙ ap (λ m. point_at c m) next;
        })
        | inr last ↦ (let first : offset offsets r + 0 ≡ offset offsets r = omega arith in
            let whole : k + 1 ≡ length (nth_ring c offsets r) = omega (arith, within, last) in
            record {
              end = offset offsets r;
              after = record {
                ring = r;
                is_ring = is_ring;
                from = omega arith;
                below = omega (arith, within, count);
                on = λ h. absurd (omega (arith, h, whole, count));
                round = λ e. refl;
              };
              read = ap (point_at (nth_ring c offsets r)) (after_last (length (nth_ring c offsets r)) k whole) ∙ ring_read offsets c d r 0 is_ring (omega (arith, within)) ∙ ap (λ m. point_at c m) first;
            })
      ]

  -- p lies on an edge of ring r
  pub record EdgeThrough (p : Point) (r : ℕ) : Type 0 where
    pub edge : ℕ
    pub edge_of : IsEdgeOf offsets r edge
    pub on_edge : IsOnEdge offsets c p edge

  -- a ring through p has an edge through p
  pub edge_through : (p : Point) (r : ℕ) → IsThrough offsets c p r → EdgeThrough p r
  edge_through p r h =
      let place = h.on_ring.place in
      let within = h.on_ring.within in
      let e = ring_edge r place h.is_ring within in
      let count = ring_length offsets c d r h.is_ring in
      record {
        edge = offset offsets r + place;
        edge_of = record { is_ring = h.is_ring; from = omega arith; below = omega (arith, within, count) };
        on_edge = record {
          end = e.end;
          follows = e.after;
          on = subst (λ (b : Point). LiesOn (pos 1) p (point_at c (offset offsets r + place)) b) e.read
              (subst (λ (a : Point). LiesOn (pos 1) p a (point_at (nth_ring c offsets r) (place_after (length (nth_ring c offsets r)) place))) (ring_read offsets c d r place h.is_ring within) h.on_ring.on);
        };
      }

  -- and a ring with an edge through p goes through p
  pub ring_through : (p : Point) (r k : ℕ) → IsEdgeOf offsets r k → IsOnEdge offsets c p k → IsThrough offsets c p r
  ring_through p r k of on =
      let place = k - offset offsets r in
      let from = of.from in
      let below = of.below in
      let count = ring_length offsets c d r of.is_ring in
      let within : place < length (nth_ring c offsets r) = omega (arith, from, below, count) in
      let at : offset offsets r + place ≡ k = omega (arith, from) in
      let e = ring_edge r place of.is_ring within in
      let ends : on.end ≡ e.end = after_unique offsets k on.end e.end d.divides on.follows (subst (λ (m : ℕ). IsAfter offsets m e.end) at e.after) in
      record {
        is_ring = of.is_ring;
        on_ring = record {
          place = place;
          within = within;
          on = subst (λ (b : Point). LiesOn (pos 1) p (point_at (nth_ring c offsets r) place) b) (ap (point_at c) ends ∙ sym e.read)
              (subst (λ (a : Point). LiesOn (pos 1) p a (point_at c on.end)) (sym (ring_read offsets c d r place of.is_ring within ∙ ap (point_at c) at)) on.on);
        };
      }

  -- edges of two rings that are in contact at p
  pub record ContactAt (p : Point) (r s : ℕ) : Type 0 where
    pub first : ℕ
    pub second : ℕ
    pub contact : IsRingContact offsets c first second
    pub on_first : IsOnEdge offsets c p first
    pub on_second : IsOnEdge offsets c p second
    pub first_of : IsEdgeOf offsets r first
    pub second_of : IsEdgeOf offsets s second

  -- edges that share p are in contact there, if neither follows the other
  shared_by : (p : Point) (i i' j j' : ℕ) → IsCommon p (point_at c i) (point_at c i') (point_at c j) (point_at c j') → (i' ≡ j → ⊥) → (j' ≡ i → ⊥) → ShareSome c i i' j j'
  unfolding IsShare
  shared_by p i i' j j' h not_next not_before = record {
    divisor = h.number;
    positive = h.positive;
    scaled = record { x = h.number *ℤ p.x; y = h.number *ℤ p.y };
    on_first = h.on_first;
    on_second = h.on_second;
    not_next = λ same _. not_next same;
    not_before = λ same _. not_before same;
  }

  -- two rings that share p have edges in contact at p
  pub contact_at : (p : Point) (r s : ℕ) → r < s → SharePoint offsets c p r s → ContactAt p r s
  contact_at p r s l h =
      let e = edge_through p r (first_on offsets c p r s h) in
      let f = edge_through p s (second_on offsets c p r s h) in
      let other = h.is_other in
      let up = rises_to offsets (length offsets) (r + 1) s d.divides.order (omega (arith, l)) (omega (arith, other)) in
      let all = ends_within offsets c d s other in
      let below = e.edge_of.below in
      let from = f.edge_of.from in
      let last = f.edge_of.below in
      let first_end = after_in r e.edge e.on_edge.end e.edge_of e.on_edge.follows in
      let second_end = after_in s f.edge f.on_edge.end f.edge_of f.on_edge.follows in
      record {
        first = e.edge;
        second = f.edge;
        contact = record {
          order = omega (arith, below, up, from);
          within = omega (arith, last, all);
          first_end = e.on_edge.end;
          first_follows = e.on_edge.follows;
          second_end = f.on_edge.end;
          second_follows = f.on_edge.follows;
          shared = shared_by p e.edge e.on_edge.end f.edge f.on_edge.end (common p _ _ _ _ e.on_edge.on f.on_edge.on)
              (λ same. omega (arith, same, first_end.1, up, from)) (λ same. omega (arith, same, second_end.0, up, below));
        };
        on_first = e.on_edge;
        on_second = f.on_edge;
        first_of = e.edge_of;
        second_of = f.edge_of;
      }

  -- ---- contacts that are touches
  module _ (clear : NoContact (IsFaultyContact offsets c)) where
    -- a contact is a touch
    touching : (i j : ℕ) → IsRingContact offsets c i j → (AreTouching offsets c i j → ⊥) → ⊥
    touching i j contact not_touch = clear.none i j (record { contact = contact; more = not_touch })

    -- edges in contact are of two rings
    pub two_rings : (i j r s : ℕ) → IsRingContact offsets c i j → IsEdgeOf offsets r i → IsEdgeOf offsets s j → r ≡ s → ⊥
    two_rings i j r s contact first second e = touching i j contact (λ t. t.differ r first (subst (λ (q : ℕ). IsEdgeOf offsets q j) (sym e) second))

    -- a point of an edge lies on the segment to the place that follows
    on_to : (p : Point) (k m : ℕ) → IsOnEdge offsets c p k → IsAfter offsets k m → LiesOn (pos 1) p (point_at c k) (point_at c m)
    on_to p k m on f = subst (λ (n : ℕ). LiesOn (pos 1) p (point_at c k) (point_at c n)) (after_unique offsets k on.end m d.divides on.follows f) on.on

    -- edges in contact don't share two points
    two_points : (i j : ℕ) (p q : Point) → IsRingContact offsets c i j → IsOnEdge offsets c p i → IsOnEdge offsets c p j → IsOnEdge offsets c q i → IsOnEdge offsets c q j → (p ≡ q → ⊥) → ⊥
    two_points i j p q contact pi pj qi qj differ = touching i j contact (λ t. t.touch.lie.sole (overlap p q _ _ _ _
        (common p _ _ _ _ (on_to p i t.touch.first_end pi t.touch.first_follows) (on_to p j t.touch.second_end pj t.touch.second_follows))
        (common q _ _ _ _ (on_to q i t.touch.first_end qi t.touch.first_follows) (on_to q j t.touch.second_end qj t.touch.second_follows)) differ))

    -- and share one point
    pub one_point : (i j : ℕ) (p q : Point) → IsRingContact offsets c i j → IsOnEdge offsets c p i → IsOnEdge offsets c p j → IsOnEdge offsets c q i → IsOnEdge offsets c q j → p ≡ q
    one_point i j p q contact pi pj qi qj = elim (compare p q) [
      | equal e ↦ e
      | less l ↦ absurd (two_points i j p q contact pi pj qi qj (not_less p q l))
      | more l ↦ absurd (two_points i j p q contact pi pj qi qj (λ e. not_less q p l (sym e)))
    ]

    -- the rings of edges in contact share the point
    pub rings_share : (i j r s : ℕ) (p : Point) → IsRingContact offsets c i j → IsOnEdge offsets c p i → IsOnEdge offsets c p j → IsEdgeOf offsets r i → IsEdgeOf offsets s j → SharePoint offsets c p r s
    rings_share i j r s p contact on_first on_second first second = record {
      is_ring = first.is_ring;
      is_other = second.is_ring;
      differ = two_rings i j r s contact first second;
      on_ring = (ring_through p r i first on_first).on_ring;
      on_other = (ring_through p s j second on_second).on_ring;
    }
