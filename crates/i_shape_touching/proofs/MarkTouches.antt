-- Points that edges of two rings share: each is the point of a touch, and each is safe.
use Rattle.std.proofs.Common.{◌≡◌, ℕ, ◌+◌, ◌<◌, List, [], ◌∷◌, length, ℤ, pos, ◌+ℤ◌, ◌-ℤ◌, ◌*ℤ◌, neg_ℤ, ◌<ℤ◌, ◌≤ℤ◌, refl, sym, ap, ap₂, subst, ◌∙◌, arith, ◌⊎◌, inl, inr}
use Rattle.std.proofs.lemmas.Int.{ints}
use Rattle.std.proofs.lemmas.Bool.{cases_lt}
use Rattle.std.proofs.Math.IntN.{*ℤ_comm}
use Rattle.std.specs.Int.{Width}
use Rattle.i_shape_core.specs.Point.{Point, origin}
use Rattle.i_shape_core.specs.Contour.{point_at}
use Rattle.i_shape_core.specs.Rings.{offset}
use Rattle.i_shape_core.specs.IntPoint.{IsSafe, IsSafeContour}
use Rattle.i_shape_core.proofs.Arithmetic.Polynomials.{number, variable, plus, times, minus, by_polynomials}
use Rattle.i_shape_core.proofs.Arithmetic.WholeNumbers.{mul_assoc, zero_of_positive, equal_of_difference, difference_of_equal}
use Rattle.i_shape_contacts.specs.Meeting.{IsOnSegment}
use Rattle.i_shape_contacts.specs.Contacts.{IsAfter, IsRingContact, NoContact}
use Rattle.i_shape_contacts.specs.Courses.{DividesPoints}
use Rattle.i_shape_contacts.specs.Kinds.{DoOverlap}
use Rattle.i_shape_contacts.proofs.Courses.{after_unique}
use Rattle.i_shape_contacts.proofs.Nesting.{ends_within}
use Rattle.i_shape_contacts.proofs.Parting.{times_point, segment_scaled}
use Rattle.i_shape_contacts.proofs.Signs.{compared, product_least, product_positive, mixed_positive}
use Rattle.i_shape_touching.specs.Places.{LiesOn}
use Rattle.i_shape_touching.specs.Touching.{IsEdgeOf, IsOnEdge, IsFaultyContact}
use Rattle.i_shape_touching.specs.Steps.Pieces.{IsShared, IsMark, start, end, shared}

-- ---- one denominator
-- the whole point p is the same share of the way with each multiple of the factor
at_multiple : (k : ℤ) (p a b : Point) → pos 0 <ℤ k → (l : LiesOn (pos 1) p a b) → IsOnSegment (k *ℤ l.factor) (times_point (k *ℤ l.factor) p) a b
at_multiple k p a b h l =
    let s = segment_scaled k (l.factor *ℤ pos 1) (record { x = l.factor *ℤ p.x; y = l.factor *ℤ p.y }) a b h l.on in
    subst (λ (q : Point). IsOnSegment (k *ℤ l.factor) q a b) (ap₂ (λ (x y : ℤ). record { x = x; y = y }) (sym (mul_assoc k l.factor p.x)) (sym (mul_assoc k l.factor p.y)))
    (subst (λ (d : ℤ). IsOnSegment d (times_point k (times_point l.factor p)) a b) (ap (λ (d : ℤ). k *ℤ d) (one_times l.factor)) s)
  where
    one_times : (f : ℤ) → f *ℤ pos 1 ≡ f
    one_times f = omega (arith, ints)

-- the whole point p lies on two segments, with one denominator
record OnBoth (p a b c e : Point) : Type 0 where
  divisor : ℤ
  positive : pos 0 <ℤ divisor
  first : IsOnSegment divisor (times_point divisor p) a b
  second : IsOnSegment divisor (times_point divisor p) c e

-- two denominators have a common multiple
on_both : (p a b c e : Point) → LiesOn (pos 1) p a b → LiesOn (pos 1) p c e → OnBoth p a b c e
on_both p a b c e l m = record {
  divisor = m.factor *ℤ l.factor;
  positive = product_positive m.factor l.factor m.positive l.positive;
  first = at_multiple m.factor p a b m.positive l;
  second = subst (λ (d : ℤ). IsOnSegment d (times_point d p) c e) (*ℤ_comm l.factor m.factor) (at_multiple l.factor p c e l.positive m);
}

-- ---- two points that both segments share
same_by_factors : (n m x y : ℤ) → pos 0 <ℤ n → pos 0 <ℤ m → n *ℤ (m *ℤ x) ≡ m *ℤ (n *ℤ y) → x ≡ y
same_by_factors n m x y hn hm e =
    equal_of_difference x y (zero_of_positive (n *ℤ m) (x -ℤ y) (product_positive n m hn hm) (spread ∙ difference_of_equal _ _ e))
  where
    spread : (n *ℤ m) *ℤ (x -ℤ y) ≡ n *ℤ (m *ℤ x) -ℤ m *ℤ (n *ℤ y)
    spread = by_polynomials (n ∷ m ∷ x ∷ y ∷ []) (times (times (variable 0) (variable 1)) (plus (variable 2) (minus (variable 3))))
        (plus (times (variable 0) (times (variable 1) (variable 2))) (minus (times (variable 1) (times (variable 0) (variable 3))))) refl

-- segments that share two whole points that differ overlap
two_points : (p q a b c e : Point) → OnBoth p a b c e → OnBoth q a b c e → (p ≡ q → ⊥) → DoOverlap a b c e
two_points p q a b c e f g differ =
    let n = f.divisor in
    let m = g.divisor in
    record {
      divisor = m *ℤ n;
      positive = product_positive m n g.positive f.positive;
      one = times_point m (times_point n p);
      one_on_first = segment_scaled m n (times_point n p) a b g.positive f.first;
      one_on_second = segment_scaled m n (times_point n p) c e g.positive f.second;
      other = times_point n (times_point m q);
      other_on_first = subst (λ (d : ℤ). IsOnSegment d (times_point n (times_point m q)) a b) (*ℤ_comm n m) (segment_scaled n m (times_point m q) a b f.positive g.first);
      other_on_second = subst (λ (d : ℤ). IsOnSegment d (times_point n (times_point m q)) c e) (*ℤ_comm n m) (segment_scaled n m (times_point m q) c e f.positive g.second);
      differ = λ same. differ (ap₂ (λ (x y : ℤ). record { x = x; y = y })
          (same_by_factors m n p.x q.x g.positive f.positive (ap (λ (r : Point). r.x) same))
          (same_by_factors m n p.y q.y g.positive f.positive (ap (λ (r : Point). r.y) same)));
    }

-- integers are equal, or they differ
equal_or_not : (x y : ℤ) → (x ≡ y) ⊎ (x ≡ y → ⊥)
equal_or_not x y = elim (compared x y) [
  | inr more ↦ inr (λ e. omega (arith, ints))
  | inl most ↦ elim (compared y x) [
    | inr less ↦ inr (λ e. omega (arith, ints))
    | inl least ↦ inl (omega (arith, ints))
  ]
]

-- points are equal, or they differ
pub same_or_not : (p q : Point) → (p ≡ q) ⊎ (p ≡ q → ⊥)
same_or_not p q = elim (equal_or_not p.x q.x) [
  | inr differ ↦ inr (λ e. differ (ap (λ (r : Point). r.x) e))
  | inl x ↦ elim (equal_or_not p.y q.y) [
    | inr differ ↦ inr (λ e. differ (ap (λ (r : Point). r.y) e))
    | inl y ↦ inl (ap₂ (λ (x y : ℤ). record { x = x; y = y }) x y)
  ]
]

-- ---- edges of two rings
-- an edge is one of the ring of its end
pub edge_of : (offsets : List ℕ) (k m : ℕ) (f : IsAfter offsets k m) → IsEdgeOf offsets f.ring k
edge_of offsets k m f = record { is_ring = f.is_ring; from = f.from; below = f.below }

-- and its end starts another of that ring
pub next_edge_of : (offsets : List ℕ) (k m : ℕ) (f : IsAfter offsets k m) → IsEdgeOf offsets f.ring m
next_edge_of offsets k m f =
    let from = f.from in
    let below = f.below in
    elim (cases_lt (k + 1) (offset offsets (f.ring + 1))) [
      | inl l ↦ (let e = f.on l in record { is_ring = f.is_ring; from = omega (arith, from, e); below = omega (arith, l, e) })
      | inr l ↦ (let e = f.round (omega (arith, l, below)) in record { is_ring = f.is_ring; from = omega (arith, e); below = omega (arith, e, from, below) })
    ]

module _ (offsets : List ℕ) (c : List Point) (divides : DividesPoints (length c) offsets) where
  -- an edge leads from a point of the contour
  pub edge_within : (r k : ℕ) → IsEdgeOf offsets r k → k < length c
  edge_within r k e = let below = e.below in omega (arith, below, ends_within offsets c divides r e.is_ring)

  -- edges of two rings that share a point are in contact
  in_contact : (p : Point) (i j : ℕ) (f : IsOnEdge offsets c p i) (g : IsOnEdge offsets c p j) → ((r : ℕ) → IsEdgeOf offsets r i → IsEdgeOf offsets r j → ⊥) → i < j → IsRingContact offsets c i j
  in_contact p i j f g differ order =
      let both = on_both p _ _ _ _ f.on g.on in
      let first = edge_of offsets i f.end f.follows in
      let second = edge_of offsets j g.end g.follows in
      record {
        order = order;
        within = edge_within g.follows.ring j second;
        first_end = f.end;
        first_follows = f.follows;
        second_end = g.end;
        second_follows = g.follows;
        shared = record {
          divisor = both.divisor;
          positive = both.positive;
          scaled = times_point both.divisor p;
          on_first = both.first;
          on_second = both.second;
          not_next = λ e. absurd (differ f.follows.ring first (subst (λ (m : ℕ). IsEdgeOf offsets f.follows.ring m) e (next_edge_of offsets i f.end f.follows)));
          not_before = λ e. absurd (differ g.follows.ring (subst (λ (m : ℕ). IsEdgeOf offsets g.follows.ring m) e (next_edge_of offsets j g.end g.follows)) second);
        };
      }

  module _ (clear : NoContact (IsFaultyContact offsets c)) where
    -- edges in contact are of two rings
    pub rings_differ : (i j : ℕ) → IsRingContact offsets c i j → (r : ℕ) → IsEdgeOf offsets r i → IsEdgeOf offsets r j → ⊥
    rings_differ i j contact r f g = clear.none i j (record { contact = contact; more = λ t. t.differ r f g })

    -- two edges in contact share one point
    one_point : (p q : Point) (i j : ℕ) → IsRingContact offsets c i j → IsOnEdge offsets c p i → IsOnEdge offsets c p j → IsOnEdge offsets c q i → IsOnEdge offsets c q j → p ≡ q
    one_point p q i j contact f g h k = elim (same_or_not p q) [
      | inl e ↦ e
      | inr differ ↦ absurd (clear.none i j (record {
        contact = contact;
        more = λ t.
            (let fe = after_unique offsets i f.end t.touch.first_end divides.divides f.follows t.touch.first_follows in
            let he = after_unique offsets i h.end t.touch.first_end divides.divides h.follows t.touch.first_follows in
            let ge = after_unique offsets j g.end t.touch.second_end divides.divides g.follows t.touch.second_follows in
            let ke = after_unique offsets j k.end t.touch.second_end divides.divides k.follows t.touch.second_follows in
            let b = point_at c t.touch.first_end in
            let e = point_at c t.touch.second_end in
            let pf : LiesOn (pos 1) p (point_at c i) b = subst (λ (m : ℕ). LiesOn (pos 1) p (point_at c i) (point_at c m)) fe f.on in
            let pg : LiesOn (pos 1) p (point_at c j) e = subst (λ (m : ℕ). LiesOn (pos 1) p (point_at c j) (point_at c m)) ge g.on in
            let qf : LiesOn (pos 1) q (point_at c i) b = subst (λ (m : ℕ). LiesOn (pos 1) q (point_at c i) (point_at c m)) he h.on in
            let qg : LiesOn (pos 1) q (point_at c j) e = subst (λ (m : ℕ). LiesOn (pos 1) q (point_at c j) (point_at c m)) ke k.on in
            t.touch.lie.sole (two_points p q (point_at c i) b (point_at c j) e (on_both p _ _ _ _ pf pg) (on_both q _ _ _ _ qf qg) differ));
      }))
    ]

    -- edge k and another are in contact, one before the other, and p is the one point that they share
    pub record Contacted (k : ℕ) (p : Point) : Type 0 where
      pub first : ℕ
      pub second : ℕ
      pub contact : IsRingContact offsets c first second
      pub is_one : (k ≡ first) ⊎ (k ≡ second)
      pub sole : (q : Point) → IsOnEdge offsets c q first → IsOnEdge offsets c q second → q ≡ p

    -- where edge k shares p with another ring
    pub contacted : (k : ℕ) (p : Point) → IsShared offsets c k p → Contacted k p
    contacted k p s = elim (cases_lt k s.other) [
      | inl l ↦ (let contact = in_contact p k s.other s.on_edge s.on_other s.differ l in record {
        first = k;
        second = s.other;
        contact = contact;
        is_one = inl refl;
        sole = λ q f g. one_point q p k s.other contact f g s.on_edge s.on_other;
      })
      | inr l ↦ elim (cases_lt s.other k) [
        | inl m ↦ (let contact = in_contact p s.other k s.on_other s.on_edge (λ r f g. s.differ r g f) m in record {
          first = s.other;
          second = k;
          contact = contact;
          is_one = inr refl;
          sole = λ q f g. one_point q p s.other k contact f g s.on_other s.on_edge;
        })
        | inr m ↦ (let same : k ≡ s.other = omega (arith, l, m) in
            let mine = edge_of offsets k s.on_edge.end s.on_edge.follows in
            absurd (s.differ s.on_edge.follows.ring mine (subst (λ (n : ℕ). IsEdgeOf offsets s.on_edge.follows.ring n) same mine)))
      ]
    ]

-- ---- safe points
positive_factor : (f z : ℤ) → pos 0 <ℤ f → pos 0 <ℤ (f *ℤ z) → pos 0 <ℤ z
positive_factor f z h k = elim (compared z (pos 0)) [
  | inr more ↦ more
  | inl most ↦ absurd (never (f *ℤ z) (f *ℤ (pos 0 -ℤ z)) turned (product_least f (pos 0 -ℤ z) (omega (arith, ints)) (omega (arith, ints))) k)
]
  where
    turned : f *ℤ (pos 0 -ℤ z) ≡ neg_ℤ (f *ℤ z)
    turned = by_polynomials (f ∷ z ∷ []) (times (variable 0) (plus (number (pos 0)) (minus (variable 1)))) (minus (times (variable 0) (variable 1))) refl

    never : (u v : ℤ) → v ≡ neg_ℤ u → pos 0 ≤ℤ v → pos 0 <ℤ u → ⊥
    never u v e h k = omega (arith, ints)

-- a number between two that are in a range is in it
between_safe : (w f s a b x : ℤ) → pos 0 <ℤ f → pos 0 ≤ℤ s → s ≤ℤ f → f *ℤ x ≡ f *ℤ a +ℤ s *ℤ (b -ℤ a) → (neg_ℤ w <ℤ a) × (a <ℤ w) → (neg_ℤ w <ℤ b) × (b <ℤ w) → (neg_ℤ w <ℤ x) × (x <ℤ w)
between_safe w f s a b x hf least most e sa sb =
    let al = sa.0 in
    let ah = sa.1 in
    let bl = sb.0 in
    let bh = sb.1 in
    let low = positive_factor f (x +ℤ w) hf (subst (λ (z : ℤ). pos 0 <ℤ z) (sym (low_is ∙ ap (λ (z : ℤ). z +ℤ f *ℤ w) e ∙ low_mix)) (mixed_positive (f -ℤ s) s (a +ℤ w) (b +ℤ w) (omega (arith, ints)) least (omega (arith, ints)) (omega (arith, ints)) (omega (arith, ints)))) in
    let high = positive_factor f (w -ℤ x) hf (subst (λ (z : ℤ). pos 0 <ℤ z) (sym (high_is ∙ ap (λ (z : ℤ). f *ℤ w -ℤ z) e ∙ high_mix)) (mixed_positive (f -ℤ s) s (w -ℤ a) (w -ℤ b) (omega (arith, ints)) least (omega (arith, ints)) (omega (arith, ints)) (omega (arith, ints)))) in
    (omega (arith, ints), omega (arith, ints))
  where
    low_is : f *ℤ (x +ℤ w) ≡ f *ℤ x +ℤ f *ℤ w
    low_is = by_polynomials (f ∷ x ∷ w ∷ []) (times (variable 0) (plus (variable 1) (variable 2))) (plus (times (variable 0) (variable 1)) (times (variable 0) (variable 2))) refl

    low_mix : f *ℤ a +ℤ s *ℤ (b -ℤ a) +ℤ f *ℤ w ≡ (f -ℤ s) *ℤ (a +ℤ w) +ℤ s *ℤ (b +ℤ w)
    low_mix = by_polynomials (f ∷ s ∷ a ∷ b ∷ w ∷ [])
        (plus (plus (times (variable 0) (variable 2)) (times (variable 1) (plus (variable 3) (minus (variable 2))))) (times (variable 0) (variable 4)))
        (plus (times (plus (variable 0) (minus (variable 1))) (plus (variable 2) (variable 4))) (times (variable 1) (plus (variable 3) (variable 4)))) refl

    high_is : f *ℤ (w -ℤ x) ≡ f *ℤ w -ℤ f *ℤ x
    high_is = by_polynomials (f ∷ x ∷ w ∷ []) (times (variable 0) (plus (variable 2) (minus (variable 1)))) (plus (times (variable 0) (variable 2)) (minus (times (variable 0) (variable 1)))) refl

    high_mix : f *ℤ w -ℤ (f *ℤ a +ℤ s *ℤ (b -ℤ a)) ≡ (f -ℤ s) *ℤ (w -ℤ a) +ℤ s *ℤ (w -ℤ b)
    high_mix = by_polynomials (f ∷ s ∷ a ∷ b ∷ w ∷ [])
        (plus (times (variable 0) (variable 4)) (minus (plus (times (variable 0) (variable 2)) (times (variable 1) (plus (variable 3) (minus (variable 2)))))))
        (plus (times (plus (variable 0) (minus (variable 1))) (plus (variable 4) (minus (variable 2)))) (times (variable 1) (plus (variable 4) (minus (variable 3))))) refl

-- a whole point on a segment between safe points is safe
lies_safe : (width : Width) (p a b : Point) → LiesOn (pos 1) p a b → IsSafe width a → IsSafe width b → IsSafe width p
lies_safe width p a b l sa sb =
    let f = l.factor in
    let most : l.on.share ≤ℤ f = subst (λ (z : ℤ). l.on.share ≤ℤ z) (one_times f) l.on.most in (
      between_safe _ f l.on.share a.x b.x p.x l.positive l.on.least most (l.on.x ∙ ap (λ (z : ℤ). z *ℤ a.x +ℤ l.on.share *ℤ (b.x -ℤ a.x)) (one_times f)) sa.0 sb.0,
      between_safe _ f l.on.share a.y b.y p.y l.positive l.on.least most (l.on.y ∙ ap (λ (z : ℤ). z *ℤ a.y +ℤ l.on.share *ℤ (b.y -ℤ a.y)) (one_times f)) sa.1 sb.1,
    )
  where
    one_times : (f : ℤ) → f *ℤ pos 1 ≡ f
    one_times f = omega (arith, ints)

module _ (width : Width) (offsets : List ℕ) (c : List Point) (divides : DividesPoints (length c) offsets) (safe : IsSafeContour width c) where
  -- a mark of an edge between safe points is safe
  pub mark_safe : (k : ℕ) (p : Point) → IsMark offsets c k p → IsSafe width p
  mark_safe k p (start h e) = subst (IsSafe width) (sym e) (safe k origin h)
  mark_safe k p (end m f e) = subst (IsSafe width) (sym e) (safe m origin (edge_within offsets c divides f.ring m (next_edge_of offsets k m f)))
  mark_safe k p (shared s) =
      let f = s.on_edge.follows in
      let k_within = edge_within offsets c divides f.ring k (edge_of offsets k s.on_edge.end f) in
      let end_within = edge_within offsets c divides f.ring s.on_edge.end (next_edge_of offsets k s.on_edge.end f) in
      lies_safe width p (point_at c k) (point_at c s.on_edge.end) s.on_edge.on (safe k origin k_within) (safe s.on_edge.end origin end_within)
