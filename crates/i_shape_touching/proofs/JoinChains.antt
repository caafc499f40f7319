-- Chains of rings, each of which shares a point with the next.
use Rattle.std.proofs.Common.{◌≡◌, ◌⊎◌, ℕ, zero, suc, ℤ, pos, ◌+◌, ◌<◌, ◌≤◌, ◌<ℤ◌, List, length, refl, sym, ap, ap₂, subst, ◌∙◌, arith, inl, inr, Ordering, Less, Equal, Greater}
use Rattle.std.specs.Ordering.{MatchOrdering, int_cmp}
use Rattle.std.proofs.lemmas.Cmp.{int_ranked}
use Rattle.std.proofs.lemmas.Int.{ints}
use Rattle.std.proofs.lemmas.Bool.{cases_eq}
use Rattle.i_shape_core.specs.Point.{Point}
use Rattle.i_shape_core.specs.Contour.{point_at}
use Rattle.i_shape_core.specs.Rings.{nth_ring}
use Rattle.i_shape_touching.specs.Places.{IsOnRing}
use Rattle.i_shape_touching.specs.Touching.{SharePoint, AreJoined, NoneJoinedTwice, IsLess}
use Rattle.i_shape_touching.specs.Touching.AreJoined.{same, chain}

-- ---- the order of points
-- of two points one is less, or they are equal
pub data Compared (p q : Point) : Type 0 where
  less : IsLess p q → Compared p q
  equal : p ≡ q → Compared p q
  more : IsLess q p → Compared p q

-- of two numbers one is less, or they are equal
cases_int : (x y : ℤ) → (x <ℤ y) ⊎ ((x ≡ y) ⊎ (y <ℤ x))
cases_int x y = go (int_cmp x y) (int_ranked x y (int_cmp x y) refl)
  where
    go : (r : Ordering) → MatchOrdering r (x <ℤ y) (x ≡ y) (y <ℤ x) → (x <ℤ y) ⊎ ((x ≡ y) ⊎ (y <ℤ x))
    go Less h = inl h
    go Equal h = inr (inl h)
    go Greater h = inr (inr h)

-- any two points are so
pub compare : (p q : Point) → Compared p q
compare p q = elim (cases_int p.x q.x) [
  | inl h ↦ less (inl h)
  | inr (inl e) ↦ elim (cases_int p.y q.y) [
    | inl h ↦ less (inr (e, h))
    | inr (inl f) ↦ equal (ap₂ (λ (x y : ℤ). record { x = x; y = y }) e f)
    | inr (inr h) ↦ more (inr (sym e, h))
  ]
  | inr (inr h) ↦ more (inl h)
]

-- a point less than a lesser one is less
pub less_through : (p q r : Point) → IsLess p q → IsLess q r → IsLess p r
less_through p q r (inl h) (inl k) = inl (omega (arith, ints))
less_through p q r (inl h) (inr k) = inl (omega (arith, ints))
less_through p q r (inr h) (inl k) = inl (omega (arith, ints))
less_through p q r (inr h) (inr k) = inr (h.0 ∙ k.0, omega (arith, ints))

-- no point is less than itself
pub not_less : (p q : Point) → IsLess p q → p ≡ q → ⊥
not_less p q (inl h) e = let f = ap (λ (v : Point). v.x) e in omega (arith, ints, f)
not_less p q (inr h) e = let f = ap (λ (v : Point). v.y) e in omega (arith, ints, f)

-- nor is each of two less than the other
pub not_both : (p q : Point) → IsLess p q → IsLess q p → ⊥
not_both p q h k = not_less p p (less_through p q p h k) refl

-- ---- chains
module _ (offsets : List ℕ) (c : List Point) where
  -- rings share a point in either order
  pub swapped : (p : Point) (r s : ℕ) → SharePoint offsets c p r s → SharePoint offsets c p s r
  swapped p r s h = record { is_ring = h.is_other; is_other = h.is_ring; differ = λ e. h.differ (sym e); on_ring = h.on_other; on_other = h.on_ring }

  -- chains that meet are one
  pub joined_through : (J : Point → Type 0) (r s t : ℕ) → AreJoined offsets c J r s → AreJoined offsets c J s t → AreJoined offsets c J r t
  joined_through J r s t same k = k
  joined_through J r s t (chain {s = u} p j share rest) k = chain p j share (joined_through J u s t rest k)

  -- rings that share a point are joined by it
  pub joined_by : (J : Point → Type 0) (p : Point) (r s : ℕ) → J p → SharePoint offsets c p r s → AreJoined offsets c J r s
  joined_by J p r s j share = chain p j share same

  -- a chain can be read backwards
  pub joined_back : (J : Point → Type 0) (r s : ℕ) → AreJoined offsets c J r s → AreJoined offsets c J s r
  joined_back J r s same = same
  joined_back J r s (chain {s = u} p j share rest) = joined_through J s u r (joined_back J u s rest) (joined_by J p u r j (swapped p r u share))

  -- a chain by some points is one by others
  pub joined_wider : (J K : Point → Type 0) → ((p : Point) (r s : ℕ) → SharePoint offsets c p r s → J p → K p) → (r s : ℕ) → AreJoined offsets c J r s → AreJoined offsets c K r s
  joined_wider J K wider r s same = same
  joined_wider J K wider r s (chain {s = u} p j share rest) = chain p (wider p r u share j) share (joined_wider J K wider u s rest)

  -- ring r goes through p
  pub record IsThrough (p : Point) (r : ℕ) : Type 0 where
    pub is_ring : r + 1 < length offsets
    pub on_ring : IsOnRing (pos 1) p (nth_ring c offsets r)

  -- the first of two rings that share p goes through p
  pub first_on : (p : Point) (r s : ℕ) → SharePoint offsets c p r s → IsThrough p r
  first_on p r s h = record { is_ring = h.is_ring; on_ring = h.on_ring }

  -- and so does the second
  pub second_on : (p : Point) (r s : ℕ) → SharePoint offsets c p r s → IsThrough p s
  second_on p r s h = record { is_ring = h.is_other; on_ring = h.on_other }

  -- two rings through p are one, or share p
  share : (p : Point) (r s : ℕ) → IsThrough p r → IsThrough p s → (r ≡ s) ⊎ SharePoint offsets c p r s
  share p r s h k = elim (cases_eq r s) [
    | inl e ↦ inl e
    | inr n ↦ inr (record { is_ring = h.is_ring; is_other = k.is_ring; differ = n; on_ring = h.on_ring; on_other = k.on_ring })
  ]

  -- a chain from r to t goes through m: it comes to m before by points for which A is true, and leaves it by such points
  record Through (A : Point → Type 0) (m : Point) (r t : ℕ) : Type 0 where
    into : ℕ
    into_on : IsThrough m into
    before : AreJoined offsets c A r into
    from : ℕ
    from_on : IsThrough m from
    after : AreJoined offsets c A from t

  -- a chain by m and such points uses only such points, or goes through m
  through : (A : Point → Type 0) (m : Point) (r t : ℕ) → AreJoined offsets c (λ q. (q ≡ m) ⊎ A q) r t → AreJoined offsets c A r t ⊎ Through A m r t
  through A m r t same = inl same
  through A m r t (chain {s = s} p j sh rest) = go p j sh (through A m s t rest)
    where
      go : (p : Point) → (p ≡ m) ⊎ A p → SharePoint offsets c p r s → AreJoined offsets c A s t ⊎ Through A m s t → AreJoined offsets c A r t ⊎ Through A m r t
      go p (inr a) sh (inl k) = inl (chain p a sh k)
      go p (inr a) sh (inr k) = inr (record { into = k.into; into_on = k.into_on; before = chain p a sh k.before; from = k.from; from_on = k.from_on; after = k.after })
      go p (inl e) sh (inl k) = inr (record { into = r; into_on = subst (λ q. IsThrough q r) e (first_on p r s sh); before = same; from = s; from_on = subst (λ q. IsThrough q s) e (second_on p r s sh); after = k })
      go p (inl e) sh (inr k) = inr (record { into = r; into_on = subst (λ q. IsThrough q r) e (first_on p r s sh); before = same; from = k.from; from_on = k.from_on; after = k.after })

  -- a chain by no points
  pub none_joined : (r s : ℕ) → AreJoined offsets c (λ q. ⊥) r s → r ≡ s
  none_joined r s same = refl
  none_joined r s (chain p j sh rest) = absurd j

  -- q is one of the first n of the points
  pub record IsAmong (ps : List Point) (n : ℕ) (q : Point) : Type 0 where
    pub place : ℕ
    pub before : place < n
    pub is : q ≡ point_at ps place

  -- where no lesser points join two rings that share a point, and all shared points are among the first of some points
  -- that ascend, no other points join the two
  module _ (ps : List Point) (n : ℕ) (open_at : (p : Point) (r s : ℕ) → SharePoint offsets c p r s → AreJoined offsets c (λ q. IsLess q p) r s → ⊥)
      (ascend : (i j : ℕ) → i < j → j < n → IsLess (point_at ps j) (point_at ps i) → ⊥) where
    -- one of the first k points, other than p
    abbrev Other : Point → ℕ → Point → Type 0
    Other p k q = (q ≡ p → ⊥) × IsAmong ps k q

    -- and less than point k
    abbrev Lower : Point → ℕ → Point → Type 0
    Lower p k q = IsLess q (point_at ps k) × Other p k q

    -- of the first k + 1 points each is equal to point k, or is less than it and one of the first k
    split : (p : Point) (k : ℕ) (q : Point) → k < n → Other p (suc k) q → (q ≡ point_at ps k) ⊎ Lower p k q
    split p k q h a = go (compare q (point_at ps k))
      where
        go : Compared q (point_at ps k) → (q ≡ point_at ps k) ⊎ Lower p k q
        go (equal e) = inl e
        go (less l) = inr (l, (a.0, record { place = a.1.place; before = earlier; is = a.1.is }))
          where
            earlier : a.1.place < k
            earlier = elim (cases_eq a.1.place k) [
              | inl e ↦ absurd (not_less q (point_at ps k) l (a.1.is ∙ ap (point_at ps) e))
              | inr d ↦ (let b = a.1.before in omega (arith, b, d))
            ]
        go (more l) = elim (cases_eq a.1.place k) [
          | inl e ↦ inl (a.1.is ∙ ap (point_at ps) e)
          | inr d ↦ (let b = a.1.before in absurd (ascend a.1.place k (omega (arith, b, d)) h (subst (λ z. IsLess (point_at ps k) z) a.1.is l)))
        ]

    -- rings that share p, and other points of the first k + 1, the greatest of which is greater than p
    by_greatest : (k : ℕ) (p : Point) (r s : ℕ) → SharePoint offsets c p r s → IsLess p (point_at ps k) → (AreJoined offsets c (Other p k) r s → ⊥)
        → AreJoined offsets c (Lower p k) r s ⊎ Through (Lower p k) (point_at ps k) r s → ⊥
    by_greatest k p r s sh l fewer (inl j) = fewer (joined_wider (Lower p k) (Other p k) (λ q u v _ a. a.1) r s j)
    by_greatest k p r s sh l fewer (inr t) = elim (share (point_at ps k) t.from t.into t.from_on t.into_on) [
      | inl e ↦ fewer (joined_through (Other p k) r t.into s (joined_wider (Lower p k) (Other p k) (λ q u v _ a. a.1) r t.into t.before)
          (subst (λ u. AreJoined offsets c (Other p k) u s) e (joined_wider (Lower p k) (Other p k) (λ q u v _ a. a.1) t.from s t.after)))
      | inr both ↦ open_at (point_at ps k) t.from t.into both
          (joined_through (λ q. IsLess q (point_at ps k)) t.from s t.into (joined_wider (Lower p k) (λ q. IsLess q (point_at ps k)) (λ q u v _ a. a.0) t.from s t.after)
          (joined_through (λ q. IsLess q (point_at ps k)) s r t.into (joined_by (λ q. IsLess q (point_at ps k)) p s r l (swapped p r s sh))
          (joined_wider (Lower p k) (λ q. IsLess q (point_at ps k)) (λ q u v _ a. a.0) r t.into t.before)))
    ]

    -- if the first k points join no rings again, the first k + 1 don't
    one_more : (k : ℕ) → k < n → ((p : Point) (r s : ℕ) → SharePoint offsets c p r s → AreJoined offsets c (Other p k) r s → ⊥)
        → (p : Point) (r s : ℕ) → SharePoint offsets c p r s → AreJoined offsets c (Other p (suc k)) r s → ⊥
    one_more k h fewer p r s sh j = go (compare p (point_at ps k))
      where
        go : Compared p (point_at ps k) → ⊥
        go (equal e) = open_at p r s sh (joined_wider (Other p (suc k)) (λ q. IsLess q p) (λ q u v _ a. lower q a (split p k q h a)) r s j)
          where
            lower : (q : Point) → Other p (suc k) q → (q ≡ point_at ps k) ⊎ Lower p k q → IsLess q p
            lower q a (inl f) = absurd (a.0 (f ∙ sym e))
            lower q a (inr b) = subst (IsLess q) (sym e) b.0
        go (more l) = open_at p r s sh (joined_wider (Other p (suc k)) (λ q. IsLess q p) (λ q u v _ a. lower q (split p k q h a)) r s j)
          where
            lower : (q : Point) → (q ≡ point_at ps k) ⊎ Lower p k q → IsLess q p
            lower q (inl f) = subst (λ z. IsLess z p) (sym f) l
            lower q (inr b) = less_through q (point_at ps k) p b.0 l
        go (less l) = by_greatest k p r s sh l (fewer p r s sh) (through (Lower p k) (point_at ps k) r s (joined_wider (Other p (suc k)) (λ q. (q ≡ point_at ps k) ⊎ Lower p k q) (λ q u v _ a. split p k q h a) r s j))

    -- the first k points join no rings again
    none_by : (k : ℕ) → k ≤ n → (p : Point) (r s : ℕ) → SharePoint offsets c p r s → AreJoined offsets c (Other p k) r s → ⊥
    none_by zero h p r s sh j = sh.differ (none_joined r s (joined_wider (Other p 0) (λ q. ⊥) (λ q u v _ a. let b = a.1.before in absurd (omega (arith, b))) r s j))
    none_by (suc k) h p r s sh j = one_more k (omega (arith, h)) (none_by k (omega (arith, h))) p r s sh j

    -- if these are all shared points, no rings are joined twice
    pub none_twice : ((p : Point) (r s : ℕ) → SharePoint offsets c p r s → IsAmong ps n p) → NoneJoinedTwice offsets c
    none_twice all p r s twice = none_by n (omega arith) p r s twice.share (joined_wider (λ q. q ≡ p → ⊥) (Other p n) (λ q u v sh differ. (differ, all q u v sh)) r s twice.joined)
