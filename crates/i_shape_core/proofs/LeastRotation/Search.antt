-- The search for the start of the least rotation.
use Rattle.std.proofs.Common.{◌≡◌, ◌⊎◌, ℕ, suc, zero, ◌+◌, ◌-◌, ◌<◌, ◌≤◌, max, List, length, inl, inr, refl, sym, ap, subst, subst₂, ◌∙◌, arith}
use Rattle.std.proofs.lemmas.Bool.{cases_lt}
use Rattle.i_shape_core.proofs.Common.{Point, point_at, point_round, Agree, Precedes, AreAfter, IsBefore, IsLeast, started_at}
use Rattle.i_shape_core.proofs.LeastRotation.Rounds.{same-started, round-back, round-first}
use Rattle.i_shape_core.proofs.LeastRotation.Starts.{StartsLeast, has_least_start, beaten_not_least}

-- below the challenger, only the kept of n starts can be least
pub record IsSearch (c : List Point) (n kept challenger : ℕ) : Type 0 where
  pub long : length c ≡ n
  pub within : kept < n
  pub apart : kept < challenger
  pub others : (s : ℕ) → s < challenger → s < n → StartsLeast c s → s ≡ kept

-- if the points from j to before k come after p, and so does point k, those to before k + 1 do
pub after-more : (c : List Point) (p : Point) (j k : ℕ) → AreAfter c p j k → IsBefore p (point_at c k) → AreAfter c p j (k + 1)
after-more c p j k before here s above below = elim (cases_lt s k) [
  | inl l ↦ before s above l
  | inr l ↦ let e : s ≡ k = omega arith in subst (λ (x : ℕ). IsBefore p (point_at c x)) (sym e) here
]

-- starts whose points come after the kept rotation's first aren't least
pub search_after : (c : List Point) (n i j r : ℕ) → IsSearch c n i j → j ≤ r → r ≤ n → AreAfter c (point_at c i) j r → IsSearch c n i r
search_after c n i j r s above below h = record {
  long = s.long;
  within = s.within;
  apart = omega (arith, s.apart);
  others = λ x l w least. elim (cases_lt x j) [
    | inl b ↦ s.others x b w least
    | inr b ↦ absurd (beaten_not_least c x i 0 x (omega arith) (omega arith) (omega (arith, s.long)) (omega (arith, s.long, s.within)) (omega (arith, s.long)) (λ t m. absurd (omega arith)) (first x b l w) least)
  ];
}
  where
    start : (k : ℕ) → k < n → point_at c k ≡ point_round c (k + 0)
    start k w = round-first c k (omega (arith, s.long))

    first : (x : ℕ) → j ≤ x → x < r → x < n → IsBefore (point_round c (i + 0)) (point_round c (x + 0))
    first x b l w = subst₂ IsBefore (start i s.within) (start x w) (h x b l)

-- if the kept rotation precedes the challenger's after m points, the m starts from the challenger on aren't least
pub search_less : (c : List Point) (n i j m next : ℕ) → IsSearch c n i j → j < n → Precedes c i j m → j < next → next ≤ j + m → IsSearch c n i next
search_less c n i j m next s wj h above below = record {
  long = s.long;
  within = s.within;
  apart = omega (arith, s.apart);
  others = λ x l w least. elim (cases_lt x j) [
    | inl b ↦ s.others x b w least
    | inr b ↦ absurd (beaten_not_least c j i h.matched x b (omega (arith, h.last)) (omega (arith, s.long)) (omega (arith, s.long, s.within)) h.within (λ t l. sym (h.agree t l)) h.before least)
  ];
}

module _ (c : List Point) (n i j m : ℕ) (s : IsSearch c n i j) (wj : j < n) (h : Precedes c j i m) where
  -- if the challenger's rotation precedes the kept one's, a least start is at or past both j and i + m
  past : (x : ℕ) → x < n → StartsLeast c x → (j ≤ x) × (i + m ≤ x)
  past x w least = go (cases_lt x j) (cases_lt x (i + m))
    where
      lost : i ≤ x → x < i + m → ⊥
      lost a b = beaten_not_least c i j h.matched x a (omega (arith, h.last)) (omega (arith, s.long)) (omega (arith, s.long)) h.within (λ t l. sym (h.agree t l)) h.before least

      go : (x < j) ⊎ (j ≤ x) → (x < i + m) ⊎ (i + m ≤ x) → (j ≤ x) × (i + m ≤ x)
      go (inl a) b = let e : x ≡ i = s.others x a w least in absurd (lost (omega arith) (omega (arith, h.last)))
      go (inr a) (inl b) = absurd (lost (omega (arith, s.apart)) b)
      go (inr a) (inr b) = (a, b)

  -- so max j (i + m) lies within the contour
  pub next_start_within : max j (i + m) < n
  next_start_within =
      let l = has_least_start c (omega (arith, s.long)) in
      let p = past l.place (omega (arith, l.within, s.long)) l.least in
      omega (arith, p.0, p.1, l.within, s.long)

  -- if the rival precedes, the search goes on from the next start that can be least
  pub search_greater : (next : ℕ) → next ≡ max j (i + m) → IsSearch c n next (next + 1)
  search_greater next e = record {
    long = s.long;
    within = omega (arith, next_start_within);
    apart = omega arith;
    others = λ x l w least. let p = past x w least in omega (arith, p.0, p.1);
  }

-- if two rotations agree on all points, a least start steps back by their distance
module _ (c : List Point) (i j : ℕ) (s : IsSearch c (length c) i j) (same : Agree c i j (length c)) where
  back : (x : ℕ) → j ≤ x → x < length c → started_at c x ≡ started_at c (x - (j - i))
  back x l w = same-started c x (x - (j - i)) (omega arith) (omega arith) (λ t m. go t (cases_lt (x - j + t) (length c)) m)
    where
      ij : i < j
      ij = s.apart

      go : (t : ℕ) → (x - j + t < length c) ⊎ (length c ≤ x - j + t) → t < length c → point_round c (x + t) ≡ point_round c (x - (j - i) + t)
      go t (inl h) m =
          let a : j + (x - j + t) ≡ x + t = omega arith in
          let b : i + (x - j + t) ≡ x - (j - i) + t = omega arith in
          sym (ap (point_round c) a) ∙ sym (same (x - j + t) h) ∙ ap (point_round c) b
      go t (inr h) m =
          let u : ℕ = x - j + t - length c in
          round-back c (x + t) (j + u) (omega arith) (omega arith) ∙ sym (same u (omega arith)) ∙ sym (round-back c (x - (j - i) + t) (i + u) (omega arith) (omega arith))

  kept_least : (x : ℕ) → x < j → x < length c → StartsLeast c x → StartsLeast c i
  kept_least x l w least = subst (StartsLeast c) (s.others x l w least) least

  steps_back : (fuel x : ℕ) → x ≤ fuel → x < length c → StartsLeast c x → StartsLeast c i
  steps_back zero x f w least = kept_least x (omega (arith, s.apart)) w least
  steps_back (suc fuel) x f w least = elim (cases_lt x j) [
    | inl l ↦ kept_least x l w least
    | inr l ↦ steps_back fuel (x - (j - i)) (omega (arith, s.apart)) (omega arith) (subst (IsLeast c) (back x l w) least)
  ]

-- once no start is left, the kept one is least
pub search_past : (c : List Point) (n i j : ℕ) → IsSearch c n i j → n ≤ j → IsLeast c (started_at c i)
search_past c n i j s stop =
    let l = has_least_start c (omega (arith, s.within, s.long)) in
    subst (StartsLeast c) (s.others l.place (omega (arith, l.within, s.long)) (omega (arith, l.within, s.long)) l.least) l.least

-- if the two rotations are equal, the kept start is least
pub search_round : (c : List Point) (n i j : ℕ) → IsSearch c n i j → Agree c i j n → IsLeast c (started_at c i)
search_round c n i j s same =
    let l = has_least_start c (omega (arith, s.within, s.long)) in
    let whole : IsSearch c (length c) i j = record {
      long = refl;
      within = omega (arith, s.within, s.long);
      apart = s.apart;
      others = λ x b w least. s.others x b (omega (arith, s.long)) least;
    } in
    steps_back c i j whole (λ t b. same t (omega (arith, s.long))) l.place l.place (omega arith) l.within l.least
