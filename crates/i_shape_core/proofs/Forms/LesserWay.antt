-- A rotation of a contour and the contour read backwards, compared point by point.
use Rattle.std.proofs.Common.{◌≡◌, ◌⊎◌, ℕ, zero, suc, ◌+◌, ◌-◌, ◌<◌, ◌≤◌, List, [], ◌∷◌, length, reverse, inl, inr, refl, sym, ap, subst, subst₂, ◌∙◌, arith}
use Rattle.std.proofs.lemmas.Bool.{cases_lt}
use Rattle.std.proofs.lemmas.List.{reverse-reverse, length-reverse, get_or-reverse, ext_get_or}
use Rattle.i_shape_core.proofs.Common.{Point, origin, point_at, IsBefore, IsAtMost, IsLeast, IsLesserWay, started_at}
use Rattle.i_shape_core.proofs.LeastRotation.Order.{at_most_refl, at_most_total}
use Rattle.i_shape_core.proofs.LeastRotation.Starts.{greater_at}
use Rattle.i_shape_core.proofs.LeastRotation.Readings.{IsStep}
use Rattle.i_shape_core.proofs.LeastRotation.Rounds.{started-round, round-place, length-started}

-- two lists have the same first k points
abbrev pub AgreeUpTo : List Point → List Point → ℕ → Type 0
AgreeUpTo d e k = (t : ℕ) → t < k → point_at d t ≡ point_at e t

-- if d and e have the same first k points, and d the lesser next one, d is at most e
at_most_there : (k : ℕ) (d e : List Point) → AgreeUpTo d e k → k < length d → k < length e → IsBefore (point_at d k) (point_at e k) → IsAtMost d e
at_most_there k [] e same wd we h = tt
at_most_there k (x ∷ d) [] same wd we h = absurd (omega arith)
at_most_there zero (x ∷ d) (y ∷ e) same wd we h = inl h
at_most_there (suc k) (x ∷ d) (y ∷ e) same wd we h = inr (same 0 (omega arith), at_most_there k d e (λ t l. same (suc t) (omega arith)) (omega arith) (omega arith) h)

-- at step k, the rotation of c from s reads place a, and c read backwards reads place b
pub record IsPair (c : List Point) (s k a b : ℕ) : Type 0 where
  pub started : s < length c
  pub within : k < length c
  pub ours_within : a < length c
  pub ours : IsStep (length c) s k a
  pub theirs : b + 1 + k ≡ length c

-- at step k, if the rotation from s reads place a, c read backwards reads place n - 1 - k
pub is_pair : (c : List Point) (n s k a : ℕ) → n ≡ length c → s < n → k < n → a < n → IsStep n s k a → IsPair c s k a (n - 1 - k)
is_pair c n s k a many started within ours_within ours = record {
  started = omega (arith, many, started);
  within = omega (arith, many, within);
  ours_within = omega (arith, many, ours_within);
  ours = rw many at ours;
  theirs = omega (arith, many, within);
}

module _ (c : List Point) (s k a b : ℕ) (pair : IsPair c s k a b) where
  ours : point_at (started_at c s) k ≡ point_at c a
  ours = started-round c s k (omega (arith, pair.started)) pair.within ∙ round-place c (s + k) a pair.ours_within pair.ours

  theirs : point_at (reverse c) k ≡ point_at c b
  theirs = let e : length c - 1 - k ≡ b = omega (arith, pair.theirs) in get_or-reverse c k origin pair.within ∙ ap (point_at c) e

  -- if they agree on k points and at step k, they agree on k + 1
  pub agree_longer : AgreeUpTo (started_at c s) (reverse c) k → point_at c a ≡ point_at c b → AgreeUpTo (started_at c s) (reverse c) (k + 1)
  agree_longer same h t l = go (cases_lt t k)
    where
      go : (t < k) ⊎ (k ≤ t) → point_at (started_at c s) t ≡ point_at (reverse c) t
      go (inl m) = same t m
      go (inr m) = let e : t ≡ k = omega arith in subst (λ (n : ℕ). point_at (started_at c s) n ≡ point_at (reverse c) n) (sym e) (ours ∙ h ∙ sym theirs)

  lengths : (length (started_at c s) ≡ length c) × (length (reverse c) ≡ length c)
  lengths = (length-started c s (omega (arith, pair.started)), length-reverse c)

  -- if they agree on k points and the rotation has the lesser next one, c read backwards isn't at most the rotation
  pub started_first : AgreeUpTo (started_at c s) (reverse c) k → IsBefore (point_at c a) (point_at c b) → IsAtMost (reverse c) (started_at c s) → ⊥
  started_first same h =
      greater_at k (reverse c) (started_at c s) (λ t l. sym (same t l)) (omega (arith, lengths.1, pair.within)) (omega (arith, lengths.0, pair.within)) (subst₂ IsBefore (sym ours) (sym theirs) h)

  -- if they agree on k points and c read backwards has the lesser next one, it is at most the rotation
  pub reversed_first : AgreeUpTo (started_at c s) (reverse c) k → IsBefore (point_at c b) (point_at c a) → IsAtMost (reverse c) (started_at c s)
  reversed_first same h =
      at_most_there k (reverse c) (started_at c s) (λ t l. sym (same t l)) (omega (arith, lengths.1, pair.within)) (omega (arith, lengths.0, pair.within)) (subst₂ IsBefore (sym theirs) (sym ours) h)

-- if they agree on all points, c read backwards is at most the rotation
pub agree_throughout : (c : List Point) (s n : ℕ) → s < length c → n ≡ length c → AgreeUpTo (started_at c s) (reverse c) n → IsAtMost (reverse c) (started_at c s)
agree_throughout c s n within many same =
    let started = length-started c s (omega (arith, within)) in
    let back = length-reverse c in
    let one : started_at c s ≡ reverse c = ext_get_or origin (started_at c s) (reverse c) (started ∙ sym back) (λ t l. same t (omega (arith, started, many))) in
    rw one (at_most_refl (reverse c))

-- if c isn't at most the least rotation of c read backwards, that is the lesser way of c
pub lesser_rotated : (c r l : List Point) → r ≡ reverse c → IsLeast r l → (IsAtMost (reverse r) l → ⊥) → IsLesserWay c l
lesser_rotated c r l back least after =
    let there : reverse r ≡ c = ap reverse back ∙ reverse-reverse c in
    let before : IsAtMost l (reverse r) = elim (at_most_total l (reverse r)) [ inl h ↦ h | inr h ↦ absurd (after h) ] in
    record { backwards = l; is_backwards = rw back at least; one = inr refl; first = (rw there at before, at_most_refl l) }

-- if c is at most the least rotation of c read backwards, c is its own lesser way
pub lesser_left : (c r b l : List Point) → r ≡ reverse c → IsLeast r b → IsAtMost (reverse r) b → l ≡ c → IsLesserWay c l
lesser_left c r b l back least before same =
    let there : reverse r ≡ c = ap reverse back ∙ reverse-reverse c in
    record { backwards = b; is_backwards = rw back at least; one = inl same; first = (rw same (at_most_refl c), rw same (rw there at before)) }
