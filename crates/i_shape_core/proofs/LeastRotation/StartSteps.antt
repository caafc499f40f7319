-- One step of the comparison of two starts, as its comparer sees it: a first pair, and then runs of equal pairs.
use Rattle.std.proofs.Common.{◌≡◌, ℕ, Bool, true, false, not, ◌+◌, ◌-◌, ◌<◌, ◌≤◌, min, max, ℤ, List, length, ap, subst, sym, ◌∙◌, arith, ◌==◌, Ordering, Less, Equal, Greater}
use Rattle.std.specs.Ordering.{MatchOrdering, ordering_index}
use Rattle.i_shape_core.proofs.Common.{Point, point_at, contour_of, Agree, Precedes, IsOrder, IsBefore, IntPoint}
use Rattle.i_shape_core.proofs.Plane.Contours.{length-contour}
use Rattle.i_shape_core.proofs.LeastRotation.Readings.{IsStep, RunsAgree, first-agrees, first-tells, agree-on, precedes-on}

-- The first pair was compared, and `differs` is whether its points differ.
module _ {I : Type 0} (value : I → ℤ) (points : List (IntPoint I)) (i j : ℕ) (order : Ordering) (differs : Bool) (told : differs ≡ not (ordering_index order == 1))
    (wi : i < length points) (wj : j < length points) (h : IsOrder (contour_of value points) i j order) where
  long : length (contour_of value points) ≡ length points
  long = length-contour value points

  -- a first pair that differs decides which start precedes
  pub first_decides : (Q : Type 0) → differs ≡ true → MatchOrdering order (Precedes (contour_of value points) i j 1) Q (Precedes (contour_of value points) j i 1)
  first_decides Q tells = first-tells (contour_of value points) i j Q order (omega (arith, long)) (omega (arith, long)) h (λ e. let f : not (ordering_index Equal == 1) ≡ true = rw e at (sym told ∙ tells) in absurd (cc))

  -- if the first pair is equal, the rotations agree on one point
  pub first_agrees : differs ≡ false → Agree (contour_of value points) i j 1
  first_agrees tells = first-agrees (contour_of value points) i j order (omega (arith, long)) (omega (arith, long)) h (sym told ∙ tells)

-- a list with a place isn't empty
pub some_point : (n f j : ℕ) → n ≡ f → j < f → 1 ≤ n
some_point n f j e w = omega arith

-- the order in which `compare_runs` puts the points after k equal pairs from places a and b on, of at most `most` pairs
abbrev pub RunOrdered : List Point → ℕ → ℕ → ℕ → ℕ → ℕ → Ordering → Type 0
RunOrdered c n a b most k order =
    MatchOrdering order ((k < min (n - max a b) most) × IsBefore (point_at c (a + k)) (point_at c (b + k))) (k ≡ min (n - max a b) most) ((k < min (n - max a b) most) × IsBefore (point_at c (b + k)) (point_at c (a + k)))

-- a + k, b + k and m + k are below n
abbrev pub IsRoom : ℕ → ℕ → ℕ → ℕ → ℕ → Type 0
IsRoom n a b m k = (a + k < n) × (b + k < n) × (m + k < n)

is_room : (n l a b m k : ℕ) → l ≡ n → k < min (l - max a b) (n - m) → IsRoom n a b m k
is_room n l a b m k e within = let r : k < min (n - max a b) (n - m) = rw e at within in (omega arith, omega arith, omega arith)

-- a run that ended without a difference stays within n
pub is_run : (n l a b m k : ℕ) → l ≡ n → a < n → b < n → m ≤ n → k ≡ min (l - max a b) (n - m) → (a + k ≤ n) × (b + k ≤ n) × (m + k ≤ n)
is_run n l a b m k e wa wb wm within = let r : k ≡ min (n - max a b) (n - m) = rw e at within in (omega arith, omega arith, omega arith)

-- a run that ended without a difference compared one pair per place
pub run_counted : (n l a b m k x y z : ℕ) → l ≡ n → a < n → b < n → y + 1 ≡ x + m → z ≡ y + min (k + 1) (min (l - max a b) (n - m)) → k ≡ min (l - max a b) (n - m)
    → z + 1 ≡ x + (m + k)
run_counted n l a b m k x y z e wa wb counted told within = let r : z ≡ y + min (k + 1) k = rw (sym within) at told in omega arith

-- The k points from place a on equal those from place b on; a and b are m after the starts i and j.
module _ {I : Type 0} (value : I → ℤ) (first here : List (IntPoint I)) (same : here ≡ first) (n i j m a b k : ℕ) (count : n ≡ length first)
    (ours : IsStep n i m a) (theirs : IsStep n j m b) (before : Agree (contour_of value first) i j m) (run : RunsAgree (contour_of value here) a b k) (order : Ordering)
    (told : RunOrdered (contour_of value here) (length here) a b (n - m) k order) where
  abbrev c : List Point
  c = contour_of value first

  whole : n ≡ length c
  whole = count ∙ sym (length-contour value first)

  our_step : IsStep (length c) i m a
  our_step = subst (λ (u : ℕ). IsStep u i m a) whole ours

  their_step : IsStep (length c) j m b
  their_step = subst (λ (u : ℕ). IsStep u j m b) whole theirs

  run_first : RunsAgree c a b k
  run_first = subst (λ (l : List (IntPoint I)). RunsAgree (contour_of value l) a b k) same run

  told_first : RunOrdered c (length here) a b (n - m) k order
  told_first = subst (λ (l : List (IntPoint I)). RunOrdered (contour_of value l) (length here) a b (n - m) k order) same told

  as_long : length here ≡ n
  as_long = ap length same ∙ sym count

  room_first : k < min (length here - max a b) (n - m) → IsRoom (length c) a b m k
  room_first w = subst (λ (u : ℕ). IsRoom u a b m k) whole (is_room n (length here) a b m k as_long w)

  -- at Equal the run took all the room
  pub equal_room : order ≡ Equal → k ≡ min (length here - max a b) (n - m)
  equal_room e = subst (RunOrdered c (length here) a b (n - m) k) e told_first

  -- starts that agree on m points agree on m + k after the run
  pub equal_on : (a + k ≤ n) × (b + k ≤ n) × (m + k ≤ n) → Agree c i j (m + k)
  equal_on w = agree-on c i j m a b k our_step their_step (subst (λ (u : ℕ). a + k ≤ u) whole w.0) (subst (λ (u : ℕ). b + k ≤ u) whole w.1) before run_first

  -- at Less the first start precedes the second, at the pair after the run
  pub less_on : order ≡ Less → Precedes c i j (m + k + 1)
  less_on e =
      let h : RunOrdered c (length here) a b (n - m) k Less = subst (RunOrdered c (length here) a b (n - m) k) e told_first in
      let r : IsRoom (length c) a b m k = room_first h.0 in
      precedes-on c i j m a b k our_step their_step r.0 r.1 r.2 before run_first h.1

  -- at Greater the second start precedes the first, at the pair after the run
  pub greater_on : order ≡ Greater → Precedes c j i (m + k + 1)
  greater_on e =
      let h : RunOrdered c (length here) a b (n - m) k Greater = subst (RunOrdered c (length here) a b (n - m) k) e told_first in
      let r : IsRoom (length c) a b m k = room_first h.0 in
      precedes-on c j i m b a k their_step our_step r.1 r.0 r.2 (λ t l. sym (before t l)) (λ t l. sym (run_first t l)) h.1
