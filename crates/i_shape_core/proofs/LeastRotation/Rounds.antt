-- Reading a rotation as part of the contour read twice.
use Rattle.std.proofs.Common.{◌≡◌, ◌⊎◌, ℕ, ◌+◌, ◌-◌, ◌<◌, ◌≤◌, List, length, take, drop, get_or, inl, inr, refl, sym, ap, ◌∙◌, arith, add-zero, length-append, length-take, length-drop}
use Rattle.std.proofs.lemmas.List.{get_or_append_left, get_or-append_right, get_or-take, get_or-drop, ext_get_or}
use Rattle.std.proofs.lemmas.Bool.{cases_lt}
use Rattle.i_shape_core.proofs.Common.{Point, origin, point_at, point_round, started_at}

-- in the first round, index e reads the point at e
pub round-low : (c : List Point) (e : ℕ) → e < length c → point_round c e ≡ get_or c e origin
round-low c e h = get_or_append_left c c origin e h

-- in the second round, index e reads the point at e less the length
pub round-high : (c : List Point) (e r : ℕ) → r + length c ≡ e → point_round c e ≡ get_or c r origin
round-high c e r h =
    let s : e - length c ≡ r = omega arith in
    get_or-append_right c c (length c) e origin refl (omega arith) ∙ ap (λ (k : ℕ). get_or c k origin) s

-- an index reads the same point in both rounds
pub round-place : (c : List Point) (e r : ℕ) → r < length c → (r ≡ e) ⊎ (r + length c ≡ e) → point_round c e ≡ get_or c r origin
round-place c e r h (inl k) = round-low c e (omega arith) ∙ ap (λ (k : ℕ). get_or c k origin) (sym k)
round-place c e r h (inr k) = round-high c e r k

-- the rotation from k begins with the point at k
pub round-first : (c : List Point) (k : ℕ) → k < length c → point_at c k ≡ point_round c (k + 0)
round-first c k h = sym (round-low c (k + 0) (omega arith) ∙ ap (λ (e : ℕ). get_or c e origin) (add-zero k))

-- an index in the second round reads the same as in the first
pub round-back : (c : List Point) (e r : ℕ) → r < length c → r + length c ≡ e → point_round c e ≡ point_round c r
round-back c e r h k = round-high c e r k ∙ sym (round-low c r h)

-- a rotation has the same length
pub length-started : (c : List Point) (s : ℕ) → s ≤ length c → length (started_at c s) ≡ length c
length-started c s h = omega (arith, length-append (drop s c) (take s c), length-drop s c, length-take s c)

-- the rotation from s reads the contour twice, from s on
pub started-round : (c : List Point) (s t : ℕ) → s ≤ length c → t < length c → get_or (started_at c s) t origin ≡ point_round c (s + t)
started-round c s t h k = go (cases_lt t (length c - s))
  where
    go : (t < length c - s) ⊎ (length c - s ≤ t) → get_or (started_at c s) t origin ≡ point_round c (s + t)
    go (inl l) = get_or_append_left (drop s c) (take s c) origin t (omega (arith, length-drop s c)) ∙ get_or-drop s c t origin ∙ sym (round-low c (s + t) (omega arith))
    go (inr l) =
        get_or-append_right (drop s c) (take s c) (length c - s) t origin (length-drop s c) l
        ∙ get_or-take s c (t - (length c - s)) origin (omega arith)
        ∙ sym (round-high c (s + t) (t - (length c - s)) (omega arith))

-- an index of either round starts a rotation
pub record Start (c : List Point) (e : ℕ) : Type 0 where
  pub place : ℕ
  pub within : place < length c
  pub reads : (t : ℕ) → e + t < length c + length c → t < length c → get_or (started_at c place) t origin ≡ point_round c (e + t)

-- each index below twice the length is a start
pub start_at : (c : List Point) (e : ℕ) → e < length c + length c → Start c e
start_at c e h = go (cases_lt e (length c))
  where
    go : (e < length c) ⊎ (length c ≤ e) → Start c e
    go (inl l) = record { place = e; within = l; reads = λ t a b. started-round c e t (omega arith) b }
    go (inr l) = record {
      place = e - length c;
      within = omega arith;
      reads = λ t a b. started-round c (e - length c) t (omega arith) b ∙ sym (round-back c (e + t) (e - length c + t) (omega arith) (omega arith));
    }

-- rotations with equal points are equal
pub same-started : (c : List Point) (r s : ℕ) → r ≤ length c → s ≤ length c → ((t : ℕ) → t < length c → point_round c (r + t) ≡ point_round c (s + t)) → started_at c r ≡ started_at c s
same-started c r s h k same =
    let lr = length-started c r h in
    let ls = length-started c s k in
    ext_get_or origin (started_at c r) (started_at c s) (lr ∙ sym ls)
    (λ t l. let b : t < length c = omega arith in started-round c r t h b ∙ same t b ∙ sym (started-round c s t k b))
