-- The starts of the least rotations of a contour.
use Rattle.std.proofs.Common.{◌≡◌, ◌⊎◌, ℕ, suc, zero, ◌+◌, ◌-◌, ◌<◌, ◌≤◌, List, [], ◌∷◌, ◌++◌, length, take, drop, get_or, inl, inr, refl, sym, ap, subst, ◌∙◌, arith, take_at, drop_at, length-append, take-append-drop, eq-or-lt_of_le, le_of_suc-le-suc, append-nil}
use Rattle.std.proofs.lemmas.List.{take_all, drop_all}
use Rattle.std.proofs.lemmas.Bool.{cases_lt}
use Rattle.i_shape_core.proofs.Common.{Point, origin, Rotation, IsBefore, IsAtMost, IsLeast, started_at, point_round}
use Rattle.i_shape_core.proofs.LeastRotation.Order.{before_clash, at_most_refl, at_most_total, at_most_trans}
use Rattle.i_shape_core.proofs.LeastRotation.Rounds.{length-started, started-round, start_at}

-- the rotation of c from place s is least
abbrev pub StartsLeast : List Point → ℕ → Type 0
StartsLeast c s = IsLeast c (started_at c s)

-- starting a contour at another place rotates it
pub rotation_at : (c : List Point) (k : ℕ) → Rotation c (started_at c k)
rotation_at c k = record { front = take k c; back = drop k c; before = sym (take-append-drop k c); after = refl }

started_by : {c d : List Point} → (r : Rotation c d) → d ≡ started_at c (length r.front)
started_by {c} {d} r =
    let a : take (length r.front) (r.front ++ r.back) ≡ r.front = take_at r.front r.back (length r.front) refl in
    let b : drop (length r.front) (r.front ++ r.back) ≡ r.back = drop_at r.front r.back (length r.front) refl in
    cc

started_whole : (c : List Point) → started_at c (length c) ≡ started_at c 0
started_whole c =
    let a : take (length c) c ≡ c = take_all (length c) c (omega arith) in
    let b : drop (length c) c ≡ [] = drop_all (length c) c (omega arith) in
    let d : c ++ [] ≡ c = append-nil c in
    cc

-- each rotation starts at some place of the contour
start_of : {c d : List Point} → 0 < length c → Rotation c d → (k : ℕ) × (k < length c) × (d ≡ started_at c k)
start_of {c} {d} some r = go (cases_lt (length r.front) (length c))
  where
    long : length c ≡ length r.front + length r.back
    long = ap length r.before ∙ length-append r.front r.back

    go : (length r.front < length c) ⊎ (length c ≤ length r.front) → (k : ℕ) × (k < length c) × (d ≡ started_at c k)
    go (inl l) = (length r.front, l, started_by r)
    go (inr l) =
        let e : length r.front ≡ length c = omega (arith, long) in
        (0, some, started_by r ∙ ap (started_at c) e ∙ started_whole c)

-- the least of the rotations that start at places up to m
least_among : (c : List Point) (m : ℕ) → (s : ℕ) × (s ≤ m) × ((k : ℕ) → k ≤ m → IsAtMost (started_at c s) (started_at c k))
least_among c zero = (0, omega arith, λ k h. let e : k ≡ 0 = omega arith in subst (λ (x : ℕ). IsAtMost (started_at c 0) (started_at c x)) (sym e) (at_most_refl (started_at c 0)))
least_among c (suc m) = go (least_among c m)
  where
    Among : ℕ → ℕ → Type 0
    Among s m = (k : ℕ) → k ≤ m → IsAtMost (started_at c s) (started_at c k)

    next : (s : ℕ) → Among s m → IsAtMost (started_at c s) (started_at c (suc m)) → Among s (suc m)
    next s below here k h = elim (eq-or-lt_of_le h) [ inl e ↦ subst (λ (x : ℕ). IsAtMost (started_at c s) (started_at c x)) (sym e) here | inr l ↦ below k (le_of_suc-le-suc l) ]

    go : (s : ℕ) × (s ≤ m) × Among s m → (s : ℕ) × (s ≤ suc m) × Among s (suc m)
    go w = elim (at_most_total (started_at c w.0) (started_at c (suc m))) [
      | inl h ↦ (w.0, omega (arith, w.1), next w.0 w.2 h)
      | inr h ↦ (suc m, omega arith, next (suc m) (λ k l. at_most_trans (started_at c (suc m)) (started_at c w.0) (started_at c k) h (w.2 k l)) (at_most_refl (started_at c (suc m))))
    ]

-- a start whose rotation is at most all others
pub record LeastStart (c : List Point) : Type 0 where
  pub place : ℕ
  pub within : place < length c
  pub least : StartsLeast c place

-- each nonempty contour has one
pub has_least_start : (c : List Point) → 0 < length c → LeastStart c
has_least_start c some = go (least_among c (length c - 1))
  where
    go : (s : ℕ) × (s ≤ length c - 1) × ((k : ℕ) → k ≤ length c - 1 → IsAtMost (started_at c s) (started_at c k)) → LeastStart c
    go w = record {
      place = w.0;
      within = omega (arith, w.1);
      least = record {
        rotation = rotation_at c w.0;
        first = λ d r. let at = start_of some r in subst (λ (x : List Point). IsAtMost (started_at c w.0) x) (sym at.2) (w.2 at.0 (omega (arith, at.1)));
      };
    }

-- if b has the lesser point at the first difference, a isn't at most b
pub greater_at : (p : ℕ) (a b : List Point) → ((t : ℕ) → t < p → get_or a t origin ≡ get_or b t origin) → p < length a → p < length b
    → IsBefore (get_or b p origin) (get_or a p origin) → IsAtMost a b → ⊥
greater_at p [] b same wa wb h k = omega arith
greater_at p (x ∷ a) [] same wa wb h k = k
greater_at zero (x ∷ a) (y ∷ b) same wa wb h (inl k) = before_clash x y k h
greater_at zero (x ∷ a) (y ∷ b) same wa wb h (inr k) = let g : IsBefore y y = subst (λ (z : Point). IsBefore y z) k.0 h in before_clash y y g g
greater_at (suc p) (x ∷ a) (y ∷ b) same wa wb h (inl k) = let g : IsBefore y y = subst (λ (z : Point). IsBefore z y) (same 0 (omega arith)) k in before_clash y y g g
greater_at (suc p) (x ∷ a) (y ∷ b) same wa wb h (inr k) = greater_at p a b (λ t l. same (suc t) (omega arith)) (omega arith) (omega arith) h k.1

-- if the rotations from i and j agree on k points, and j's next is lesser, no start from i to i + k is least
pub beaten_not_least : (c : List Point) (i j k s : ℕ) → i ≤ s → s ≤ i + k → s < length c → j < length c → k < length c
    → ((t : ℕ) → t < k → point_round c (i + t) ≡ point_round c (j + t)) → IsBefore (point_round c (j + k)) (point_round c (i + k)) → StartsLeast c s → ⊥
beaten_not_least c i j k s above below ws wj wk same h least =
    let m : ℕ = s - i in
    let rival = start_at c (j + m) (omega arith) in
    let p : ℕ = k - m in
    let lr = length-started c rival.place (omega (arith, rival.within)) in
    let ls = length-started c s (omega arith) in
    let here : (t : ℕ) → t < length c → get_or (started_at c s) t origin ≡ point_round c (i + (m + t)) =
    λ t l. let e : s + t ≡ i + (m + t) = omega arith in started-round c s t (omega arith) l ∙ ap (point_round c) e in
    let there : (t : ℕ) → t ≤ p → get_or (started_at c rival.place) t origin ≡ point_round c (j + (m + t)) =
    λ t l. let e : j + m + t ≡ j + (m + t) = omega arith in rival.reads t (omega arith) (omega arith) ∙ ap (point_round c) e in
    let end : m + p ≡ k = omega arith in
    greater_at p (started_at c s) (started_at c rival.place)
    (λ t l. here t (omega arith) ∙ same (m + t) (omega arith) ∙ sym (there t (omega arith)))
    (omega arith) (omega arith)
    (subst (λ (x : Point). IsBefore x (get_or (started_at c s) p origin)) (sym (there p (omega arith) ∙ ap (λ (x : ℕ). point_round c (j + x)) end))
    (subst (λ (x : Point). IsBefore (point_round c (j + k)) x) (sym (here p (omega arith) ∙ ap (λ (x : ℕ). point_round c (i + x)) end)) h))
    (least.first (started_at c rival.place) (rotation_at c rival.place))
