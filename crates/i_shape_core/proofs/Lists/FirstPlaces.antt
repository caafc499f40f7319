-- The search for a place that passes a test.
use Rattle.std.proofs.Common.{◌≡◌, ℕ, ◌+◌, ◌-◌, ◌<◌, ◌≤◌, List, length, sym, subst, subst₂, refl, arith, inl, inr, eq-or-lt_of_le, remove}
use Rattle.std.proofs.lemmas.List.Edits.{length-remove}
use Rattle.std.proofs.lemmas.Bool.{cases_lt}
use Rattle.i_shape_core.proofs.Common.{Point, Test, IsRemovable, stay, step, point_at, Finds, Falls, IsFirst}
use Rattle.i_shape_core.proofs.Removal.Places.{Follows, before_from, after_from}

-- a place that passes between its neighbours is removable
pub removable_between : {P : Test} (c : List Point) (b k a : ℕ) → 3 ≤ length c → b < length c → k < length c → Follows (length c) b k → Follows (length c) k a
    → P (point_at c b) (point_at c k) (point_at c a) → IsRemovable P c k
removable_between {P} c b k a h i j B A p = record {
  enough = h;
  within = j;
  passes = subst₂ (λ (x y : ℕ). P (point_at c x) (point_at c k) (point_at c y)) (sym (before_from (length c) b k i j B)) (sym (after_from (length c) k a j A)) p;
}

-- a removable place passes between its neighbours
pub passes_between : {P : Test} (c : List Point) (b k a : ℕ) → b < length c → Follows (length c) b k → Follows (length c) k a → IsRemovable P c k → P (point_at c b) (point_at c k) (point_at c a)
passes_between {P} c b k a i B A m = subst₂ (λ (x y : ℕ). P (point_at c x) (point_at c k) (point_at c y)) (before_from (length c) b k i m.within B) (after_from (length c) k a m.within A) m.passes

-- if no place before k is removable, and k doesn't pass, no place before k + 1 is
pub none_on : {P : Test} (c : List Point) (b k a : ℕ) → b < length c → k < length c → Follows (length c) b k → Follows (length c) k a
    → (P (point_at c b) (point_at c k) (point_at c a) → ⊥) → ((j : ℕ) → j < k → IsRemovable P c j → ⊥) → (j : ℕ) → j < k + 1 → IsRemovable P c j → ⊥
none_on {P} c b k a i l B A n earlier j h m = elim (eq-or-lt_of_le (let g : j ≤ k = omega arith in g)) [
  | inl e ↦ n (passes_between c b k a i B A (subst (λ (x : ℕ). IsRemovable P c x) e m))
  | inr g ↦ earlier j g m
]

-- removing the first removable place of three points collapses the contour
pub first_collapses : {P : Test} (c : List Point) (k visits : ℕ) → IsFirst P c k → length c ≡ 3 → visits ≡ k + 1 → Falls P c visits
first_collapses c k visits f three e = record {
  rest = remove c k;
  reached = step (record { place = k; removable = f.here; left = refl }) stay;
  few = omega (arith, three, length-remove c k f.here.within);
  least = omega (arith, three, e);
  most = omega (arith, three, e, f.here.within);
}

-- if no place is removable, the contour is its own end
pub none_found : {P : Test} (c : List Point) (visits : ℕ) → 3 ≤ length c → ((k : ℕ) → IsRemovable P c k → ⊥) → visits ≡ length c → Finds P c c visits
none_found c visits h none e = record { ended = record { reached = stay; none_left = none }; enough = h; least = omega arith; most = omega arith }

-- if none of the first n turns passes, nor turn n, none of the first n + 1 does
pub one_more : (P : Test) (c : List Point) (n : ℕ) → ((k : ℕ) → k < n → ¬ (P (point_at c k) (point_at c (k + 1)) (point_at c (k + 2)))) → ¬ (P (point_at c n) (point_at c (n + 1)) (point_at c (n + 2)))
    → (k : ℕ) → k < n + 1 → ¬ (P (point_at c k) (point_at c (k + 1)) (point_at c (k + 2)))
one_more P c n none here k less passes = elim (cases_lt k n) [
  | inl early ↦ none k early passes
  | inr late ↦ (let e : k ≡ n = omega arith in here (subst (λ (j : ℕ). P (point_at c j) (point_at c (j + 1)) (point_at c (j + 2))) e passes))
]

-- if no turn passes, the two across the seam included, no place is removable
pub none_removable : {P : Test} (c : List Point) (n last : ℕ) → 3 ≤ length c → last + 1 ≡ length c → last ≤ n + 1 → ((k : ℕ) → k < n → ¬ (P (point_at c k) (point_at c (k + 1)) (point_at c (k + 2))))
    → ¬ (P (point_at c last) (point_at c 0) (point_at c 1)) → ¬ (P (point_at c (last - 1)) (point_at c last) (point_at c 0)) → (k : ℕ) → IsRemovable P c k → ⊥
none_removable {P} c n last three count most turns opens closes k m = elim (cases_lt k 1) [
  | inl one ↦ (let e : k ≡ 0 = omega arith in opens (passes_between c last 0 1 (omega arith) (inr (omega arith, refl)) (inl (omega arith, refl)) (subst (IsRemovable P c) e m)))
  | inr later ↦ elim (cases_lt k last) [
    | inl before ↦ (let j : ℕ = k - 1 in let e : k ≡ j + 1 = omega arith in
        turns j (omega arith) (passes_between c j (j + 1) (j + 2) (omega arith) (inl (omega arith, refl)) (inl (omega arith, omega arith)) (subst (IsRemovable P c) e m)))
    | inr after ↦ (let e : k ≡ last = omega (arith, m.within) in
        closes (passes_between c (last - 1) last 0 (omega arith) (inl (omega arith, omega arith)) (inr (omega arith, refl)) (subst (IsRemovable P c) e m)))
  ]
]
