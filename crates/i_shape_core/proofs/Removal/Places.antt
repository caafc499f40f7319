-- Places on a cycle: neighbours without a remainder, and where a place was before another was removed.
use Rattle.std.proofs.Common.{◌≡◌, ℕ, zero, suc, ◌+◌, ◌-◌, ◌%◌, ◌<◌, ◌≤◌, List, length, remove, refl, sym, ap, ◌∙◌, arith, ◌⊎◌, inl, inr, ◌≢◌, eq-or-lt_of_le}
use Rattle.std.proofs.Math.Nat.{mod-eq_of_lt, add-mod_right, mod_self}
use Rattle.std.proofs.lemmas.Bool.{cases_lt}
use Rattle.std.proofs.lemmas.List.Edits.{get_or-remove_below, get_or-remove_above}
use Rattle.i_shape_core.proofs.Common.{Point, origin, point_at, place_before, place_after}

-- before the first place is the last
pub before_first : (n : ℕ) → 0 < n → place_before n 0 ≡ n - 1
before_first n h = mod-eq_of_lt (omega arith) ∙ omega arith

-- before any other place is the one less
pub before_later : (n j : ℕ) → suc j < n → place_before n (suc j) ≡ j
before_later n j h = ap (λ (m : ℕ). m % n) (sum n j h) ∙ add-mod_right j n ∙ mod-eq_of_lt (omega arith)
  where
    sum : (n j : ℕ) → suc j < n → suc j + (n - 1) ≡ j + n
    sum n j h = omega arith

-- after any place but the last is the next
pub after_earlier : (n k : ℕ) → k + 1 < n → place_after n k ≡ suc k
after_earlier n k h = mod-eq_of_lt h ∙ omega arith

-- after the last place is the first
pub after_last : (n k : ℕ) → k + 1 ≡ n → place_after n k ≡ 0
after_last n k e = ap (λ (m : ℕ). m % n) e ∙ mod_self n

-- m follows k on a cycle of n places
abbrev pub Follows : ℕ → ℕ → ℕ → Type 0
Follows n k m = ((k + 1 < n) × (m ≡ k + 1)) ⊎ ((k + 1 ≡ n) × (m ≡ 0))

-- a place is followed by the place after it
pub after_is : (n k : ℕ) → k < n → Follows n k (place_after n k)
after_is n k h = elim (eq-or-lt_of_le (let l : k + 1 ≤ n = omega arith in l)) [
  | inl e ↦ inr (e, after_last n k e)
  | inr l ↦ inl (l, after_earlier n k l ∙ omega arith)
]

-- a place follows the place before it
pub before_is : (n k : ℕ) → k < n → Follows n (place_before n k) k
before_is n zero h = inr (rw (before_first n h) (omega arith), refl)
before_is n (suc k) h = inl (rw (before_later n k h) (omega arith), rw (before_later n k h) (omega arith))

-- the place before is a place of the cycle
pub before_within : (n k : ℕ) → k < n → place_before n k < n
before_within n k h = let before = before_is n k h in grind arith

-- the place after is a place of the cycle
pub after_within : (n k : ℕ) → k < n → place_after n k < n
after_within n k h = let after = after_is n k h in grind arith

-- if k follows b, b is the place before k
pub before_from : (n b k : ℕ) → b < n → k < n → Follows n b k → place_before n k ≡ b
before_from n b k i h B = let within = before_within n k h in let before = before_is n k h in grind arith

-- if a follows k, a is the place after k
pub after_from : (n k a : ℕ) → k < n → Follows n k a → place_after n k ≡ a
after_from n k a h A = let after = after_is n k h in grind arith

-- on a cycle of at least three places, the places before and after another differ
pub one_neighbour : (n k a m s q : ℕ) → 3 ≤ n → k < n → m < n → q < n → Follows n k a → Follows n m s → Follows n q k → s ≡ k → m ≡ a → ⊥
one_neighbour n k a m s q h i i' i'' A S Q e f = grind arith

-- m is where place i was before place k was removed
abbrev pub Stood : ℕ → ℕ → ℕ → Type 0
Stood k i m = ((i < k) × (m ≡ i)) ⊎ ((k ≤ i) × (m ≡ i + 1))

-- each place was somewhere before k was removed
pub place_stood : (k i : ℕ) → (m : ℕ) × Stood k i m
place_stood k i = elim (cases_lt i k) [ inl h ↦ (i, inl (h, refl)) | inr h ↦ (i + 1, inr (h, refl)) ]

-- once place k is removed, the point at place i is the one that was at m
pub stood_point : (c : List Point) (k i m : ℕ) → k < length c → Stood k i m → point_at (remove c k) i ≡ point_at c m
stood_point c k i m h (inl s) = get_or-remove_below c k origin i s.0 h ∙ ap (point_at c) (sym s.1)
stood_point c k i m h (inr s) = get_or-remove_above c k origin i s.0 h ∙ ap (point_at c) (sym s.1)

-- m is a place of the longer cycle
pub stood_within : (n l k j m : ℕ) → l + 1 ≡ n → j < l → Stood k j m → m < n
stood_within n l k j m e h M = grind arith

-- what follows j once k is removed: what followed m, or what followed k if k followed m
pub follows_over : (n l k a j f m g s : ℕ) → l + 1 ≡ n → k < n → j < l → Follows n k a → Follows l j f → Stood k j m → Stood k f g → Follows n m s
    → ((s ≡ k) × (g ≡ a)) ⊎ ((s ≢ k) × (g ≡ s))
follows_over n l k a j f m g s e h i A F M G S = grind arith
