-- One step of the search for the least rotation, as its comparer sees it: a rival is found, and two starts are
-- compared.
use Rattle.std.proofs.Common.{◌≡◌, ℕ, Fits, w64, ◌+◌, ◌-◌, ◌*◌, ◌<◌, ◌≤◌, min, max, ℤ, List, length, ap, subst, sym, arith, Ordering, Less, Equal, Greater}
use Rattle.std.specs.Ordering.{MatchOrdering}
use Rattle.i_shape_core.proofs.Common.{Point, point_at, contour_of, Agree, Precedes, AreAfter, IsLeast, started_at, IntPoint}
use Rattle.i_shape_core.proofs.LeastRotation.Search.{IsSearch, search_after, search_less, search_round}

-- the order in which `compare_starts` puts the starts k and r of c, of n points, after m pairs
abbrev pub Ordered : List Point → ℕ → ℕ → ℕ → ℕ → Ordering → Type 0
Ordered c n k r m order = MatchOrdering order (Precedes c k r m) (Agree c k r n × (m ≡ n)) (Precedes c r k m)

-- A list of points, and an equal one that the comparer read later.
module _ {I : Type 0} (value : I → ℤ) (first here : List (IntPoint I)) (same : here ≡ first) where
  -- no start before the rival is least
  pub search_to_rival : (n k j r : ℕ) → n ≡ length first → IsSearch (contour_of value first) n k j → (j ≤ r) × (r ≤ length here)
      → AreAfter (contour_of value here) (point_at (contour_of value here) k) j r → IsSearch (contour_of value first) n k r
  search_to_rival n k j r count s within passed = search_after _ n k j r s within.0 (omega (arith, within.1, ap length same))
      (subst (λ (l : List (IntPoint I)). AreAfter (contour_of value l) (point_at (contour_of value l) k) j r) same passed)

  -- the place that was found is a rival if it isn't the end of the list
  pub is_rival : (n j r : ℕ) → n ≡ length first → (j ≤ r) × (r ≤ length here) → (r ≡ n → ⊥) → r < n
  is_rival n j r count within other = omega (arith, within.1, ap length same)

  -- at Less the kept start precedes the rival, also in the first list
  pub less_told : (k r m : ℕ) (order : Ordering) → order ≡ Less → Ordered (contour_of value here) (length here) k r m order → Precedes (contour_of value first) k r m
  less_told k r m order e told = subst (λ (l : List (IntPoint I)). Precedes (contour_of value l) k r m) same (subst (Ordered (contour_of value here) (length here) k r m) e told)

  -- at Equal the two rotations agree on all points, also in the first list
  pub equal_told : (k r m : ℕ) (order : Ordering) → order ≡ Equal → Ordered (contour_of value here) (length here) k r m order
      → Agree (contour_of value first) k r (length first) × (m ≡ length first)
  equal_told k r m order e told = subst (λ (l : List (IntPoint I)). Agree (contour_of value l) k r (length l) × (m ≡ length l)) same (subst (Ordered (contour_of value here) (length here) k r m) e told)

  -- at Greater the rival precedes the kept start, also in the first list
  pub greater_told : (k r m : ℕ) (order : Ordering) → order ≡ Greater → Ordered (contour_of value here) (length here) k r m order → Precedes (contour_of value first) r k m
  greater_told k r m order e told = subst (λ (l : List (IntPoint I)). Precedes (contour_of value l) r k m) same (subst (Ordered (contour_of value here) (length here) k r m) e told)

-- a rival that loses after m pairs rules out the m starts from it on
pub search_past_rival : (c : List Point) (n k r m : ℕ) → IsSearch c n k r → r < n → Precedes c k r m → IsSearch c n k (r + m)
search_past_rival c n k r m s wr h = search_less c n k r m (r + m) s wr h (omega (arith, h.last)) (omega arith)

-- a kept start that agrees with a rival on all points is least
pub round_least : (c : List Point) (n f k r : ℕ) → n ≡ f → IsSearch c n k r → Agree c k r f → IsLeast c (started_at c k)
round_least c n f k r e s same = search_round c n k r s (subst (Agree c k r) (sym e) same)

-- bounds on the challenger j after x compared pairs
abbrev pub InStep : ℕ → ℕ → ℕ → ℕ → Type 0
InStep n k j x = (j ≤ x + 1) × (x + 1 ≤ k + j) × (j ≤ n)

-- if a rival was found, each place from the challenger to it was compared
pub met_after : (n f l j r x y : ℕ) → n ≡ f → l ≡ f → r < n → y + j ≡ x + min (r + 1) l → y + j ≡ x + (r + 1)
met_after n f l j r x y count same wr counted = omega arith

-- if no rival was found, each place from the challenger on was compared
pub none_after : (n f l j r x y : ℕ) → n ≡ f → l ≡ f → r ≡ n → y + j ≡ x + min (r + 1) l → y + j ≡ x + n
none_after n f l j r x y count same e counted = omega arith

-- if no rival was found, at most 3 n - 4 pairs were compared
pub none_met : (n f k j x y : ℕ) → n ≡ f → k < j → j ≤ n → x + 1 ≤ k + j → y + j ≡ x + n → y ≤ 3 * f - 4
none_met n f k j x y count apart short moved counted = omega arith

-- if the loop ended, at most 3 n - 4 pairs were compared
pub loop_most : (n f k j x : ℕ) → n ≡ f → k < j → j ≤ n → x + 1 ≤ k + j → x ≤ 3 * f - 4
loop_most n f k j x count apart short moved = omega arith

-- if m is less than n - r, r + m is at most n
pub room_after : (n r m : ℕ) → m < n - r → r + m ≤ n
room_after n r m room = omega arith

-- a start at or past both r and k + m, below n and below r + m
abbrev pub IsNext : ℕ → ℕ → ℕ → ℕ → ℕ → Type 0
IsNext n k r m next = (r ≤ next) × (k + m ≤ next) × (next < n) × (next + 1 ≤ r + m)

-- max r (k + m) is such a start
pub is_next : (n k r m next before : ℕ) → next ≡ max r (k + m) → max r (k + m) < n → k < r → m ≡ before + 1 → IsNext n k r m next
is_next n k r m next before e within apart some = subst (IsNext n k r m) (sym e) (omega arith, omega arith, within, omega arith)

-- y pairs were compared when the rival r was found, and z once it was ordered after m pairs
module _ (n k j r x y m z : ℕ) (slow : j ≤ x + 1) (moved : x + 1 ≤ k + j) (counted : y + j ≡ x + (r + 1)) (told : z + 1 ≡ y + m) where
  -- if the rival lost, the challenger after it keeps the bounds
  pub lost_in_step : r + m ≤ n → InStep n k (r + m) z
  lost_in_step short = (omega arith, omega arith, short)

  -- if the rival won, the challenger after the next start keeps the bounds
  pub kept_in_step : (next : ℕ) → IsNext n k r m next → InStep n next (next + 1) z
  kept_in_step next e = (omega (arith, e.3), omega (arith, e.0, e.1), omega (arith, e.2))

  -- if the rotations agree on all points, at most 3 n - 4 pairs were compared
  pub all_compared : (f : ℕ) → n ≡ f → k < j → j ≤ r → r < n → m ≡ f → z ≤ 3 * f - 4
  all_compared f count apart within wr whole = omega arith

-- the code's sum fits
pub sum_fits : (n r i : ℕ) → max r i < n → n < 18446744073709551616 → Fits w64 i
sum_fits n r i within fits = omega arith

-- the place after the next start fits
pub next_fits : (n r i next : ℕ) → next ≡ max r i → max r i < n → n < 18446744073709551616 → Fits w64 (next + 1)
next_fits n r i next e within fits = omega arith

-- the count of pairs has room for another comparison of two starts
pub room_to_compare : (n f l k j r x y after : ℕ) → n < 18446744073709551616 → n ≡ f → l ≡ f → after ≡ l → x + 1 ≤ k + j → y + j ≡ x + (r + 1) → k < r → r < n
    → y + after ≤ 340282366920938463463374607431768211455
room_to_compare n f l k j r x y after fits count same kept moved counted apart wr = omega arith
