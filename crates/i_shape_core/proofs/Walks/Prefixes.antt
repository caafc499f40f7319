-- The walk while its stack holds the first places of the contour, without a gap.
use Rattle.std.proofs.Common.{◌≡◌, ℕ, suc, ◌+◌, ◌-◌, ◌<◌, ◌≤◌, ◌↔◌, List, [], ◌∷◌, ◌++◌, take, drop, length, refl, ap, subst, sym, ◌∙◌, arith, map-id}
use Rattle.std.specs.List.{range_with_len}
use Rattle.std.proofs.lemmas.List.FromFn.{length-range_with_len, get_or-range_with_len, take-map-range_with_len}
use Rattle.i_shape_core.proofs.Common.{Point, Test, End, point_at, IsStacked, IsWalked, stacked_point}
use Rattle.i_shape_core.proofs.Walks.Stack.{stacked-start, push-stacked, pop-stacked, drop-first, drop-last, stacked-end}
use Rattle.i_shape_core.proofs.Walks.Gaps.{range_push}
use Rattle.i_shape_core.proofs.Walks.RingStates.{points_of_all}

-- n places from a on, and then the next, are n + 1 places
pub range_more : (xs ys : List ℕ) (a n m k : ℕ) → xs ≡ range_with_len a n → a + n ≡ k → m ≡ n + 1 → ys ≡ xs ++ k ∷ [] → ys ≡ range_with_len a m
range_more xs ys a n m k e f g h =
    let s : m ≡ suc n = omega arith in
    h ∙ (ap (λ (r : List ℕ). r ++ k ∷ []) e ∙ (ap (λ (i : ℕ). range_with_len a n ++ i ∷ []) (sym f) ∙ (sym (range_push a n) ∙ ap (range_with_len a) (sym s))))

take_range : (k n a : ℕ) → k ≤ n → take k (range_with_len a n) ≡ range_with_len a k
take_range k n a h = sym (ap (take k) (map-id (range_with_len a n))) ∙ take-map-range_with_len (λ (i : ℕ). i) a n k h ∙ map-id (range_with_len a k)

module _ (P : Test) (c : List Point) where
  stacked_at : (n k : ℕ) → k < n → stacked_point c (range_with_len 0 n) k ≡ point_at c k
  stacked_at n k h =
      let e : 0 + k ≡ k = omega arith in
      ap (point_at c) (get_or-range_with_len 0 n k 0 h ∙ e)

  -- the test of three places of the stack is that of three points of the contour
  on_stack : (n i j k x y z : ℕ) → i < n → j < n → k < n → x ≡ i → y ≡ j → z ≡ k
      → P (stacked_point c (range_with_len 0 n) i) (stacked_point c (range_with_len 0 n) j) (stacked_point c (range_with_len 0 n) k) ↔ P (point_at c x) (point_at c y) (point_at c z)
  on_stack n i j k x y z hi hj hk ei ej ek = rw (stacked_at n i hi, stacked_at n j hj, stacked_at n k hk, ei, ej, ek) (λ h. h, λ h. h)

  -- the test of two places of the stack and a later one is that of three points of the contour
  before_stack : (n i j k x y : ℕ) → i < n → j < n → x ≡ i → y ≡ j
      → P (stacked_point c (range_with_len 0 n) i) (stacked_point c (range_with_len 0 n) j) (point_at c k) ↔ P (point_at c x) (point_at c y) (point_at c k)
  before_stack n i j k x y hi hj ei ej = rw (stacked_at n i hi, stacked_at n j hj, ei, ej) (λ h. h, λ h. h)

  -- the first two places may be on the stack
  pub prefix_starts : 2 ≤ length c → IsStacked P c (range_with_len 0 2) 2
  prefix_starts h =
      let none : IsStacked P c [] 0 = stacked-start P c [] refl in
      let one : IsStacked P c (0 ∷ []) 1 = push-stacked P c [] (0 ∷ []) 0 none (omega arith) (λ j k e f. absurd (omega arith)) refl in
      push-stacked P c (0 ∷ []) (0 ∷ 1 ∷ []) 1 one (omega arith) (λ j k e f. absurd (omega arith)) refl

  -- the next place is pushed if it doesn't pop the one before it
  pub prefix_more : (k : ℕ) → 2 ≤ k → k < length c → IsStacked P c (range_with_len 0 k) k
      → ¬ (P (point_at c (k - 2)) (point_at c (k - 1)) (point_at c k)) → IsStacked P c (range_with_len 0 (k + 1)) (k + 1)
  prefix_more k two within s none =
      let n : length (range_with_len 0 k) ≡ k = length-range_with_len 0 k in
      push-stacked P c (range_with_len 0 k) (range_with_len 0 (k + 1)) k s within
      (λ i j e f h. none ((before_stack k i j k (k - 2) (k - 1) (omega arith) (omega arith) (omega arith) (omega arith)).0 h))
      (sym (range_more (range_with_len 0 k) (range_with_len 0 k ++ k ∷ []) 0 k (k + 1) k refl (omega arith) (omega arith) refl))

  -- the next place pops the one before it if that passes
  pub prefix_walked : (k v : ℕ) (S : List ℕ) → 2 ≤ k → k < length c → IsStacked P c (range_with_len 0 k) k
      → P (point_at c (k - 2)) (point_at c (k - 1)) (point_at c k) → v + 1 ≡ k → S ≡ range_with_len 0 (k - 1 - 0) → IsWalked P c S k v
  prefix_walked k v S two within s holds visits e =
      let n : length (range_with_len 0 k) ≡ k = length-range_with_len 0 k in
      let z : k - 1 - 0 ≡ k - 1 = omega arith in
      let f : S ≡ range_with_len 0 (k - 1) = e ∙ ap (range_with_len 0) z in
      let l : length S ≡ k - 1 = ap length f ∙ length-range_with_len 0 (k - 1) in
      record {
        stacked = pop-stacked P c (range_with_len 0 k) S k (k - 2) (k - 1) s (omega arith) (omega arith) within
            ((before_stack k (k - 2) (k - 1) k (k - 2) (k - 1) (omega arith) (omega arith) refl refl).1 holds)
            (f ∙ sym (take_range (k - 1) k 0 (omega arith)));
        fewer = omega arith;
        most = omega arith;
        least = omega arith;
      }

  -- once all places are on the stack, the first is dropped if it passes between the last and the second
  pub whole_without_first : (n v : ℕ) → n ≡ length c → 3 ≤ n → v + 1 ≡ n → IsStacked P c (range_with_len 0 (length c)) (length c)
      → P (point_at c (n - 1)) (point_at c 0) (point_at c 1) → IsWalked P c (range_with_len 1 (n - 1)) (length c) v
  whole_without_first n v all three visits s holds =
      let m : ℕ = n - 3 in
      let l : length (range_with_len 0 (length c)) ≡ length c = length-range_with_len 0 (length c) in
      let r : length (range_with_len 1 (n - 1)) ≡ n - 1 = length-range_with_len 1 (n - 1) in
      let d : length c ≡ suc (n - 1) = omega arith in
      record {
        stacked = drop-first P c (range_with_len 0 (length c)) (range_with_len 1 (n - 1)) m s (omega arith)
            ((on_stack (length c) (m + 2) 0 1 (n - 1) 0 1 (omega arith) (omega arith) (omega arith) (omega arith) refl refl).1 holds)
            (sym (ap (λ (k : ℕ). drop 1 (range_with_len 0 k)) d));
        fewer = omega arith;
        most = omega arith;
        least = omega arith;
      }

  -- once all places are on the stack, the last is dropped if it passes between the one before it and the first
  pub whole_without_last : (n v k : ℕ) → n ≡ length c → 3 ≤ n → v ≡ n → k + 1 ≡ n → IsStacked P c (range_with_len 0 (length c)) (length c)
      → P (point_at c (n - 1 - 1)) (point_at c (n - 1)) (point_at c 0) → IsWalked P c (range_with_len 0 k) (length c) v
  whole_without_last n v k all three visits less s holds =
      let m : ℕ = n - 3 in
      let l : length (range_with_len 0 (length c)) ≡ length c = length-range_with_len 0 (length c) in
      let r : length (range_with_len 0 k) ≡ k = length-range_with_len 0 k in
      let d : m + 2 ≡ k = omega arith in
      record {
        stacked = drop-last P c (range_with_len 0 (length c)) (range_with_len 0 k) m s (omega arith)
            ((on_stack (length c) (m + 1) (m + 2) 0 (n - 1 - 1) (n - 1) 0 (omega arith) (omega arith) (omega arith) (omega arith) (omega arith) refl).1 holds)
            (sym (take_range (m + 2) (length c) 0 (omega arith) ∙ ap (range_with_len 0) d));
        fewer = omega arith;
        most = omega arith;
        least = omega arith;
      }

  -- if neither passes, the contour is its own end
  pub whole_ends : (n : ℕ) → n ≡ length c → 3 ≤ n → IsStacked P c (range_with_len 0 (length c)) (length c)
      → ¬ (P (point_at c (n - 1)) (point_at c 0) (point_at c 1)) → ¬ (P (point_at c (n - 1 - 1)) (point_at c (n - 1)) (point_at c 0)) → End P c c
  whole_ends n all three s first last =
      let m : ℕ = n - 3 in
      let l : length (range_with_len 0 (length c)) ≡ length c = length-range_with_len 0 (length c) in
      subst (End P c) (sym (points_of_all c)) (stacked-end P c (range_with_len 0 (length c)) m s (omega arith)
      (λ h. first ((on_stack (length c) (m + 2) 0 1 (n - 1) 0 1 (omega arith) (omega arith) (omega arith) (omega arith) refl refl).0 h))
      (λ h. last ((on_stack (length c) (m + 1) (m + 2) 0 (n - 1 - 1) (n - 1) 0 (omega arith) (omega arith) (omega arith) (omega arith) (omega arith) refl).0 h)))
