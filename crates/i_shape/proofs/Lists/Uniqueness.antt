-- Two sorted permutations of each other are equal.
use Rattle.std.proofs.Common.{◌≡◌, ◌+◌, ◌<◌, ℕ, suc, List, [], ◌∷◌, refl, sym, ap, subst, arith, IsPermutation, All, AllPairs, sum_by}
use Rattle.std.proofs.lemmas.List.Elements.{All-cons, All-head, All-tail}
use Rattle.std.proofs.lemmas.List.Sums.{sum_by-cons}
use Rattle.std.proofs.lemmas.List.Sorted.{sum_by-IsPermutation}

module _ {X : Type 0} (AtMost : X → X → Type 0) where
  -- the tail of a sorted list is sorted
  pub pairs_tail : (x : X) (xs : List X) → AllPairs AtMost (x ∷ xs) → AllPairs AtMost xs
  pairs_tail x xs h i j d p q = h (suc i) (suc j) d (omega arith) (omega arith)

  -- the head of a sorted list is at most each other member
  pub pairs_head : (x : X) (xs : List X) → AllPairs AtMost (x ∷ xs) → All (AtMost x) xs
  pairs_head x xs h j d q = h 0 (suc j) d (omega arith) (omega arith)

  module _ (decide : (x y : X) → Dec (x ≡ y)) (itself : (x : X) → AtMost x x) (antisym : (x y : X) → AtMost x y → AtMost y x → x ≡ y) where
    -- 1 if x equals y, otherwise 0
    abbrev told : {x y : X} → Dec (x ≡ y) → ℕ
    told (yes e) = 1
    told (no n) = 0

    -- the number of times that y is a member
    abbrev times : X → List X → ℕ
    times y xs = sum_by (λ x. told (decide x y)) xs

    once : (y : X) → told (decide y y) ≡ 1
    once y = go (decide y y)
      where
        go : (d : Dec (y ≡ y)) → told d ≡ 1
        go (yes e) = refl
        go (no n) = absurd (n refl)

    holds_of_member : (P : X → Type 0) (y : X) (xs : List X) → 0 < times y xs → All P xs → P y
    holds_of_member P y [] some all = absurd (omega (arith, some))
    holds_of_member P y (x ∷ xs) some all = go (decide x y) (omega (arith, some, sum_by-cons (λ z. told (decide z y)) x xs)) (λ more. holds_of_member P y xs more (All-tail P x xs all))
      where
        go : (d : Dec (x ≡ y)) → 0 < told d + times y xs → (0 < times y xs → P y) → P y
        go (yes e) more later = subst P e (All-head P x xs all)
        go (no n) more later = let rest : 0 < 0 + times y xs = more in later (omega (arith, rest))

    first_at_most : (x y : X) (xs ys : List X) → ((f : X → ℕ) → sum_by f (x ∷ xs) ≡ sum_by f (y ∷ ys)) → AllPairs AtMost (x ∷ xs) → AtMost x y
    first_at_most x y xs ys same up =
        let some : 0 < times y (x ∷ xs) = omega (arith, same (λ z. told (decide z y)), sum_by-cons (λ z. told (decide z y)) y ys, once y) in
        holds_of_member (AtMost x) y (x ∷ xs) some (All-cons (AtMost x) x xs (itself x) (pairs_head x xs up))

    -- two sorted lists with equal sums of each f are equal
    same_by_sums : (xs ys : List X) → ((f : X → ℕ) → sum_by f xs ≡ sum_by f ys) → AllPairs AtMost xs → AllPairs AtMost ys → xs ≡ ys
    same_by_sums [] [] same up down = refl
    same_by_sums [] (y ∷ ys) same up down = absurd (omega (arith, same (λ z. 1), sum_by-cons (λ z. 1) y ys))
    same_by_sums (x ∷ xs) [] same up down = absurd (omega (arith, same (λ z. 1), sum_by-cons (λ z. 1) x xs))
    same_by_sums (x ∷ xs) (y ∷ ys) same up down =
        let first : x ≡ y = antisym x y (first_at_most x y xs ys same up) (first_at_most y x ys xs (λ f. sym (same f)) down) in
        let rest = same_by_sums xs ys (λ f. omega (arith, same f, sum_by-cons f x xs, sum_by-cons f y ys, ap f first)) (pairs_tail x xs up) (pairs_tail y ys down) in
        λ i. first i ∷ rest i

    -- two sorted permutations of each other are equal
    pub in_one_order : (xs ys : List X) → IsPermutation xs ys → AllPairs AtMost xs → AllPairs AtMost ys → xs ≡ ys
    in_one_order xs ys same = same_by_sums xs ys (λ f. sym (sum_by-IsPermutation f xs ys same))
