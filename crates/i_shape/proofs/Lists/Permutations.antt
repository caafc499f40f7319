-- What holds along permutations.
use Rattle.std.proofs.Common.{ℕ, zero, suc, ◌<◌, List, [], ◌∷◌, length, get_or, set, swap, arith, IsPermutation}
use Rattle.i_shape.proofs.Common.{AllZip}
use Rattle.std.proofs.lemmas.List.Sorted.{IsPermutation-refl, IsPermutation-keeps, IsPermutation-cons, IsPermutation-middle, IsPermutation-trans}

-- A relation holds along each permutation if it is reflexive and transitive, and holds under a common head and between
-- lists with their first two items exchanged.
module _ {X : Type 0} (R : List X → List X → Type 0) (same : (xs : List X) → R xs xs)
    (skip : (x : X) (xs ys : List X) → R xs ys → R (x ∷ xs) (x ∷ ys))
    (exchange : (x y : X) (xs : List X) → R (x ∷ y ∷ xs) (y ∷ x ∷ xs))
    (chain : (xs ys zs : List X) → R xs ys → R ys zs → R xs zs) where
  -- a list is related to the one with its first item and a later one exchanged
  to_head : (l : List X) (j : ℕ) (x d : X) → j < length l → R (x ∷ l) (get_or l j d ∷ set l j x)
  to_head [] j x d h = absurd (omega arith)
  to_head (y ∷ l) zero x d h = exchange x y l
  to_head (y ∷ l) (suc j) x d h = chain _ _ _ (exchange x y l) (chain _ _ _ (skip y _ _ (to_head l j x d (omega arith))) (exchange y (get_or l j d) (set l j x)))

  exchanged : (l : List X) (i j : ℕ) (d : X) → i < length l → j < length l → R l (set (set l i (get_or l j d)) j (get_or l i d))
  exchanged [] i j d p q = absurd (omega arith)
  exchanged (x ∷ l) zero zero d p q = same (x ∷ l)
  exchanged (x ∷ l) zero (suc j) d p q = to_head l j x d (omega arith)
  exchanged (x ∷ l) (suc i) zero d p q = to_head l i x d (omega arith)
  exchanged (x ∷ l) (suc i) (suc j) d p q = skip x _ _ (exchanged l i j d (omega arith) (omega arith))

  swapped : (l : List X) (i j : ℕ) → i < length l → j < length l → R l (swap l i j)
  swapped [] i j p q = same []
  swapped (x ∷ l) i j p q = exchanged (x ∷ l) i j x p q

  -- such a relation holds along each permutation
  pub along_permutation : (xs ys : List X) → IsPermutation xs ys → R xs ys
  along_permutation xs = IsPermutation-keeps xs (R xs) (same xs) (λ l i j p q h. chain xs l _ h (swapped l i j p q))

-- A list that is pairwise related to xs follows the permutations of xs.
module _ {X Y : Type 0} (G : X → Y → Type 0) where
  -- each list that is pairwise related to xs has a permutation that is pairwise related to ys
  abbrev pub Follows : List X → List X → Type 0
  Follows xs ys = (us : List Y) → AllZip G xs us → (vs : List Y) × IsPermutation us vs × AllZip G ys vs

  follows_skip : (x : X) (xs ys : List X) → Follows xs ys → Follows (x ∷ xs) (x ∷ ys)
  follows_skip x xs ys h [] z = absurd z
  follows_skip x xs ys h (u ∷ us) z = let r = h us z.1 in (u ∷ r.0, IsPermutation-cons u us r.0 r.1, (z.0, r.2))

  follows_exchange : (x y : X) (xs : List X) → Follows (x ∷ y ∷ xs) (y ∷ x ∷ xs)
  follows_exchange x y xs [] z = absurd z
  follows_exchange x y xs (u ∷ []) z = absurd z.1
  follows_exchange x y xs (u ∷ v ∷ us) z = (v ∷ u ∷ us, IsPermutation-middle (u ∷ []) v us, (z.1.0, (z.0, z.1.1)))

  follows_chain : (xs ys zs : List X) → Follows xs ys → Follows ys zs → Follows xs zs
  follows_chain xs ys zs h k us z = let r = h us z in let s = k r.0 r.2 in (s.0, IsPermutation-trans us r.0 s.0 r.1 s.1, s.2)

  -- a pairwise related list follows each permutation
  pub follows_permutation : (xs ys : List X) → IsPermutation xs ys → Follows xs ys
  follows_permutation = along_permutation Follows (λ xs us z. (us, IsPermutation-refl us, z)) follows_skip follows_exchange follows_chain
