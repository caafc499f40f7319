-- Each list can be sorted.
use Rattle.std.proofs.Common.{◌⊎◌, zero, suc, List, [], ◌∷◌, inl, inr, arith, IsPermutation, All, AllPairs}
use Rattle.std.proofs.lemmas.List.Elements.{All-cons, All-weaker}
use Rattle.std.proofs.lemmas.List.Sorted.{IsPermutation-refl, IsPermutation-cons, IsPermutation-middle, IsPermutation-trans, All-permutation}
use Rattle.i_shape.proofs.Lists.Uniqueness.{pairs_tail, pairs_head}

module _ {X : Type 0} (AtMost : X → X → Type 0) where
  pairs_cons : (x : X) (xs : List X) → All (AtMost x) xs → AllPairs AtMost xs → AllPairs AtMost (x ∷ xs)
  pairs_cons x xs first up zero zero d p q = absurd (omega arith)
  pairs_cons x xs first up zero (suc j) d p q = first j d (omega arith)
  pairs_cons x xs first up (suc i) zero d p q = absurd (omega arith)
  pairs_cons x xs first up (suc i) (suc j) d p q = up i j d (omega arith) (omega arith)

  module _ (total : (x y : X) → AtMost x y ⊎ AtMost y x) (trans : (x y z : X) → AtMost x y → AtMost y z → AtMost x z) where
    -- a member can be inserted into a sorted list
    inserted : (x : X) (xs : List X) → AllPairs AtMost xs → (ys : List X) × IsPermutation (x ∷ xs) ys × AllPairs AtMost ys
    inserted x [] up = (x ∷ [], IsPermutation-refl (x ∷ []), pairs_cons x [] (λ j d h. absurd (omega arith)) up)
    inserted x (y ∷ xs) up = go (total x y) (inserted x xs (pairs_tail AtMost y xs up))
      where
        go : AtMost x y ⊎ AtMost y x → (ys : List X) × IsPermutation (x ∷ xs) ys × AllPairs AtMost ys → (ys : List X) × IsPermutation (x ∷ y ∷ xs) ys × AllPairs AtMost ys
        go (inl h) rest = (
          x ∷ y ∷ xs,
          IsPermutation-refl (x ∷ y ∷ xs),
          pairs_cons x (y ∷ xs) (All-cons (AtMost x) y xs h (All-weaker (AtMost y) (AtMost x) (λ z k. trans x y z h k) xs (pairs_head AtMost y xs up))) up,
        )
        go (inr h) (ys, moved, sorted) = (
          y ∷ ys,
          IsPermutation-trans (x ∷ y ∷ xs) (y ∷ x ∷ xs) (y ∷ ys) (IsPermutation-middle (x ∷ []) y xs) (IsPermutation-cons y (x ∷ xs) ys moved),
          pairs_cons y ys (All-permutation (AtMost y) (x ∷ xs) ys moved (All-cons (AtMost y) x xs h (pairs_head AtMost y xs up))) sorted,
        )

    -- each list has a sorted permutation
    pub sorted_exists : (xs : List X) → (ys : List X) × IsPermutation xs ys × AllPairs AtMost ys
    sorted_exists [] = ([], IsPermutation-refl [], λ i j d p q. absurd (omega arith))
    sorted_exists (x ∷ xs) =
        let rest = sorted_exists xs in
        let here = inserted x rest.0 rest.2 in
        (here.0, IsPermutation-trans (x ∷ xs) (x ∷ rest.0) here.0 (IsPermutation-cons x xs rest.0 rest.1) here.1, here.2)
