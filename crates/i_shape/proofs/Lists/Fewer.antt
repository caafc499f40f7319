-- Sums over concatenated lists.
use Rattle.std.proofs.Common.{◌≡◌, ℕ, List, [], ◌∷◌, length, length-append, refl, arith, sum_by}
use Rattle.std.proofs.lemmas.List.Sums.{sum_by-cons, sum_by-append}
use Rattle.i_shape.proofs.Common.{concatenated}

-- the sum over a concatenation is the sum of the sums over its lists
pub sum_by-concatenated : {X : Type 0} (f : X → ℕ) (lists : List (List X)) → sum_by f (concatenated lists) ≡ sum_by (λ list. sum_by f list) lists
sum_by-concatenated f [] = refl
sum_by-concatenated f (list ∷ lists) = omega (arith, sum_by-append f list (concatenated lists), sum_by-cons (λ list. sum_by f list) list lists, sum_by-concatenated f lists)

-- summing 1 for each item is the length
pub sum_by-one : {X : Type 0} (list : List X) → sum_by (λ x. 1) list ≡ length list
sum_by-one [] = refl
sum_by-one (x ∷ list) = omega (arith, sum_by-cons (λ x. 1) x list, sum_by-one list)

-- the lengths of lists sum up to that of their concatenation
pub sum_by-length : {X : Type 0} (lists : List (List X)) → sum_by length lists ≡ length (concatenated lists)
sum_by-length [] = refl
sum_by-length (list ∷ lists) = omega (arith, sum_by-cons length list lists, sum_by-length lists, length-append list (concatenated lists))
